-- `image_reader::project_from` meets its contract.
-- Assumes nothing.
use Rattle.images.specs.Image.Properties.{project_at_law}
use Rattle.image_reader.proofs.project_from.Goals as goal

pub returns : goal.returns
returns c = search project_at_law
