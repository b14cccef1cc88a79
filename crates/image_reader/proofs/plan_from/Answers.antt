-- `image_reader::plan_from` meets its contract.
-- Assumes nothing.
use Rattle.images.specs.Image.Properties.{plan_from_law}
use Rattle.image_reader.proofs.plan_from.Goals as goal

pub returns : goal.returns
returns c = search plan_from_law
