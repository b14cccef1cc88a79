-- `image_reader::kind_from` meets its contract.
-- Assumes nothing.
use Rattle.images.specs.Image.Properties.{kind_at_law}
use Rattle.image_reader.proofs.kind_from.Goals as goal

pub returns : goal.returns
returns c = search kind_at_law
