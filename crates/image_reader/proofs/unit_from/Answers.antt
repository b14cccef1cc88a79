-- `image_reader::unit_from` meets its contract.
-- Assumes nothing.
use Rattle.images.specs.Image.Properties.{unit_at}
use Rattle.image_reader.proofs.unit_from.Goals as goal

pub returns : goal.returns
returns c = search unit_at
