-- `image_reader::sum_from` meets its contract.
-- Assumes nothing.
use Rattle.images.specs.Image.Properties.{sum_at_law}
use Rattle.image_reader.proofs.sum_from.Goals as goal

pub returns : goal.returns
returns c = search sum_at_law
