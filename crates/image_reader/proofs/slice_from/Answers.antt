-- `image_reader::slice_from` meets its contract.
-- Assumes nothing.
use Rattle.images.specs.Image.Properties.{slice_at}
use Rattle.image_reader.proofs.slice_from.Goals as goal

pub returns : goal.returns
returns c = search slice_at
