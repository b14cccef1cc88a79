-- `image_writer::U8Placed::put` meets its contract.
-- Assumes nothing.
use Rattle.images.specs.Image.Properties.{put_slice}
use Rattle.image_writer.proofs.U8Placed.put.Goals as goal

pub returns : goal.returns
returns c = search put_slice
