-- `image_writer::U16Placed::put` meets its contract.
-- Assumes nothing.
use Rattle.images.specs.Image.Properties.{put_sum}
use Rattle.image_writer.proofs.U16Placed.put.Goals as goal

pub returns : goal.returns
returns c = search put_sum
