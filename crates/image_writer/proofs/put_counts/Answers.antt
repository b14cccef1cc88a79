-- `image_writer::put_counts` meets its contract.
-- Assumes nothing.
use Rattle.images.specs.Image.Properties.{put_counts}
use Rattle.image_writer.proofs.put_counts.Goals as goal

pub returns : goal.returns
returns c = search put_counts
