-- `image_writer::KindPlaced::put` meets its contract.
-- Assumes nothing.
use Rattle.images.specs.Image.Properties.{put_kind}
use Rattle.image_writer.proofs.KindPlaced.put.Goals as goal

pub returns : goal.returns
returns c = search put_kind
