-- `image_writer::figures::U32Placed::put` meets its contract.
-- Assumes nothing.
use Rattle.images.specs.FiguresImage.Properties.{put_figure}
use Rattle.image_writer.proofs.figures.U32Placed.put.Goals as goal

pub returns : goal.returns
returns c = search put_figure
