-- `image_writer::figures::put_slices` meets its contract.
-- Assumes nothing.
use Rattle.image_writer.proofs.figures.put_slices.Goals as goal

pub returns : goal.returns
returns c = c.put_row.ensures 0
