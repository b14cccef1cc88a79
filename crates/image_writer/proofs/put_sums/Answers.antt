-- `image_writer::put_sums` meets its contract.
-- Assumes nothing.
use Rattle.image_writer.proofs.put_sums.Goals as goal

pub returns : goal.returns
returns c = c.put_row.ensures 0
