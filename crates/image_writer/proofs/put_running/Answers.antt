-- `image_writer::put_running` meets its contract.
-- Assumes nothing.
use Rattle.image_writer.proofs.Chunk.{running_stored}
use Rattle.image_writer.proofs.put_running.Goals as goal

pub returns : goal.returns
returns c = running_stored _ _ _ c.in-Some.ensures.cases _ c.store_running.ensures
