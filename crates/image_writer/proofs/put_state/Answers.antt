-- `image_writer::put_state` meets its contract.
-- Assumes nothing.
use Rattle.image_writer.proofs.Chunk.{state_stored}
use Rattle.image_writer.proofs.put_state.Goals as goal

pub returns : goal.returns
returns c = state_stored _ _ _ c.in-Some.ensures.cases _ _ _ c.store_running.ensures c.put_plan.ensures
