-- `rack::State::fresh` meets its contract.
-- Assumes nothing.
use Rattle.rack.proofs.State.fresh.Goals as goal

pub returns : goal.returns
returns c = rw c.empty.ensures
