-- `rack::State::start` meets its contract.
-- Assumes nothing.
use Rattle.rack.specs.Start.Properties.{start_kept, start_moved}
use Rattle.rack.proofs.State.start.Goals as goal

pub returns-in_default : goal.returns-in_default
returns-in_default c = search start_kept

pub returns : goal.returns
returns c = search start_moved
