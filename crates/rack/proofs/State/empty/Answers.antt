-- `rack::State::empty` meets its contract.
-- Assumes nothing.
use Rattle.rack.specs.State.Properties.{fresh_empty}
use Rattle.rack.proofs.State.empty.Goals as goal

pub returns : goal.returns
returns c = search fresh_empty
