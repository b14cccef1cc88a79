-- `one_kind::rounded_up` meets its contract.
-- Assumes nothing.
use Rattle.one_kind.specs.Steps.Properties.{rounded_is}
use Rattle.one_kind.proofs.rounded_up.Goals as goal

pub returns : goal.returns
returns c = search rounded_is
