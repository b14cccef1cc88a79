-- `plan::check::within` meets its contract.
-- Assumes nothing.
use Rattle.std.proofs.Common.{rules}
use Rattle.plan.specs.Order.{within}
use Rattle.plan.proofs.check.within.Goals as goal

pub returns : goal.returns
unfolding within
returns c = search rules
