-- `plan::Plan::sized` meets its contract.
-- Assumes nothing.
use Rattle.std.proofs.Common.{arith}
use Rattle.std.proofs.lemmas.Grind.{common_steps}
use Rattle.plan.specs.Order.{sized}
use Rattle.plan.proofs.Plan.sized.Goals as goal

pub returns-then-within-3 : goal.returns-then-within-3
unfolding sized
returns-then-within-3 c = grind (arith, common_steps)

pub returns-else-within-3 : goal.returns-else-within-3
unfolding sized
returns-else-within-3 c = grind (arith, common_steps)
