-- `plan::Kind::timed` meets its contract.
-- Assumes nothing.
use Rattle.std.proofs.Common.{arith}
use Rattle.std.proofs.lemmas.Grind.{common_steps}
use Rattle.laws.specs.Tests.{tests}
use Rattle.plan.specs.Order.{timed}
use Rattle.plan.proofs.Kind.timed.Goals as goal

pub returns-then-self-2 : goal.returns-then-self-2
unfolding timed
returns-then-self-2 c = grind (arith, common_steps, tests)

pub returns-else-self-2 : goal.returns-else-self-2
unfolding timed
returns-else-self-2 c = grind (arith, common_steps, tests)
