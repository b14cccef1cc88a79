-- `plan::Plan::tidy` meets its contract.
-- Assumes nothing.
use Rattle.std.proofs.Common.{arith}
use Rattle.std.proofs.lemmas.Grind.{common_steps}
use Rattle.plan.proofs.Plan.tidy.Goals as goal

pub returns-then-projects_tidy : goal.returns-then-projects_tidy
returns-then-projects_tidy c = grind (arith, common_steps)

pub returns-else-projects_tidy : goal.returns-else-projects_tidy
returns-else-projects_tidy c = grind (arith, common_steps)
