-- `plan::Plan::project_there` meets its contract.
-- Assumes nothing.
use Rattle.std.proofs.Common.{rules}
use Rattle.laws.specs.Tests.{tests}
use Rattle.plan.specs.Open.{project_there}
use Rattle.plan.proofs.Plan.project_there.Goals as goal

pub returns-then-from-project : goal.returns-then-from-project
unfolding project_there
returns-then-from-project c = search (rules, tests)

pub returns : goal.returns
unfolding project_there
returns c = search (rules, tests)
