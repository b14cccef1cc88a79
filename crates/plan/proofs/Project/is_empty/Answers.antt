-- `plan::Project::is_empty` meets its contract.
-- Assumes nothing.
use Rattle.std.proofs.Common.{rules}
use Rattle.plan.specs.Order.{empty_project}
use Rattle.plan.proofs.Project.is_empty.Goals as goal

pub returns : goal.returns
unfolding empty_project
returns c = search rules
