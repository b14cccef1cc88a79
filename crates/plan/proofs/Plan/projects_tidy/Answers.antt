-- `plan::Plan::projects_tidy` meets its contract.
-- Assumes nothing.
use Rattle.std.proofs.Common.{arith}
use Rattle.laws.specs.All.Properties.{all_none, all_more, all_stop, all_fails}
use Rattle.plan.specs.Order.{tidy_projects}
use Rattle.plan.specs.Order.Properties.{used_place, empty_place, full_place}
use Rattle.plan.proofs.Plan.projects_tidy.Goals as goal
use Rattle.plan.proofs.Plan.projects_tidy.Goals.{else-from-j-via-then-from-j+else-not-is_empty, else-from-j-via-else-from-j}

pub loop-j-init : goal.loop-j-init
loop-j-init c = all_none _

pub returns-then-not-is_empty : goal.returns-then-not-is_empty
unfolding tidy_projects
returns-then-not-is_empty c = all_fails _ c.loop-j.j _ (search full_place) (omega arith)

pub loop-j-preserved : goal.loop-j-preserved
loop-j-preserved c =
    elim c.else-from-j.branch [
      | else-from-j-via-then-from-j+else-not-is_empty w ↦ all_more _ _ c.loop-j.invariant (search empty_place)
      | else-from-j-via-else-from-j w ↦ all_more _ _ c.loop-j.invariant (search used_place)
    ]

pub returns : goal.returns
unfolding tidy_projects
returns c = all_stop _ _ _ _ c.loop-j.invariant (omega arith) (omega arith)
