-- `plan::Plan::kinds_tidy` meets its contract.
-- Assumes nothing.
use Rattle.std.proofs.Common.{arith}
use Rattle.laws.specs.All.Properties.{all_none, all_more, all_stop, all_fails}
use Rattle.plan.specs.Order.{tidy_kinds}
use Rattle.plan.specs.Order.Properties.{used_place, empty_place, full_place}
use Rattle.plan.proofs.Plan.kinds_tidy.Goals as goal
use Rattle.plan.proofs.Plan.kinds_tidy.Goals.{else-from-i-via-then-from-i+else-not-is_empty, else-from-i-via-else-from-i}

pub loop-i-init : goal.loop-i-init
loop-i-init c = all_none _

pub returns-then-not-is_empty : goal.returns-then-not-is_empty
unfolding tidy_kinds
returns-then-not-is_empty c = all_fails _ c.loop-i.i _ (search full_place) (omega arith)

pub loop-i-preserved : goal.loop-i-preserved
loop-i-preserved c =
    elim c.else-from-i.branch [
      | else-from-i-via-then-from-i+else-not-is_empty w ↦ all_more _ _ c.loop-i.invariant (search empty_place)
      | else-from-i-via-else-from-i w ↦ all_more _ _ c.loop-i.invariant (search used_place)
    ]

pub returns : goal.returns
unfolding tidy_kinds
returns c = all_stop _ _ _ _ c.loop-i.invariant (omega arith) (omega arith)
