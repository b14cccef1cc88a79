-- `plan::Plan::kinds_in_range` meets its contract.
-- Assumes nothing.
use Rattle.std.proofs.Math.Path.{◌≡◌}
use Rattle.answer.specs.declared.Answer.TheVariants.{Good}
use Rattle.answer.specs.Answer.{each_to}
use Rattle.plan.specs.Order.{kind_in_range_at}
use Rattle.plan.proofs.Plan.kinds_in_range.Given as goal

abbrev pub invariant-loop-i : goal.invariant-loop-i
invariant-loop-i l = Good ≡ each_to l.i (kind_in_range_at l.self)
