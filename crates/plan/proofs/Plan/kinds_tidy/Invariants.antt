-- `plan::Plan::kinds_tidy` meets its contract.
-- Assumes nothing.
use Rattle.std.proofs.Math.Path.{◌≡◌}
use Rattle.std.specs.Prelude.{true}
use Rattle.laws.specs.All.{all_to}
use Rattle.plan.specs.Order.{tidy_kind}
use Rattle.plan.proofs.Plan.kinds_tidy.Given as goal

abbrev pub invariant-loop-i : goal.invariant-loop-i
invariant-loop-i l = true ≡ all_to l.i (tidy_kind l.self)
