-- `plan::Plan::projects_in_range` meets its contract.
-- Assumes nothing.
use Rattle.std.proofs.Math.Path.{◌≡◌}
use Prim.Native.Nat.{◌≤◌, ◌*◌}
use Rattle.laws.specs.Sum.{sum_to}
use Rattle.answer.specs.declared.Answer.TheVariants.{Good}
use Rattle.answer.specs.Answer.{each_to}
use Rattle.plan.specs.Order.{budget_of}
use Rattle.plan.specs.Open.{project_in_range_but}
use Rattle.plan.proofs.Plan.projects_in_range.Given as goal

abbrev pub invariant-loop-j : goal.invariant-loop-j
invariant-loop-j l =
    (Good ≡ each_to l.j (project_in_range_but l.skipped l.self)) × (l.sum ≡ sum_to l.j (budget_of l.self)) × (l.sum ≤ 65535 * l.j)
