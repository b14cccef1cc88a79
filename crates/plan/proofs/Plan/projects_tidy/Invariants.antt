-- `plan::Plan::projects_tidy` meets its contract.
-- Assumes nothing.
use Rattle.std.proofs.Math.Path.{◌≡◌}
use Rattle.std.specs.Prelude.{true}
use Rattle.laws.specs.All.{all_to}
use Rattle.plan.specs.Order.{tidy_project}
use Rattle.plan.proofs.Plan.projects_tidy.Given as goal

abbrev pub invariant-loop-j : goal.invariant-loop-j
invariant-loop-j l = true ≡ all_to l.j (tidy_project l.self)
