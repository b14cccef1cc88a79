-- `smallest_budget::Open::least_budget` meets its contract.
-- Assumes nothing.
use Rattle.std.proofs.Math.Path.{◌≡◌}
use Rattle.std.specs.Prelude.{true}
use Prim.Native.Nat.{◌≤◌, ◌<◌, ◌-◌}
use Rattle.laws.specs.First.{first_to}
use Rattle.smallest_budget.specs.Smallest.{serves}
use Rattle.smallest_budget.proofs.Open.least_budget.Given as goal

abbrev pub invariant-loop-below : goal.invariant-loop-below
invariant-loop-below l =
    (l.below < l.enough) × (l.enough ≤ l.most) × (l.most ≤ 512) × (0 ≡ first_to l.below (serves l.self.plan l.self.project)) ×
    (serves l.self.plan l.self.project l.enough ≡ true)

abbrev pub decreases-loop-below : goal.decreases-loop-below
decreases-loop-below l = l.enough - l.below
