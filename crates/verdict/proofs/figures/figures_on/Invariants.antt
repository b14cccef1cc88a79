-- `verdict::figures::figures_on` meets its contract.
-- Assumes nothing.
use Rattle.std.proofs.Math.Path.{◌≡◌}
use Prim.Native.Nat.{◌-◌, ◌≤◌}
use Rattle.std.specs.Prelude.{replicate}
use Rattle.laws.specs.Written.{written}
use Rattle.verdict.specs.Steps.{project_cards}
use Rattle.verdict.specs.Figures.{supply_at, bad_slice_at}
use Rattle.verdict.proofs.figures.figures_on.Given as goal

abbrev pub invariant-loop-below : goal.invariant-loop-below
invariant-loop-below l =
    (l.below ≤ l.ceiling) × (l.ceiling ≤ 8) × (l.cards ≡ project_cards l.plan l.project) ×
    (l.supply ≡ written l.below (supply_at l.plan l.i) (replicate 8 0)) ×
    (l.slice ≡ written l.below (bad_slice_at l.plan l.i) (replicate 8 0))

abbrev pub decreases-loop-below : goal.decreases-loop-below
decreases-loop-below l = l.ceiling - l.below
