-- `rack::row::project_cards` meets its contract.
-- Assumes nothing.
use Rattle.std.proofs.Math.Path.{◌≡◌}
use Rattle.std.specs.Prelude.{replicate}
use Prim.Native.Nat.{◌≤◌}
use Rattle.laws.specs.Written.{written}
use Rattle.layout.specs.Layout.{first_cell}
use Rattle.rack.specs.Seat.{lowest_at, end_at}
use Rattle.rack.proofs.row.project_cards.Given as goal

abbrev pub invariant-loop-j : goal.invariant-loop-j
invariant-loop-j l =
    (l.j ≤ l.j-end) × (l.j-end ≡ l.plan.projects) × (l.cell ≡ first_cell l.plan l.j) × (l.card ≡ lowest_at l.plan l.slice l.j)
    × (l.low ≡ written l.j (lowest_at l.plan l.slice) (replicate 8 0)) × (l.end ≡ written l.j (end_at l.plan l.slice) (replicate 8 0))
