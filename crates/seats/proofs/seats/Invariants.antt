-- `seats::seats` meets its contract.
-- Assumes nothing.
use Rattle.std.proofs.Math.Path.{◌≡◌}
use Prim.Native.Nat.{◌≤◌}
use Rattle.std.specs.Prelude.{replicate}
use Rattle.laws.specs.Written.{written}
use Rattle.seats.specs.Seats.{seat_by}
use Rattle.seats.specs.Ranks.{Standings, Firsts}
use Rattle.seats.proofs.seats.Given as goal

abbrev pub invariant-loop-i : goal.invariant-loop-i
invariant-loop-i l =
    (l.kinds ≤ 16) × (l.i ≤ l.kinds) × Standings l.works l.until l.kinds l.standings.each × Firsts l.standings.each l.firsts
    × (l.seats ≡ written l.i (seat_by l.works l.until l.low l.end l.kinds) (replicate 16 0))
