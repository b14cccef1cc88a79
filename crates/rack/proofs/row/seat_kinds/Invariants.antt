-- `rack::row::seat_kinds` meets its contract.
-- Assumes nothing.
use Rattle.std.proofs.Math.Path.{◌≡◌}
use Rattle.std.specs.Prelude.{length}
use Prim.Native.Nat.{◌≤◌}
use Rattle.seats.specs.Seats.{at}
use Rattle.rack.specs.Seat.{seated}
use Rattle.rack.proofs.row.seat_kinds.Given as goal

abbrev pub invariant-loop-i : goal.invariant-loop-i
invariant-loop-i l = (l.i ≤ l.kinds) × (length l.out ≡ length l.initial.out) × (l.out ≡ seated (at l.seat) l.i l.initial.out)
