-- `rack::State::advance` meets its contract.
-- Assumes nothing.
use Prim.Native.Nat.{◌≤◌}
use Rattle.rack.proofs.Laws.Advance.{Laid, Ran}
use Rattle.rack.proofs.State.advance.Given as goal

abbrev pub invariant-loop-i : goal.invariant-loop-i
invariant-loop-i l =
    (l.i ≤ l.i-end) × (l.i-end ≤ 16) × Laid l.self l.seat l.i-end × Ran l.self l.i l.unit l.sum
