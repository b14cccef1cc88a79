-- `rack::State::check` meets its contract.
-- Assumes nothing.
use Prim.Native.Nat.{◌≤◌}
use Rattle.rack.proofs.Laws.Found.{Looked}
use Rattle.rack.proofs.State.check.Given as goal

abbrev pub invariant-loop-i : goal.invariant-loop-i
invariant-loop-i l = (l.i ≤ 16) × Looked l.fn.self l.i l.works l.until l.left
