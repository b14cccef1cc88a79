-- `seats::AllStandings::of` meets its contract.
-- Assumes nothing.
use Prim.Native.Nat.{◌≤◌}
use Rattle.seats.specs.Ranks.{Standings}
use Rattle.seats.proofs.AllStandings.of.Given as goal

abbrev pub invariant-loop-i : goal.invariant-loop-i
invariant-loop-i l = (l.i ≤ l.kinds) × (l.kinds ≤ 16) × Standings l.works l.until l.i l.each
