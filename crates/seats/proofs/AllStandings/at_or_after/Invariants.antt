-- `seats::AllStandings::at_or_after` meets its contract.
-- Assumes nothing.
use Rattle.std.proofs.Math.Path.{◌≡◌}
use Prim.Native.Nat.{◌≤◌, ◌-◌}
use Rattle.laws.specs.Count.{count_to}
use Rattle.seats.specs.Ranks.{reaches}
use Rattle.seats.proofs.AllStandings.at_or_after.Given as goal

abbrev pub invariant-loop-standing : goal.invariant-loop-standing
invariant-loop-standing l =
    (l.standing-index ≤ 16) × (l.x ≤ 268435456) × (l.turn ≡ 268435456 - l.x) × (l.count ≤ l.standing-index) ×
    (l.count ≡ count_to l.standing-index (reaches l.self.each l.x))
