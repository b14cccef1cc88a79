-- `play::play_all` meets its contract: before each round, so many rounds were played.
-- Assumes nothing.
use Rattle.std.proofs.Math.Path.{◌≡◌}
use Rattle.std.specs.Prelude.{length}
use Prim.Native.Nat.{◌≤◌}
use Rattle.lines.specs.Line.{line_room}
use Rattle.play.specs.Desk.{Playing, most_rounds}
use Rattle.play.proofs.play_all.Given as goal

abbrev pub invariant-loop-rounds : goal.invariant-loop-rounds
invariant-loop-rounds l =
    (Playing l._rounds l.desk l.input) × (l._rounds ≤ most_rounds) × (line_room ≤ length l.input) × (line_room ≤ length l.output) ×
    (length l.input ≡ length l.initial.input) × (length l.output ≡ length l.initial.output)
