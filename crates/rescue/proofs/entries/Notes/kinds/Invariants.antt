-- `rescue::entries::Notes::kinds` meets its contract.
-- Assumes nothing.
use Rattle.std.specs.Prelude.{◌+◌, ◌*◌, ◌≤◌}
use Rattle.rescue.specs.Entry.{entries_to, Noted}
use Rattle.rescue.specs.Rescue.{kind_changes}
use Rattle.rescue.proofs.entries.Notes.kinds.Given as goal

abbrev pub invariant-loop-i : goal.invariant-loop-i
invariant-loop-i l =
    Noted l.initial.self.count l.initial.self.bytes (entries_to l.i (kind_changes l.fn.plan)) l.self.count l.self.bytes
    × (l.self.count ≤ l.initial.self.count + 6 * l.i)
