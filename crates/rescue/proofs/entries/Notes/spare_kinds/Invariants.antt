-- `rescue::entries::Notes::spare_kinds` meets its contract.
-- Assumes nothing.
use Rattle.std.specs.Prelude.{◌+◌, ◌*◌, ◌≤◌}
use Rattle.rescue.specs.Entry.{entries_to, Noted}
use Rattle.rescue.specs.Rescue.{kind_spare_change}
use Rattle.rescue.proofs.entries.Notes.spare_kinds.Given as goal

abbrev pub invariant-loop-i : goal.invariant-loop-i
invariant-loop-i l =
    Noted l.initial.self.count l.initial.self.bytes (entries_to l.i (kind_spare_change l.bytes l.fn.plan)) l.self.count l.self.bytes
    × (l.self.count ≤ l.initial.self.count + 6 * l.i)
