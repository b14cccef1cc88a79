-- `rescue::entries::Notes::projects` meets its contract.
-- Assumes nothing.
use Rattle.std.specs.Prelude.{◌+◌, ◌*◌, ◌≤◌}
use Rattle.rescue.specs.Entry.{entries_to, Noted}
use Rattle.rescue.specs.Rescue.{project_changes}
use Rattle.rescue.proofs.entries.Notes.projects.Given as goal

abbrev pub invariant-loop-j : goal.invariant-loop-j
invariant-loop-j l =
    Noted l.initial.self.count l.initial.self.bytes (entries_to l.j (project_changes l.fn.plan)) l.self.count l.self.bytes
    × (l.self.count ≤ l.initial.self.count + 12 * l.j)
