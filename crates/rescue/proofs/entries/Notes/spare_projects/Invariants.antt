-- `rescue::entries::Notes::spare_projects` meets its contract.
-- Assumes nothing.
use Rattle.std.specs.Prelude.{◌+◌, ◌*◌, ◌≤◌}
use Rattle.rescue.specs.Entry.{entries_to, Noted}
use Rattle.rescue.specs.Rescue.{project_spare_change}
use Rattle.rescue.proofs.entries.Notes.spare_projects.Given as goal

abbrev pub invariant-loop-j : goal.invariant-loop-j
invariant-loop-j l =
    Noted l.initial.self.count l.initial.self.bytes (entries_to l.j (project_spare_change l.bytes)) l.self.count l.self.bytes
    × (l.self.count ≤ l.initial.self.count + 6 * l.j)
