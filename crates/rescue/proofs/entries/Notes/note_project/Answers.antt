-- `rescue::entries::Notes::note_project` meets its contract.
-- Assumes nothing.
use Rattle.std.proofs.Common.{arith}
use Rattle.rescue.specs.Rescue.{project_entries}
use Rattle.rescue.specs.Entry.Properties.{noted_more}
use Rattle.rescue.proofs.entries.Notes.note_project.Goals as goal

pub returns : goal.returns
unfolding project_entries
returns c =
    let first = rw (c.from.ensures, c.from-2.ensures) at c.note.ensures in
    (noted_more _ _ _ _ _ _ _ _ first.0 c.note-2.ensures.0, omega arith)
