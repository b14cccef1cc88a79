-- `rescue::entries::Notes::note_spare` meets its contract.
-- Assumes nothing.
use Rattle.std.proofs.Common.{arith}
use Rattle.rescue.specs.Rescue.{spare_entries}
use Rattle.rescue.specs.Entry.Properties.{noted_none}
use Rattle.rescue.proofs.entries.Notes.note_spare.Goals as goal

pub returns-then-kept : goal.returns-then-kept
unfolding spare_entries
returns-then-kept c = (rw c.if-kept.true c.note.ensures.0, c.note.ensures.1)

pub returns-else-kept : goal.returns-else-kept
unfolding spare_entries
returns-else-kept c = (rw c.if-kept.false (noted_none _ _), omega arith)
