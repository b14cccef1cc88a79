-- `rescue::entries::Notes::note_kind` meets its contract.
-- Assumes nothing.
use Rattle.std.proofs.Common.{arith}
use Rattle.rescue.specs.Rescue.{kind_entries}
use Rattle.rescue.proofs.entries.Notes.note_kind.Goals as goal

pub returns-then-kept : goal.returns-then-kept
unfolding kind_entries
returns-then-kept c = (rw c.if-kept.true c.note.ensures.0, c.note.ensures.1)

pub returns-else-kept : goal.returns-else-kept
unfolding kind_entries
returns-else-kept c = let b = c.put.ensures.behind in (rw c.if-kept.false c.put.ensures, omega arith)
