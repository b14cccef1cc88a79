-- `rescue::entries::Notes::note` meets its contract.
-- Assumes nothing.
use Rattle.std.proofs.Common.{arith}
use Rattle.rescue.specs.Entry.Properties.{change_some, noted_same}
use Rattle.rescue.proofs.entries.Notes.note.Goals as goal

pub returns-then-old-new : goal.returns-then-old-new
returns-then-old-new c = let b = c.put.ensures.behind in (rw (change_some _ _ _ _ c.if-old-new.true) c.put.ensures, omega arith)

pub returns-else-old-new : goal.returns-else-old-new
returns-else-old-new c = (noted_same _ _ _ _ _ _ c.if-old-new.false, omega arith)
