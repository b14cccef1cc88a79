-- `lines::line::Line::put` meets its contract.
-- Assumes nothing.
use Rattle.lines.specs.Line.Properties.{prints_short, prints_late, prints_lent}
use Rattle.lines.proofs.line.Line.put.Goals as goal

pub returns-then-out-lt-ROOM : goal.returns-then-out-lt-ROOM
returns-then-out-lt-ROOM c = search prints_short

pub returns-then-out-at : goal.returns-then-out-at
returns-then-out-at c = search prints_late

pub returns : goal.returns
returns c = prints_lent _ _ _ _ _ c.line.ensures c.if-out-lt-ROOM.false c.if-out-at.false search
