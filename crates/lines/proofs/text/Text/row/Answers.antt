-- `lines::text::Text::row` meets its contract.
-- Assumes nothing.
use Rattle.std.proofs.Common.{arith}
use Rattle.lines.specs.Line.Properties.{row_none, row_again}
use Rattle.lines.proofs.text.Text.row.Goals as goal

pub loop-byte-init : goal.loop-byte-init
loop-byte-init c = (row_none _ _, omega arith)

pub loop-byte-preserved : goal.loop-byte-preserved
loop-byte-preserved c = (search row_again, omega arith)
