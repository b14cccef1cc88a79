-- `lines::text::Text::end` meets its contract.
-- Assumes nothing.
use Rattle.std.proofs.Common.{arith}
use Rattle.lines.specs.Line.{end_line}
use Rattle.lines.specs.Text.Properties.{adds_then}
use Rattle.lines.proofs.text.Text.end.Goals as goal

pub returns : goal.returns
unfolding end_line
returns c = let e = c.word.ensures.puts.end in (search adds_then, omega arith)
