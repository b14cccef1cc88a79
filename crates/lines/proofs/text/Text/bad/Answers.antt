-- `lines::text::Text::bad` meets its contract.
-- Assumes nothing.
use Rattle.std.proofs.Common.{arith}
use Rattle.lines.specs.Text.Properties.{adds_then}
use Rattle.lines.proofs.text.Text.bad.Goals as goal

pub returns : goal.returns
returns c = let e = c.word.ensures.puts.end in (search adds_then, omega arith)
