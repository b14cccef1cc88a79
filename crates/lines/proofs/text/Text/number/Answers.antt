-- `lines::text::Text::number` meets its contract.
-- Assumes nothing.
use Rattle.std.proofs.Common.{arith}
use Rattle.lines.specs.Text.Properties.{adds_digit, adds_number}
use Rattle.lines.proofs.text.Text.number.Goals as goal

pub returns-then-n-lt10 : goal.returns-then-n-lt10
returns-then-n-lt10 c = let e = c.word.ensures.puts.end in (search adds_digit, omega arith)

pub returns-else-n-lt10 : goal.returns-else-n-lt10
returns-else-n-lt10 c =
    let e = c.word-else-n-lt10.ensures.puts.end in
    (search adds_number, omega (arith, c.as_bytes.ensures.len, c.format.ensures.short))
