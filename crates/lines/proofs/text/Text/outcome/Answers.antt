-- `lines::text::Text::outcome` meets its contract.
-- Assumes nothing.
use Rattle.std.proofs.Common.{arith}
use Rattle.lines.specs.Line.{outcome}
use Rattle.lines.specs.Text.Properties.{adds_then}
use Rattle.lines.proofs.text.Text.outcome.Goals as goal

pub returns-in_default : goal.returns-in_default
unfolding outcome
returns-in_default c = let e = c.word.ensures.puts.end in (rw c.in_default.is c.word.ensures, omega arith)

pub returns : goal.returns
unfolding outcome
returns c =
    let e = c.word-2.ensures.puts.end in (
      rw c.in-No.is (adds_then _ _ _ _ _ (rw (c.from.ensures, c.number.ensures, c.in-No.is) at c.both.ensures.0) c.word-2.ensures),
      omega arith,
    )
