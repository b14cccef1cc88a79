-- `lines::text::Text::plan` meets its contract.
-- Assumes nothing.
use Rattle.std.proofs.Common.{arith}
use Rattle.lines.specs.Line.{plan_line}
use Rattle.lines.specs.Text.Properties.{adds_then}
use Rattle.lines.proofs.text.Text.plan.Goals as goal

pub returns-in_default : goal.returns-in_default
unfolding plan_line
returns-in_default c = let e = c.word.ensures.puts.end in (rw c.in_default.is c.word.ensures, omega arith)

pub returns : goal.returns
unfolding plan_line
returns c =
    let e = c.word-2.ensures.puts.end in (
      rw c.in-No.is (adds_then _ _ _ _ _ (adds_then _ _ _ _ _ (rw (c.from.ensures, c.number.ensures, c.in-No.is) at c.both.ensures.0)
          (rw (c.from-2.ensures, c.place.ensures, c.in-No.is) at c.both-2.ensures.0)) c.word-2.ensures),
      omega arith,
    )
