-- `lines::text::Text::slice` meets its contract.
-- Assumes nothing.
use Rattle.std.proofs.Common.{arith}
use Rattle.lines.specs.Line.{slice_line}
use Rattle.lines.specs.Line.Properties.{slice_good}
use Rattle.lines.specs.Text.Properties.{adds_then}
use Rattle.lines.proofs.text.Text.slice.Goals as goal

pub returns-in_default : goal.returns-in_default
unfolding slice_line
returns-in_default c =
    let e = c.word.ensures.puts.end in
    let f = c.word-in_default.ensures.puts.end in (
      rw (slice_good _ _ _ _ _ _ c.in_default.is c.told-row c.from.ensures c.min.ensures) at (adds_then _ _ _ _ _ (adds_then _ _ _ _ _
          (adds_then _ _ _ _ _ c.both.ensures.0 c.word.ensures) c.row.ensures.0) c.word-in_default.ensures),
      omega arith,
    )

pub returns : goal.returns
unfolding slice_line
returns c =
    let e = c.word-2.ensures.puts.end in
    (rw c.in-No.is (adds_then _ _ _ _ _ c.word-2.ensures (rw c.in-No.is at c.outcome.ensures.0)), omega arith)
