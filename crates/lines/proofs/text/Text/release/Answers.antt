-- `lines::text::Text::release` meets its contract.
-- Assumes nothing.
use Rattle.std.proofs.Common.{arith}
use Rattle.lines.specs.Line.{release_line}
use Rattle.lines.specs.Text.Properties.{adds_then}
use Rattle.lines.proofs.text.Text.release.Goals as goal

pub returns : goal.returns
unfolding release_line
returns c = (
  adds_then _ _ _ _ _ (adds_then _ _ _ _ _ (rw c.from.ensures at c.both.ensures.0) (rw c.from-2.ensures at c.both-2.ensures.0))
      c.outcome.ensures.0,
  omega arith,
)
