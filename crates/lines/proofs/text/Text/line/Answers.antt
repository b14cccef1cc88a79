-- `lines::text::Text::line` meets its contract.
-- Assumes nothing.
use Rattle.std.proofs.Common.{arith}
use Rattle.lines.specs.Line.{line_text}
use Rattle.lines.specs.Text.Properties.{adds_none}
use Rattle.lines.proofs.text.Text.line.Goals as goal

pub returns-in-Plan : goal.returns-in-Plan
unfolding line_text
returns-in-Plan c = (rw c.in-Plan.is c.plan.ensures.0, c.plan.ensures.1)

pub returns-in-Release : goal.returns-in-Release
unfolding line_text
returns-in-Release c = (rw c.in-Release.is c.release.ensures.0, c.release.ensures.1)

pub returns-in-Slice : goal.returns-in-Slice
unfolding line_text
returns-in-Slice c = (rw c.in-Slice.is c.slice.ensures.0, c.slice.ensures.1)

pub returns-in-Bad : goal.returns-in-Bad
unfolding line_text
returns-in-Bad c = (rw c.in-Bad.is c.bad.ensures.0, c.bad.ensures.1)

pub returns-in-End : goal.returns-in-End
unfolding line_text
returns-in-End c = (rw c.in-End.is c.end.ensures.0, omega arith)

pub returns-in-Nothing : goal.returns-in-Nothing
unfolding line_text
returns-in-Nothing c = (rw c.in-Nothing.is (adds_none _), omega arith)
