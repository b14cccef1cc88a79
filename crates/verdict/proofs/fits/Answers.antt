-- `verdict::fits` meets its contract.
-- Assumes nothing.
use Rattle.std.proofs.Math.Path.{◌∙◌}
use Rattle.std.proofs.Common.{rules}
use Rattle.laws.specs.Written.Properties.{written_none}
use Rattle.answer.specs.Answer.Properties.{each_none}
use Rattle.layout.proofs.Laws.Front.{front_below}
use Rattle.verdict.specs.Steps.Properties.{row_there, excess_room, fits_no, fits_again}
use Rattle.verdict.specs.Steps.Properties.{fits_all, width_again, slice_again}
use Rattle.verdict.proofs.fits.Goals as goal

pub loop-i-init : goal.loop-i-init
loop-i-init c = (each_none _, written_none _ _, written_none _ _)

pub fit_on-fit-requires : goal.fit_on-fit-requires
fit_on-fit-requires c = (front_below _ _ _ c.loop-i-test.true, search (row_there, front_below))

pub told-answer-requires : goal.told-answer-requires
told-answer-requires c = search (excess_room, front_below)

pub returns-in_default : goal.returns-in_default
returns-in_default c = c.refused.ensures ∙ search (fits_no, front_below)

pub loop-i-preserved : goal.loop-i-preserved
loop-i-preserved c = (search fits_again, search width_again, search slice_again)

pub returns : goal.returns
returns c =
    fits_all _ _ c.loop-i.invariant.0 _ _ c.loop-i.invariant.1 c.loop-i.invariant.2 c.args.ordered.in_order
    (search rules) c.loop-i.auto.i-end
    c.loop-i-test.false
