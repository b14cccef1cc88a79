-- `supply::supply` meets its contract.
-- Assumes nothing.
use Rattle.supply.proofs.Laws.Fit.{rest_below, window_start, supply_start, window_counted, part_most, counted_start, counted_again}
use Rattle.supply.proofs.Laws.Fit.{frame_again, supply_again}
use Rattle.supply.proofs.Laws.Fit.{supplied_no_frame, supplied_long_frame, supplied_here}
use Rattle.std.proofs.Common.{arith, ◌%◌, ◌∙◌}
use Rattle.supply.proofs.supply.Goals as goal

pub returns-then-frame-eq0 : goal.returns-then-frame-eq0
returns-then-frame-eq0 c = search supplied_no_frame

pub returns-then-frame-gt-FRAME : goal.returns-then-frame-gt-FRAME
returns-then-frame-gt-FRAME c = search supplied_long_frame

pub loop-start-init : goal.loop-start-init
loop-start-init c = (search rest_below, window_start _ _ _, supply_start _ _ _, omega arith, omega arith)

pub loop-here-init : goal.loop-here-init
loop-here-init c = (counted_start _ _, omega arith)

pub loop-here-preserved : goal.loop-here-preserved
loop-here-preserved c = (counted_again _ _ _ _ _ c.loop-here.invariant.0 (c.from-sum.ensures ∙ c.min.ensures), omega arith)

pub loop-start-preserved : goal.loop-start-preserved
loop-start-preserved c = (
  search,
  frame_again _ _ _ c.if-frame-eq0.false c.if-frame-gt-FRAME.false c.two_frames-cards.ensures _ _ _ _ c.loop-start.invariant.1
      c.loop-start-test.true
      (c.from-one_frame.ensures ∙ c.min-in-loop-start.ensures),
  search (supply_again, window_counted),
  omega arith,
  omega (arith, part_most c.loop-start.start (c.args.t % c.args.frame) c.two_frames-cards.result),
)

pub returns : goal.returns
returns c = search supplied_here
