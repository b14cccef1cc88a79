-- `supply::least_fit` meets its contract.
-- Assumes nothing.
use Rattle.supply.proofs.Laws.Fit.{rest_below, window_start, supply_start, width_start, short_start, window_counted, part_most}
use Rattle.supply.proofs.Laws.Fit.{counted_start, counted_again, frame_again}
use Rattle.supply.proofs.Laws.Fit.{supply_again, supplied, bad_found, width_again, short_again, no_frame, long_frame}
use Rattle.supply.proofs.Laws.Fit.{fit_here, fit_none}
use Rattle.std.specs.Prelude.{refl}
use Rattle.std.proofs.Common.{arith, ◌%◌, ◌∙◌}
use Rattle.supply.proofs.least_fit.Goals as goal

pub returns-then-frame-eq0 : goal.returns-then-frame-eq0
returns-then-frame-eq0 c = search no_frame

pub returns-then-frame-gt-FRAME : goal.returns-then-frame-gt-FRAME
returns-then-frame-gt-FRAME c = search long_frame

pub widths-init : goal.widths-init
widths-init c = (search rest_below, refl, width_start _ _ _ _ _, short_start _ _ _ _ _, omega arith, omega arith)

pub loop-start-init : goal.loop-start-init
loop-start-init c = (window_start _ _ _, supply_start _ _ _, omega arith, omega arith)

pub loop-here-init : goal.loop-here-init
loop-here-init c = (counted_start _ _, omega arith)

pub loop-here-preserved : goal.loop-here-preserved
loop-here-preserved c = (counted_again _ _ _ _ _ c.loop-here.invariant.0 (c.from-sum.ensures ∙ c.min.ensures), omega arith)

pub loop-start-preserved : goal.loop-start-preserved
loop-start-preserved c = (
  frame_again _ _ _ c.if-frame-eq0.false c.if-frame-gt-FRAME.false c.two_frames-cards.ensures _ _ _ _ c.loop-start.invariant.0
      c.loop-start-test.true
      (c.from-one_frame.ensures ∙ c.min-in-loop-start.ensures),
  search (supply_again, window_counted),
  omega arith,
  omega (arith, part_most c.loop-start.start (c.args.deadline % c.args.frame) c.two_frames-cards.result),
)

pub widths-preserved : goal.widths-preserved
widths-preserved c =
    let some = c.if-frame-eq0.false in
    let most = c.if-frame-gt-FRAME.false in
    let two = c.two_frames-cards.ensures in
    let so_far = c.widths.invariant in
    let inv = c.loop-start.invariant in
    let end = c.loop-start-test.false in
    let asked = c.asked-asked.ensures.0 in
    let here = c.short_by-here.ensures.0 in
    let s = supplied _ _ _ some most two _ _ _ _ _ _ refl inv.0 inv.1 (omega arith) end in
    let t = bad_found _ _ _ some most two _ _ _ _ inv.1 (omega arith) end in (
      search,
      search,
      width_again _ _ _ _ _ _ _ _ so_far.2 s asked c.if-asked-supply.false,
      short_again _ _ _ _ _ _ _ _ _ _ _ so_far.3 s t here c.least_with-short.ensures.0,
      omega arith,
      omega arith,
    )

pub returns-after-widths : goal.returns-after-widths
returns-after-widths c = search fit_none

pub returns-then-asked-supply : goal.returns-then-asked-supply
returns-then-asked-supply c = search (fit_here, supplied, bad_found)
