-- The statements on the rules without a clock, on plan A and the player's example.
-- Assumes nothing.
use Rattle.std.specs.Prelude.{◌≡◌, refl, true, false, List, [], ◌∷◌, ℕ, ◌<◌}
use Rattle.std.proofs.Common.{ap, ◌∙◌, arith}
use Rattle.laws.specs.Sum.{sum_to}
use Rattle.laws.specs.Least.{least_to}
use Rattle.laws.specs.First.{first_to}
use Rattle.laws.specs.Count.{count_to}
use Rattle.laws.specs.All.{all_to}
use Rattle.laws.specs.Written.{written}
use Rattle.laws.specs.Ranking.{rank_in, first_in, sooner}
use Rattle.answer.specs.declared.Answer.TheVariants.{Good}
use Rattle.answer.specs.Answer.{number, each_to}
use Rattle.plan.specs.declared.Plan.{Plan}
use Rattle.plan.specs.Example.{plan_a}
use Rattle.plan.specs.Order.{kind_of, within, sized, empty_project, empty_kind, tidy_projects, tidy_kinds, in_range, timed, budgets}
use Rattle.plan.specs.Order.{sizes, unused, projects_in_range, kind_in_range, kinds_in_range, budgets_fit, ranges, checked}
use Rattle.layout.specs.Cards.{held_from}
use Rattle.layout.specs.Layout.{cell_at, first_cell, owns, slot_of, held}
use Rattle.supply.specs.Supply.{window, supply}
use Rattle.supply.specs.Workload.{workload_part}
use Rattle.supply.specs.Greatest.{greatest_to}
use Rattle.supply.specs.Fit.{fits_at, least_width, allowed_length, least_excess}
use Rattle.workload.specs.Workload.{besides, part_of, workload}
use Rattle.verdict.specs.Verdict.{width_of, excess_of, fitted, admitted, judged}
use Rattle.rack.specs.State.{unit_of}
use Rattle.rack.specs.Form.{sum_fits, in_form}
use Rattle.rack.specs.View.{has_card, cards_held, rank_of, chosen, takes_card, byte_on}
use Rattle.rack.specs.Start.{start_answer}
use Rattle.rack.specs.Release.{release_of}
use Rattle.rack.specs.Advance.{advance_of}
use Rattle.demands.specs.Run.{show, release, next_after, row_after, after}
use Rattle.demands.specs.AbsoluteClock.State as Old
use Rattle.demands.specs.AbsoluteClock.Form as OldForm
use Rattle.demands.specs.AbsoluteClock.Rank as OldRank
use Rattle.demands.specs.AbsoluteClock.Row as OldRow
use Rattle.demands.specs.AbsoluteClock.Release as OldRelease
use Rattle.demands.specs.AbsoluteClock.Show as OldShow
use Rattle.demands.specs.AbsoluteClock.Advance as OldAdvance
use Rattle.demands.specs.AbsoluteClock.Run as OldRun
use Rattle.demands.specs.NoClock.{as_before, beside_before, a_billion_slices, in_form_kept, left_is_early, accepted_clear}
use Rattle.demands.specs.LateByHand.{both_ask, not_admitted, advance_accepted, next_says_ten}
use Rattle.demands.specs.Uses.Figures.{running, releases, four_slices}

-- ---- what is computed by the old rules

-- the frame's first slice, in a row of three bytes
abbrev lent : List ℕ
lent = 7 ∷ 7 ∷ 7 ∷ []

record Figures : Type 0 where
  few : OldRun.advances four_slices ≡ 4
  few_first : OldRun.advances releases ≡ 0
  -- what the old rules show at clock 0, and answer to two releases at clock 4
  row : OldRun.row_after (OldRun.after plan_a releases) (show lent) ≡ 1 ∷ 2 ∷ 7 ∷ []
  row_number : number (OldRun.next_after (OldRun.after plan_a releases) (show lent)).answer ≡ 0
  again : (OldRun.next_after (OldRun.after plan_a four_slices) (release 1 2)).answer ≡ Good
  early : number (OldRun.next_after (OldRun.after plan_a four_slices) (release 2 1)).answer ≡ 14
  clock : (OldRun.after plan_a four_slices).clock ≡ 4
  at : (Old.unit_of (OldRun.after plan_a four_slices) 1).at ≡ 0
  was : (Old.unit_of (OldRun.after plan_a four_slices) 1).released ≡ true
  plan : (OldRun.after plan_a four_slices).plan ≡ plan_a

figures : Figures
unfolding sum_to least_to first_to count_to all_to written rank_in first_in sooner each_to within sized empty_project empty_kind
    tidy_projects tidy_kinds in_range timed budgets sizes unused projects_in_range kind_in_range kinds_in_range budgets_fit ranges checked
    cell_at held_from first_cell owns slot_of held window supply workload_part fits_at least_width greatest_to allowed_length least_excess
    besides part_of workload width_of excess_of fitted admitted sum_fits has_card cards_held rank_of chosen takes_card byte_on start_answer
    Old.start_of OldForm.untouched OldForm.underway OldForm.unit_in_form OldForm.empty_unit OldForm.place_in_form OldForm.sums_in_form
    OldForm.in_form OldForm.left_for OldForm.project_left OldForm.sums_right OldForm.ready OldRank.due OldRank.active OldRank.outranks
    OldRank.view_of OldRank.served OldRow.byte_by OldRow.row_byte OldRow.row_of OldRow.row_over OldRelease.early OldRelease.startable
    OldRelease.release_answer OldRelease.released OldRelease.release_of OldAdvance.unit_after OldAdvance.served_for OldAdvance.sum_after
    OldAdvance.advanced OldAdvance.time_left OldAdvance.advance_answer OldAdvance.advance_of OldShow.show_answer OldShow.buffer_shown
    OldRun.run_from OldRun.advances
figures = record {
  few = refl;
  few_first = refl;
  row = refl;
  row_number = refl;
  again = refl;
  early = refl;
  clock = refl;
  at = refl;
  was = refl;
  plan = refl;
}

-- ---- rows and refusals equal the old ones

-- the row shown of the first slice
pub row_as_before : row_after (after plan_a releases) (show lent) ≡ 1 ∷ 2 ∷ 7 ∷ []
row_as_before =
    let on = a_billion_slices plan_a running.admitted_a releases (omega (arith, figures.few_first)) in
    (as_before plan_a running.admitted_a releases (show lent) on (λ z. omega (arith, figures.row_number))).1 ∙ figures.row

-- after a frame: a release at exactly its separation, and one that is too early
uncut : OldRun.ended (Old.start_of plan_a).state four_slices ≡ false
uncut = a_billion_slices plan_a running.admitted_a four_slices (omega (arith, figures.few))

pub again_as_before : (next_after (after plan_a four_slices) (release 1 2)).answer ≡ Good
again_as_before =
    let good : number (OldRun.next_after (OldRun.after plan_a four_slices) (release 1 2)).answer ≡ 0 = ap number figures.again in
    (as_before plan_a running.admitted_a four_slices (release 1 2) uncut (λ z. omega arith)).0 ∙ figures.again

pub early_as_before : number (next_after (after plan_a four_slices) (release 2 1)).answer ≡ 14
early_as_before =
    let told = figures.early in
    ap number (as_before plan_a running.admitted_a four_slices (release 2 1) uncut (λ z. omega arith)).0 ∙ told

-- the clock was 4, and the slice is the frame's first; four slices are gone since clock 0, as many as T
pub first_again : (after plan_a four_slices).slice ≡ 0
first_again = (beside_before plan_a running.admitted_a four_slices uncut).slice ∙ rw (figures.clock, figures.plan)

pub four_gone : (unit_of (after plan_a four_slices) 1).gone ≡ 4
four_gone =
    let b = beside_before plan_a running.admitted_a four_slices uncut in
    let same : (after plan_a four_slices).plan ≡ plan_a = b.plan ∙ figures.plan in
    let its : 1 < (after plan_a four_slices).plan.kinds = omega (arith, ap (λ (p : Plan). p.kinds) same) in
    let separation = ap (λ (p : Plan). (kind_of p 1).separation) same in
    omega (arith, (b.unit 1 its).gone figures.was, separation, figures.clock, figures.at)

-- ---- in form, and 15

pub still_in_form : in_form (after plan_a four_slices) ≡ true
still_in_form = in_form_kept plan_a running.admitted_a four_slices

-- of a kind that waits, in a state made by hand
pub waits_for_fourteen : number (release_of both_ask 1 1).answer ≡ 14
unfolding advance_of within
waits_for_fourteen = left_is_early both_ask 1 1 advance_accepted (omega arith) refl (omega arith)

pub clear : (unit_of (after plan_a four_slices) 1).left ≡ 0
clear = accepted_clear (after plan_a four_slices) 1 2 running.release_good

-- that state's plan is refused, and its advance leaves a state that is out of form
pub refused_by_hand : number (judged both_ask.plan).answer ≡ 8
refused_by_hand = not_admitted

pub shown_ten : (bytes : List ℕ) → number (next_after (advance_of both_ask).state (show bytes)).answer ≡ 10
shown_ten bytes = next_says_ten (show bytes)
