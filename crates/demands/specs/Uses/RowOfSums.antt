-- The row of sums in use: each theorem on it applied to plan A and the player's example, where what it says is a number.
-- Assumes nothing.
use Rattle.std.specs.Prelude.{◌≡◌, refl, ◌≢◌, true, false, List, [], ◌∷◌, ℕ, ◌+◌}
use Rattle.std.proofs.Common.{ap, ◌∙◌, arith}
use Rattle.answer.specs.declared.Answer.{Answer}
use Rattle.answer.specs.declared.Answer.TheVariants.{Good}
use Rattle.answer.specs.Answer.{bare, number, each_to}
use Rattle.answer.specs.Numbers.{among}
use Rattle.laws.specs.Sum.{sum_to}
use Rattle.laws.specs.Least.{least_to}
use Rattle.laws.specs.First.{first_to}
use Rattle.laws.specs.Count.{count_to}
use Rattle.laws.specs.All.{all_to}
use Rattle.laws.specs.Written.{written}
use Rattle.laws.specs.Ranking.{rank_in, first_in, sooner}
use Rattle.plan.specs.Example.{plan_a}
use Rattle.plan.specs.Order.{within, sized, empty_project, empty_kind, tidy_projects, tidy_kinds, in_range, timed, budgets}
use Rattle.plan.specs.Order.{sizes, unused, projects_in_range, kind_in_range, kinds_in_range, budgets_fit, ranges, checked}
use Rattle.layout.specs.Cards.{held_from}
use Rattle.layout.specs.Layout.{cell_at, first_cell, owns, slot_of, held}
use Rattle.supply.specs.Supply.{window, supply}
use Rattle.supply.specs.Workload.{workload_part}
use Rattle.supply.specs.Greatest.{greatest_to}
use Rattle.supply.specs.Fit.{fits_at, least_width, allowed_length, least_excess}
use Rattle.workload.specs.Workload.{besides, part_of, workload}
use Rattle.verdict.specs.Verdict.{width_of, excess_of, fitted, admitted}
use Rattle.unit.specs.Form.{untouched, due_in_time, underway, unit_in_form, empty_unit}
use Rattle.unit.specs.Step.{until_due, gone_after, left_after}
use Rattle.unit.specs.Start.{early, startable}
use Rattle.rack.specs.Sums.{left_for, project_left, sums_right}
use Rattle.rack.specs.Form.{sum_fits, sums_in_form, in_form, sums_told, ready}
use Rattle.rack.specs.View.{has_card, cards_held, rank_of, chosen, takes_card, byte_on}
use Rattle.rack.specs.Rank.{working, active, outranks, view_of, rank, served}
use Rattle.rack.specs.Row.{byte_by, row_byte, row_of, row_over}
use Rattle.rack.specs.Start.{start_answer, start_of}
use Rattle.rack.specs.Release.{release_answer, released, release_of}
use Rattle.rack.specs.Advance.{unit_after, advanced, advance_of, served_for, sum_after}
use Rattle.rack.specs.declared.State.{State}
use Rattle.rack.specs.State.{unit_of, sum_at, Places}
use Rattle.rack.specs.Sums.{left_row}
use Rattle.rack.specs.Form.{Ready}
use Rattle.rack.specs.Form.Properties.{ready_says}
use Rattle.rack.specs.Show.{Shows}
use Rattle.demands.specs.Run.{release, next_after, run_from, after, accepted_in, slices_of}
use Rattle.demands.specs.Named.{names_project, bytes_in}
use Rattle.demands.specs.Flipped.{own_numbers, with_sum, with_left, could_be_left, Told}
use Rattle.demands.specs.SumsTold.{ready_taken}
use Rattle.demands.specs.RowOfSums.{row_right, sum_right, never_differs, start_sets, release_raises, advance_lowers}
use Rattle.demands.specs.RowOfSums.{sixteen_when, ten_when, sum_told, left_told, run_sum_told, run_left_told}
use Rattle.demands.specs.Uses.Figures.{tick, look, earlier, releases, four_slices, both, running, ranks}

-- ---- what is computed from the definitions

-- the slice after the three releases of the example: (0,6) of project 0, (1,2) and (2,2) of project 1
abbrev opened : State
opened = after plan_a releases

record Figures : Type 0 where
  -- what is left, in a row: 6 of project 0 and 4 of project 1
  left_open : left_row opened ≡ 6 ∷ 4 ∷ 0 ∷ 0 ∷ 0 ∷ 0 ∷ 0 ∷ 0 ∷ []
  left_one : project_left opened 1 ≡ 4
  left_last : project_left opened 7 ≡ 0
  -- the slice is run, and its row names one kind of project 1
  runs : (advance_of opened).answer ≡ Good
  one_named : bytes_in (names_project plan_a 1) (row_of opened) ≡ 1
  -- where kinds 1 and 2 are just released with two slices each, project 1's sum is 4
  sum_both : sum_at both 1 ≡ 4
  sum_last : sum_at both 7 ≡ 0
  left_both : project_left both 1 ≡ 4
  -- of kind 1 two slices could be left and three could not; of kind 0, never released, none; and there is no kind 15
  could : could_be_left both 1 1 ≡ true
  could_not : could_be_left both 1 3 ≡ false
  never : could_be_left both 0 1 ≡ false
  no_kind : could_be_left both 15 1 ≡ false
  no_kind_open : could_be_left opened 15 1 ≡ false
  none_open : (unit_of opened 15).left ≡ 0

figures : Figures
unfolding sum_to least_to first_to count_to all_to written rank_in first_in sooner each_to within sized empty_project empty_kind
    tidy_projects tidy_kinds in_range timed budgets sizes unused projects_in_range kind_in_range kinds_in_range budgets_fit ranges checked
    cell_at held_from first_cell owns slot_of held window supply workload_part fits_at least_width greatest_to allowed_length least_excess
    besides part_of workload width_of excess_of fitted admitted untouched due_in_time underway unit_in_form empty_unit early startable
    left_for project_left sums_right sum_fits sums_in_form in_form sums_told ready until_due gone_after left_after working active outranks
    has_card cards_held rank_of chosen takes_card byte_on view_of rank served byte_by row_byte row_of row_over start_answer start_of
    release_answer released release_of unit_after served_for sum_after advanced advance_of run_from accepted_in slices_of names_project
    bytes_in
figures = record {
  left_open = refl;
  left_one = refl;
  left_last = refl;
  runs = refl;
  one_named = refl;
  sum_both = refl;
  sum_last = refl;
  left_both = refl;
  could = refl;
  could_not = refl;
  never = refl;
  no_kind = refl;
  no_kind_open = refl;
  none_open = refl;
}

-- ---- the stored row

pub row_open : (after plan_a releases).sum ≡ 6 ∷ 4 ∷ 0 ∷ 0 ∷ 0 ∷ 0 ∷ 0 ∷ 0 ∷ []
row_open = row_right plan_a running.admitted_a releases ∙ figures.left_open

pub one_open : sum_at (after plan_a releases) 1 ≡ 4
one_open = sum_right plan_a running.admitted_a releases 1 (omega arith) ∙ figures.left_one

pub last_open : sum_at (after plan_a releases) 7 ≡ 0
last_open = sum_right plan_a running.admitted_a releases 7 (omega arith) ∙ figures.left_last

pub not_sixteen : number (next_after (after plan_a four_slices) (release 1 2)).answer ≢ 16
not_sixteen = never_differs plan_a running.admitted_a four_slices (release 1 2)

pub last_starts : sum_at (start_of plan_a).state 7 ≡ 0
last_starts = start_sets plan_a running.admitted_a 7 (omega arith)

-- kind 1's release of two slices raises project 1's sum by two, and project 0's by none
pub raised_one : sum_at (release_of (after plan_a earlier) 1 2).state 1 ≡ sum_at (after plan_a earlier) 1 + 2
raised_one = release_raises plan_a running.admitted_a earlier 1 2 1 running.kind_one

pub raised_zero : sum_at (release_of (after plan_a earlier) 1 2).state 0 ≡ sum_at (after plan_a earlier) 0 + 0
raised_zero = release_raises plan_a running.admitted_a earlier 1 2 0 running.kind_one

-- of project 1's four slices one is served
pub three_left : sum_at (advance_of (after plan_a releases)).state 1 ≡ 3
three_left =
    let fell = advance_lowers plan_a running.admitted_a releases 1 figures.runs (omega arith) in
    omega (arith, fell, figures.one_named, one_open)

-- ---- a flip

ready_both : Ready both
ready_both = ready_says both ranks.ready_both

taken : among own_numbers (number (next_after both tick).answer) ≡ true
taken = ready_taken both tick ready_both

whole : Places both
whole = record { sixteen = refl; eight = refl }

-- one slice more in project 1's sum
five : Told (with_sum both 1 5) 16
five = sum_told both tick taken whole 1 5 (omega arith) (λ e. omega (arith, figures.sum_both))

pub five_answers : ((next_after (with_sum both 1 5) look).answer ≡ bare 16) ×
    ((next_after (with_sum both 1 5) (release 0 6)).answer ≡ bare 16)
five_answers = (five.answer look, five.answer (release 0 6))

pub five_kept : (next_after (with_sum both 1 5) tick).state ≡ with_sum both 1 5
five_kept = five.state tick

pub five_row : (after : List ℕ) (a : Answer) → Shows (with_sum both 1 5) (7 ∷ 7 ∷ []) a after → (a ≡ bare 16) × (after ≡ 7 ∷ 7 ∷ [])
five_row = five.row (7 ∷ 7 ∷ [])

-- and one in the last, of no project
pub beyond_answers : (next_after (with_sum both 7 1) tick).answer ≡ bare 10
beyond_answers = (sum_told both tick taken whole 7 1 (omega arith) (λ e. omega (arith, figures.sum_last))).answer tick

-- kind 1's slices left: one less, one more than C
pub less_answers : (next_after (with_left both 1 1) tick).answer ≡ bare 16
less_answers = rw figures.could at ((left_told both tick taken whole 1 1 (omega arith) (λ e. omega arith)).answer tick)

pub more_answers : (next_after (with_left both 1 3) tick).answer ≡ bare 10
more_answers = rw figures.could_not at ((left_told both tick taken whole 1 3 (omega arith) (λ e. omega arith)).answer tick)

-- kind 0, never released, and the last place, of no kind
pub never_answers : (next_after (with_left both 0 1) tick).answer ≡ bare 10
never_answers = rw figures.never at ((left_told both tick taken whole 0 1 (omega arith) (λ e. omega arith)).answer tick)

pub no_kind_answers : (next_after (with_left both 15 1) tick).answer ≡ bare 10
no_kind_answers = rw figures.no_kind at ((left_told both tick taken whole 15 1 (omega arith) (λ e. omega arith)).answer tick)

-- the same in the run
pub run_answers : (next_after (with_sum (after plan_a releases) 1 3) tick).state ≡ with_sum (after plan_a releases) 1 3
run_answers = (run_sum_told plan_a running.admitted_a releases 1 3 (omega arith) (λ e. omega (arith, one_open))).state tick

pub run_no_kind : (next_after (with_left (after plan_a releases) 15 1) tick).answer ≡ bare 10
run_no_kind =
    rw figures.no_kind_open at
    ((run_left_told plan_a running.admitted_a releases 15 1 (omega arith) (λ e. omega (arith, figures.none_open))).answer tick)

-- ---- exactly when

-- 16 says that the plan is in order, the state in form and a sum wrong; and these give 16
pub sixteen_again : number (next_after (with_sum both 1 5) look).answer ≡ 16
sixteen_again = (sixteen_when (with_sum both 1 5) look).1 ((sixteen_when (with_sum both 1 5) tick).0 (ap number (five.answer tick)))

pub ten_again : number (next_after (with_sum both 7 1) look).answer ≡ 10
ten_again = (ten_when (with_sum both 7 1) look).1 ((ten_when (with_sum both 7 1) tick).0 (ap number beyond_answers))
