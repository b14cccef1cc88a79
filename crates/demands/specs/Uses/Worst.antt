-- Plan A's kind 0 at its worst start: it is released at the slice at which its project holds no card, and the supply of the eight
-- slices to its deadline is the six that it asks for.
-- Assumes nothing.
use Rattle.std.specs.Prelude.{◌≡◌, refl, List, [], ◌∷◌, ◌-◌, ◌≤◌, length, take}
use Rattle.std.proofs.Common.{arith}
use Rattle.laws.specs.Sum.{sum_to}
use Rattle.laws.specs.Least.{least_to}
use Rattle.laws.specs.First.{first_to}
use Rattle.laws.specs.Count.{count_to}
use Rattle.laws.specs.All.{all_to}
use Rattle.laws.specs.Written.{written}
use Rattle.laws.specs.Ranking.{rank_in, first_in, sooner}
use Rattle.answer.specs.declared.Answer.TheVariants.{Good}
use Rattle.answer.specs.Answer.{each_to}
use Rattle.plan.specs.Example.{plan_a}
use Rattle.plan.specs.Order.{within, sized, empty_project, empty_kind, tidy_projects, tidy_kinds, in_range, timed, budgets}
use Rattle.plan.specs.Order.{sizes, unused, projects_in_range, kind_in_range, kinds_in_range, budgets_fit, ranges, checked}
use Rattle.layout.specs.Cards.{held_from}
use Rattle.layout.specs.Layout.{cell_at, first_cell, owns, slot_of, held}
use Rattle.supply.specs.Supply.{window, supply}
use Rattle.supply.specs.Workload.{workload_part}
use Rattle.supply.specs.Greatest.{greatest_to}
use Rattle.supply.specs.Fit.{fits_at, least_width, allowed_length, least_excess}
use Rattle.workload.specs.Workload.{besides, part_of, workload}
use Rattle.verdict.specs.Verdict.{width_of, excess_of, fitted, admitted}
use Rattle.unit.specs.Form.{untouched, due_in_time, underway, unit_in_form, empty_unit}
use Rattle.unit.specs.Step.{until_due, gone_after, left_after}
use Rattle.unit.specs.Start.{early, startable}
use Rattle.rack.specs.Sums.{left_for, project_left, sums_right}
use Rattle.rack.specs.Form.{sum_fits, sums_in_form, in_form, sums_told, ready}
use Rattle.rack.specs.View.{has_card, cards_held, rank_of, chosen, takes_card, byte_on}
use Rattle.rack.specs.Rank.{working, active, outranks, view_of, rank, served}
use Rattle.rack.specs.Row.{byte_by, row_byte, row_of, row_over}
use Rattle.rack.specs.Start.{start_answer, start_of}
use Rattle.rack.specs.Release.{release_answer, released, release_of}
use Rattle.rack.specs.Advance.{unit_after, advanced, advance_of, served_for, sum_after}
use Rattle.demands.specs.Run.{Call, run_from, after, Accepted, accepted_in, slices_of}
use Rattle.demands.specs.Named.{names_kind, bytes_naming}
use Rattle.demands.specs.Deadlines.{in_time, in_time_so_far}
use Rattle.demands.specs.Uses.Figures.{tick, running}

-- three advances to the one at which project 0 holds no card, and then seven
abbrev three : List Call
three = tick ∷ tick ∷ tick ∷ []

abbrev seven : List Call
seven = tick ∷ tick ∷ tick ∷ tick ∷ tick ∷ tick ∷ tick ∷ []

-- the rows from kind 0's release on
abbrev rows_of : List Call → List Accepted
rows_of calls = slices_of (release_of (after plan_a three) 0 6).state calls

record Figures : Type 0 where
  accepted : (release_of (after plan_a three) 0 6).answer ≡ Good
  seven_rows : length (rows_of seven) ≡ 7
  eight_rows : length (rows_of (tick ∷ seven)) ≡ 8

figures : Figures
unfolding sum_to least_to first_to count_to all_to written rank_in first_in sooner each_to within sized empty_project empty_kind
    tidy_projects tidy_kinds in_range timed budgets sizes unused projects_in_range kind_in_range kinds_in_range budgets_fit ranges checked
    cell_at held_from first_cell owns slot_of held window supply workload_part fits_at least_width greatest_to allowed_length least_excess
    besides part_of workload width_of excess_of fitted admitted untouched due_in_time underway unit_in_form empty_unit early startable
    left_for project_left sums_right sum_fits sums_in_form in_form sums_told ready until_due gone_after left_after working active outranks
    has_card cards_held rank_of chosen takes_card byte_on view_of rank served byte_by row_byte row_of row_over start_answer start_of
    release_answer released release_of unit_after served_for sum_after advanced advance_of run_from accepted_in slices_of
figures = record { accepted = refl; seven_rows = refl; eight_rows = refl }

-- after seven slices at most one is to come
pub one_to_come : 6 - bytes_naming (names_kind 0) (rows_of seven) ≤ 1
one_to_come =
    let few : length (rows_of seven) ≤ 8 = omega (arith, figures.seven_rows) in
    rw figures.seven_rows at (in_time_so_far plan_a running.admitted_a three seven 0 6 figures.accepted few)

-- and in exactly eight it has them all
pub six_in_eight : bytes_naming (names_kind 0) (take 8 (rows_of (tick ∷ seven))) ≡ 6
six_in_eight = in_time plan_a running.admitted_a three (tick ∷ seven) 0 6 figures.accepted (omega (arith, figures.eight_rows))
