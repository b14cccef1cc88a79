-- "In form" is kept from a fresh start on an admitted plan, and by hand it need not be: a state in form, on a plan that is not admitted,
-- whose advance is accepted and leaves a unit with work left at its deadline; the next call, whichever it is, says 10.
-- Assumes nothing.
use Rattle.std.specs.Prelude.{◌≡◌, refl, true, ◌∷◌, replicate}
use Rattle.laws.specs.Sum.{sum_to}
use Rattle.laws.specs.Least.{least_to}
use Rattle.laws.specs.First.{first_to}
use Rattle.laws.specs.Count.{count_to}
use Rattle.laws.specs.All.{all_to}
use Rattle.laws.specs.Written.{written}
use Rattle.laws.specs.Ranking.{rank_in, first_in, sooner}
use Rattle.answer.specs.declared.Answer.TheVariants.{Good}
use Rattle.answer.specs.Answer.{bare, number, each_to}
use Rattle.plan.specs.declared.Plan.{Plan}
use Rattle.plan.specs.Record.{no_project, no_kind}
use Rattle.plan.specs.Example.{project, kind}
use Rattle.plan.specs.Order.{within, sized, empty_project, empty_kind, tidy_projects, tidy_kinds, in_range, timed, budgets}
use Rattle.plan.specs.Order.{sizes, unused, projects_in_range, kind_in_range, kinds_in_range, budgets_fit, ranges, checked}
use Rattle.layout.specs.Cards.{held_from}
use Rattle.layout.specs.Layout.{cell_at, first_cell, owns, held}
use Rattle.supply.specs.Supply.{window, supply}
use Rattle.supply.specs.Workload.{workload_part}
use Rattle.supply.specs.Greatest.{greatest_to}
use Rattle.supply.specs.Fit.{fits_at, least_width, allowed_length, least_excess}
use Rattle.workload.specs.Workload.{besides, part_of, workload}
use Rattle.verdict.specs.Verdict.{width_of, excess_of, fitted, admitted, judged}
use Rattle.unit.specs.declared.Unit.{Unit}
use Rattle.unit.specs.Unit.{no_unit}
use Rattle.unit.specs.Form.{untouched, due_in_time, underway, unit_in_form, empty_unit}
use Rattle.unit.specs.Step.{until_due, gone_after, left_after}
use Rattle.rack.specs.declared.State.{State}
use Rattle.rack.specs.Sums.{left_for, project_left, sums_right}
use Rattle.rack.specs.Form.{sum_fits, sums_in_form, in_form, sums_told, ready}
use Rattle.rack.specs.View.{cards_held, rank_of, chosen}
use Rattle.rack.specs.Rank.{working, active, outranks, view_of, served}
use Rattle.rack.specs.Release.{release_answer, release_of}
use Rattle.rack.specs.Show.{show_answer}
use Rattle.rack.specs.Advance.{unit_after, advanced, advance_of, served_for, sum_after}
use Rattle.demands.specs.Run.{Call, show, advance, release, next_after}

-- one card for two kinds that both ask for every slice: one card, frame 1; one project q 1, B 1; kinds (0,1,1,1), (0,1,1,1)
abbrev pub one_card : Plan
one_card = record {
  cards = 1;
  projects = 1;
  kinds = 2;
  frame = 1;
  project = project 1 1 ∷ replicate 7 no_project;
  kind = kind 0 1 1 1 ∷ kind 0 1 1 1 ∷ replicate 14 no_kind;
}

-- both just released
abbrev just_released : Unit
just_released = record { released = true; gone = 0; left = 1 }

abbrev pub both_ask : State
both_ask = record { plan = one_card; slice = 0; unit = just_released ∷ just_released ∷ replicate 14 no_unit; sum = 2 ∷ replicate 7 0 }

-- the plan is not admitted
pub not_admitted : number (judged one_card).answer ≡ 8
unfolding sum_to least_to first_to count_to all_to each_to within sized empty_project empty_kind tidy_projects tidy_kinds in_range timed
    budgets sizes unused projects_in_range kind_in_range kinds_in_range budgets_fit ranges checked cell_at first_cell owns held window
    supply workload_part fits_at least_width greatest_to allowed_length least_excess besides part_of workload width_of excess_of fitted
    admitted judged
not_admitted = refl

-- the advance is accepted, and what it hands back is out of form
pub advance_accepted : (advance_of both_ask).answer ≡ Good
unfolding sum_to count_to all_to each_to within sized empty_project empty_kind tidy_projects tidy_kinds in_range timed budgets sizes unused
    projects_in_range kind_in_range kinds_in_range budgets_fit ranges checked untouched due_in_time underway unit_in_form empty_unit
    left_for project_left sums_right sum_fits sums_in_form in_form sums_told ready advance_of
advance_accepted = refl

after_it : ready (advance_of both_ask).state ≡ bare 10
unfolding sum_to count_to all_to written rank_in first_in sooner each_to within sized empty_project empty_kind tidy_projects tidy_kinds
    in_range timed budgets sizes unused projects_in_range kind_in_range kinds_in_range budgets_fit ranges checked held_from first_cell
    untouched due_in_time underway unit_in_form empty_unit until_due gone_after left_after left_for project_left sums_right sum_fits
    sums_in_form in_form sums_told ready working active outranks cards_held rank_of chosen view_of served unit_after served_for sum_after
    advanced advance_of
after_it = refl

-- "the next call says 10"
pub next_says_ten : (call : Call) → number (next_after (advance_of both_ask).state call).answer ≡ 10
unfolding show_answer release_answer release_of advance_of
next_says_ten (show bytes) = rw after_it
next_says_ten advance = rw after_it
next_says_ten (release i e) = rw after_it
