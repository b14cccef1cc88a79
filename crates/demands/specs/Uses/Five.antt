-- Either paper's workload in use, on a plan with a deadline before its separation. By equation 5 everything is computed, and the theorems
-- say it of the verdict, the fresh start and the smallest budget, which are by equation 3.
-- Assumes nothing.
use Rattle.std.specs.Prelude.{◌≡◌, refl, ◌∷◌, ℕ, replicate}
use Rattle.std.proofs.Common.{sym, ap, ◌∙◌}
use Rattle.laws.specs.Sum.{sum_to}
use Rattle.laws.specs.Least.{least_to}
use Rattle.laws.specs.First.{first_to}
use Rattle.laws.specs.Count.{count_to}
use Rattle.laws.specs.All.{all_to}
use Rattle.laws.specs.Written.{written}
use Rattle.answer.specs.declared.Answer.TheVariants.{Good}
use Rattle.answer.specs.Answer.{number, place, excess, each_to}
use Rattle.plan.specs.declared.Plan.{Plan}
use Rattle.plan.specs.Record.{no_project, no_kind}
use Rattle.plan.specs.Example.{project, kind}
use Rattle.plan.specs.Order.{within, sized, empty_project, empty_kind, tidy_projects, tidy_kinds, in_range, timed, budgets}
use Rattle.plan.specs.Order.{sizes, unused, projects_in_range, kind_in_range, kinds_in_range, budgets_fit, ranges, checked}
use Rattle.plan.specs.Order.Properties.{in_order}
use Rattle.plan.specs.Open.{project_there, in_range_open, projects_in_range_open, ranges_open, checked_open}
use Rattle.layout.specs.Cards.{held_from}
use Rattle.layout.specs.Layout.{cell_at, first_cell, owns, held}
use Rattle.supply.specs.Supply.{window, supply}
use Rattle.supply.specs.Greatest.{greatest_to}
use Rattle.supply.specs.Fit.{fits_at, least_width, allowed_length, least_excess}
use Rattle.workload.specs.Workload.{besides, workload}
use Rattle.verdict.specs.declared.Verdict.{Verdict}
use Rattle.verdict.specs.Verdict.{judged}
use Rattle.rack.specs.declared.Next.{Next}
use Rattle.rack.specs.Start.{start_of}
use Rattle.smallest_budget.specs.declared.Smallest.{Smallest}
use Rattle.smallest_budget.specs.Smallest.{smallest_of}
use Rattle.demands.specs.AnyWorkload.{judged_by, start_by, smallest_by}
use Rattle.demands.specs.EquationFive.{judged_by_its_own, start_by_its_own, smallest_by_its_own}
use Rattle.demands.specs.EquationFive.{part_by_five, workload_by_five, workload_by_five_law, judged_by_five, start_by_five}
use Rattle.demands.specs.EquationFive.{smallest_by_five}

-- one card, one project that has it in one slice of two or in both, and two kinds; the second of this length
abbrev early : ℕ → Plan
early C = record {
  cards = 1;
  projects = 1;
  kinds = 2;
  frame = 2;
  project = project 1 2 ∷ replicate 7 no_project;
  kind = kind 0 8 5 3 ∷ kind 0 13 13 C ∷ replicate 14 no_kind;
}

-- ---- what is computed

record Computed : Type 0 where
  order : checked (early 2) ≡ Good
  -- 13 slices: one whole unit, and a second that is cut off
  six : workload_by_five (early 2) 1 ≡ 6
  good : (judged_by (early 2) (workload_by_five (early 2))).answer ≡ Good
  widths : (judged_by (early 2) (workload_by_five (early 2))).width ≡ 1 ∷ 1 ∷ replicate 14 0
  -- with one slice more in the second kind's unit, the first does not fit, by one slice
  eight : let a = (judged_by (early 3) (workload_by_five (early 3))).answer in (number a ≡ 8) × (place a ≡ 0) × (excess a ≡ 1)
  started : (start_by (early 2) (workload_by_five (early 2))).answer ≡ Good
  budget : (smallest_by (early 2) (workload_by_five (early 2)) 0).budget ≡ 2

computed : Computed
unfolding sum_to least_to first_to count_to all_to written each_to within sized empty_project empty_kind tidy_projects tidy_kinds in_range
    timed budgets sizes unused projects_in_range kind_in_range kinds_in_range budgets_fit ranges checked cell_at held_from first_cell owns
    held window supply fits_at least_width greatest_to allowed_length least_excess besides part_by_five workload_by_five project_there
    in_range_open projects_in_range_open ranges_open checked_open
computed =
    record { order = refl; six = refl; good = refl; widths = refl; eight = (refl, refl, refl); started = refl; budget = refl }

-- ---- what the theorems say of it

pub six_by_three : workload (early 2) 1 ≡ 6
six_by_three = workload_by_five_law (early 2) (in_order (early 2) computed.order) 1 ∙ computed.six

pub admitted_by_three : (judged (early 2)).answer ≡ Good
admitted_by_three = ap (λ (v : Verdict). v.answer) (judged_by_five (early 2)) ∙ computed.good

pub ones_by_three : (judged (early 2)).width ≡ 1 ∷ 1 ∷ replicate 14 0
ones_by_three = ap (λ (v : Verdict). v.width) (judged_by_five (early 2)) ∙ computed.widths

pub refused_by_three : number (judged (early 3)).answer ≡ 8
refused_by_three = ap (λ (v : Verdict). number v.answer) (judged_by_five (early 3)) ∙ computed.eight.0

pub excess_by_three : excess (judged (early 3)).answer ≡ 1
excess_by_three = ap (λ (v : Verdict). excess v.answer) (judged_by_five (early 3)) ∙ computed.eight.2

pub started_by_three : (start_of (early 2)).answer ≡ Good
started_by_three = ap (λ (n : Next). n.answer) (start_by_five (early 2)) ∙ computed.started

pub budget_by_three : (smallest_of (early 2) 0).budget ≡ 2
budget_by_three = ap (λ (r : Smallest). r.budget) (smallest_by_five (early 2) 0) ∙ computed.budget

-- and of what is worked out from the workload as it is

pub admitted_as_it_is : (judged_by (early 2) (workload (early 2))).answer ≡ Good
admitted_as_it_is = ap (λ (v : Verdict). v.answer) (sym (judged_by_its_own (early 2))) ∙ admitted_by_three

pub started_as_it_is : (start_by (early 2) (workload (early 2))).answer ≡ Good
started_as_it_is = ap (λ (n : Next). n.answer) (sym (start_by_its_own (early 2))) ∙ started_by_three

pub budget_as_it_is : (smallest_by (early 2) (workload (early 2)) 0).budget ≡ 2
budget_as_it_is = ap (λ (r : Smallest). r.budget) (sym (smallest_by_its_own (early 2) 0)) ∙ budget_by_three
