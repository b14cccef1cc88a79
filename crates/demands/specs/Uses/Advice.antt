-- The excess in use as advice: "Give plan B's kind 0 length 3. We report an excess of 3, yet length 1 fits, so the unit was 2 too long."
-- Assumes nothing.
use Rattle.std.specs.Prelude.{◌≡◌, refl, ℕ}
use Rattle.std.proofs.Common.{arith}
use Rattle.laws.specs.Sum.{sum_to}
use Rattle.laws.specs.Least.{least_to}
use Rattle.laws.specs.First.{first_to}
use Rattle.laws.specs.Count.{count_to}
use Rattle.laws.specs.All.{all_to}
use Rattle.answer.specs.Answer.{number, place, excess, each_to}
use Rattle.plan.specs.declared.Plan.{Plan}
use Rattle.plan.specs.Example.{plan_b}
use Rattle.plan.specs.Order.{within, sized, empty_project, empty_kind, tidy_projects, tidy_kinds, in_range, timed, budgets}
use Rattle.plan.specs.Order.{sizes, unused, projects_in_range, kind_in_range, kinds_in_range, budgets_fit, ranges, checked}
use Rattle.layout.specs.Layout.{cell_at, first_cell, owns, slot_of, held}
use Rattle.supply.specs.Supply.{window, supply}
use Rattle.supply.specs.Workload.{workload_part}
use Rattle.supply.specs.Greatest.{greatest_to}
use Rattle.supply.specs.Fit.{fits_at, least_width, allowed_length, least_excess}
use Rattle.workload.specs.Workload.{besides, part_of, workload}
use Rattle.verdict.specs.Verdict.{width_of, excess_of, fitted, admitted, judged}
use Rattle.verdict.specs.Admission.{Fits}
use Rattle.verdict.specs.Advice.{with_length}
use Rattle.demands.specs.Verdicts.{advice_right}

-- "Give plan B's kind 0 length 3"
abbrev pub long : Plan
long = with_length plan_b 0 3

eight : let a = (judged long).answer in (number a ≡ 8) × (place a ≡ 0) × (excess a ≡ 2)
unfolding sum_to least_to first_to count_to all_to each_to within sized empty_project empty_kind tidy_projects tidy_kinds in_range timed
    budgets sizes unused projects_in_range kind_in_range kinds_in_range budgets_fit ranges checked cell_at first_cell owns slot_of held
    window supply workload_part fits_at least_width greatest_to allowed_length least_excess besides part_of workload width_of excess_of
    fitted admitted judged
eight = (refl, refl, refl)

-- "length 1 fits"
pub one_fits : (k : ℕ) × Fits (with_length long 0 1) 0 k
one_fits = (advice_right long 0 2 1 eight (omega arith) (omega arith)).1 (omega arith)

-- and 2 does not
pub two_does_not : (k : ℕ) → Fits (with_length long 0 2) 0 k → ⊥
two_does_not k f = omega (arith, (advice_right long 0 2 2 eight (omega arith) (omega arith)).0 (k, f))
