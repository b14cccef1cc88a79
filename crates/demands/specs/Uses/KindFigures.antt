-- The figures of a kind in use. Plan A's kind 0 as (0,4,3,3) is refused, and kind 1 of that plan has its figures all the same: it asks
-- 4 and 6 and is given 4 and 5. Plan A itself is admitted, and its kind 2 has k 1.
-- Assumes nothing.
use Rattle.std.specs.Prelude.{◌≡◌, refl, ◌∷◌, ℕ, ◌+◌, ◌≤◌, get_or, replicate}
use Rattle.std.proofs.Common.{sym, ap, ◌∙◌, arith}
use Rattle.laws.specs.Sum.{sum_to}
use Rattle.laws.specs.Least.{least_to, least_place}
use Rattle.laws.specs.First.{first_to}
use Rattle.laws.specs.Count.{count_to}
use Rattle.laws.specs.All.{all_to}
use Rattle.laws.specs.Written.{written}
use Rattle.answer.specs.declared.Answer.TheVariants.{Good}
use Rattle.answer.specs.Answer.{number, each_to}
use Rattle.plan.specs.Example.{plan_a}
use Rattle.plan.specs.Order.{within, sized, empty_project, empty_kind, tidy_projects, tidy_kinds, in_range, timed, budgets, InOrder}
use Rattle.plan.specs.Order.{sizes, unused, projects_in_range, kind_in_range, kinds_in_range, budgets_fit, ranges, checked}
use Rattle.plan.specs.Order.Properties.{in_order}
use Rattle.layout.specs.Layout.{cell_at, first_cell, owns, slot_of, held}
use Rattle.supply.specs.Supply.{window, supply, bad_slice}
use Rattle.supply.specs.Workload.{workload_part}
use Rattle.supply.specs.Greatest.{greatest_to}
use Rattle.supply.specs.Fit.{fits_at, least_width, allowed_length, least_excess, named_width, named_slice}
use Rattle.workload.specs.Workload.{besides, part_of, workload}
use Rattle.verdict.specs.declared.figures.Figures.{Figures}
use Rattle.verdict.specs.Verdict.{ceiling_on, width_of, excess_of, bad_slice_of, fitted, admitted, judged}
use Rattle.verdict.specs.Admission.{Fits, seen, given}
use Rattle.verdict.specs.Figures.{figures_answer, supply_at, bad_slice_at, figures_of}
use Rattle.demands.specs.Outcomes.{figuring, figuring_refused}
use Rattle.demands.specs.Numbers.{figures_numbers}
use Rattle.demands.specs.KindFigures.{answered_when, no_kind_when, FitsBy, all_widths, its_workload, fits_when}
use Rattle.demands.specs.KindFigures.{bad_slice_law, none_beyond, least_by, slice_by}
use Rattle.demands.specs.Uses.BadSlices.{too_long}

-- what is computed from the definitions
pub record Computed : Type 0 where
  pub order : checked too_long ≡ Good
  pub refused : number (judged too_long).answer ≡ 8
  -- of kind 1 of the refused plan
  pub one : figures_of too_long 1 ≡ record {
    answer = Good;
    widths = 2;
    workload = 2;
    supply = 4 ∷ 5 ∷ replicate 6 0;
    slice = replicate 8 0;
  }
  -- of its kind 0, the one that is refused
  pub none : figures_of too_long 0 ≡ record {
    answer = Good;
    widths = 1;
    workload = 0;
    supply = 2 ∷ replicate 7 0;
    slice = 1 ∷ replicate 7 0;
  }
  -- of kind 2 of plan A, which is admitted
  pub good : (judged plan_a).answer ≡ Good
  pub two : (figures_of plan_a 2).answer ≡ Good
  pub two_supply : get_or (figures_of plan_a 2).supply 0 0 ≡ 8
  pub two_asked : 2 + (figures_of plan_a 2).workload ≡ 6
  pub two_slice : get_or (figures_of plan_a 2).slice 0 0 ≡ 0

pub computed : Computed
unfolding sum_to least_to least_place first_to count_to all_to written each_to within sized empty_project empty_kind tidy_projects
    tidy_kinds in_range timed budgets sizes unused projects_in_range kind_in_range kinds_in_range budgets_fit ranges checked cell_at
    first_cell owns slot_of held window supply bad_slice workload_part fits_at least_width greatest_to allowed_length least_excess
    named_width named_slice besides part_of workload width_of excess_of bad_slice_of fitted admitted judged figures_answer supply_at
    bad_slice_at figures_of
computed = record {
  order = refl;
  refused = refl;
  one = refl;
  none = refl;
  good = refl;
  two = refl;
  two_supply = refl;
  two_asked = refl;
  two_slice = refl;
}

-- ---- demand 1

-- one outcome, and 12 for a fourth kind: none of them
pub its_widths : (figuring too_long 1).outcome.widths ≡ 2
its_widths = ap (λ (f : Figures). f.widths) ((figuring too_long 1).meets ∙ computed.one)

in_order_too_long : InOrder too_long
in_order_too_long = in_order too_long computed.order

pub twelve : number (figures_of too_long 3).answer ≡ 12
twelve = (no_kind_when too_long 3).1 (in_order_too_long, omega arith)

pub nothing : (figures_of too_long 3).workload ≡ 0
nothing = ap (λ (f : Figures). f.workload) (figuring_refused too_long 3 (λ z. omega (arith, twelve)))

pub three_kinds : 3 ≤ 3
three_kinds = ((no_kind_when too_long 3).0 twelve).1

pub not_nine : number (figures_of too_long 3).answer ≡ 0 → ⊥
not_nine z = omega (arith, twelve, z)

pub good_is_zero : (figures_of too_long 1).answer ≡ Good
good_is_zero = (figures_numbers too_long 1).good.0 (ap (λ (f : Figures). number f.answer) computed.one)

-- ---- a refused plan

-- its kind 1 is answered
pub answered : (figures_of too_long 1).answer ≡ Good
answered = (answered_when too_long 1).1 (in_order_too_long, omega arith)

pub its_order : InOrder too_long
its_order = ((answered_when too_long 1).0 answered).0

pub ceiling_two : ceiling_on too_long 1 ≡ 2
ceiling_two = sym (all_widths too_long 1 answered) ∙ ap (λ (f : Figures). f.widths) computed.one

pub workload_two : workload too_long 1 ≡ 2
workload_two = sym (its_workload too_long 1 answered) ∙ ap (λ (f : Figures). f.workload) computed.one

-- and fits at k 1, where it asks as much as it is given
pub fits_one : Fits too_long 1 1
fits_one = (fits_when too_long 1 answered 1).1 (rw computed.one (record { some = omega arith; most = omega arith; room = omega arith }))

-- not at k 2, where it asks one cell more
pub not_two : Fits too_long 1 2 → ⊥
not_two f = let by = rw computed.one at ((fits_when too_long 1 answered 2).0 f) in omega (arith, by.room)

-- kind 0 fits at no k
pub fits_none : (k : ℕ) → Fits too_long 0 k → ⊥
fits_none k f =
    let good : (figures_of too_long 0).answer ≡ Good = ap (λ (g : Figures). g.answer) computed.none in
    let by = rw computed.none at ((fits_when too_long 0 good k).0 f) in
    let one : k ≡ 1 = omega (arith, by.some, by.most) in
    omega (arith, rw one at by.room)

-- and from slice 1 its unit sees two cards in three slices
pub two_from_one : seen too_long 0 1 1 ≡ given too_long 0 1
two_from_one =
    let good : (figures_of too_long 0).answer ≡ Good = ap (λ (g : Figures). g.answer) computed.none in
    (rw computed.none at (bad_slice_law too_long 0 good 1 (omega arith) (rw computed.none (omega arith)))).attained

-- nothing stands beyond the ceiling
pub no_third : get_or (figures_of too_long 1).supply 2 0 ≡ 0
no_third = (none_beyond too_long 1 answered 3 (rw computed.one (omega arith))).0

-- ---- an admitted plan

two_by : FitsBy (figures_of plan_a 2) 2 1
two_by =
    let t = (least_by plan_a 2 computed.two computed.good).0 in
    record {
      some = omega arith;
      most = omega (arith, t.some, t.most);
      room = omega (arith, computed.two_supply, computed.two_asked);
    }

-- the verdict's k is at most 1, since the figures allow 1
pub k_one : get_or (judged plan_a).width 2 0 ≡ 1
k_one =
    let t = least_by plan_a 2 computed.two computed.good in
    omega (arith, t.1 1 two_by, t.0.some)

-- and its slice is the figure's
pub slice_none : get_or (judged plan_a).slice 2 0 ≡ 0
slice_none = rw k_one at (slice_by plan_a 2 computed.two computed.good) ∙ computed.two_slice
