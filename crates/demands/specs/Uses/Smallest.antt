-- The smallest budget in use: each statement applied to plan A and plans like it at its tightest. On plan A project 0 needs the 3 it
-- has, with which no cell is free, and project 1 needs 4 where 5 were guessed.
-- Assumes nothing.
use Rattle.std.specs.Prelude.{◌≡◌, refl, ◌≢◌, false, ◌∷◌, ℕ, zero, suc, ◌+◌, ◌*◌, ◌≤◌, ◌<◌, replicate}
use Rattle.std.proofs.Common.{ap, ◌∙◌, arith}
use Rattle.std.proofs.Math.Decide.{dec_lt}
use Rattle.laws.specs.Sum.{sum_to}
use Rattle.laws.specs.Least.{least_to}
use Rattle.laws.specs.First.{first_to}
use Rattle.laws.specs.Count.{count_to}
use Rattle.laws.specs.All.{all_to}
use Rattle.laws.specs.Written.{written}
use Rattle.answer.specs.declared.Answer.TheVariants.{Good}
use Rattle.answer.specs.Answer.{number, place, excess, slice, each_to}
use Rattle.answer.specs.Numbers.{among, placed}
use Rattle.plan.specs.declared.Plan.{Plan}
use Rattle.plan.specs.Record.{no_project, no_kind}
use Rattle.plan.specs.Example.{project, kind, like_a, plan_a}
use Rattle.plan.specs.Order.{within, sized, empty_project, empty_kind, tidy_projects, tidy_kinds, in_range, timed, kind_of, budgets}
use Rattle.plan.specs.Order.{sizes, unused, projects_in_range, kind_in_range, kinds_in_range, budgets_fit, ranges, checked}
use Rattle.plan.specs.Order.Properties.{in_order}
use Rattle.plan.specs.Open.{with_budget, project_there, in_range_open, projects_in_range_open, ranges_open, checked_open}
use Rattle.plan.specs.Open.Properties.{open_order_law}
use Rattle.layout.specs.Cards.{held_from}
use Rattle.layout.specs.Layout.{cell_at, first_cell, owns, held}
use Rattle.supply.specs.Supply.{window, supply}
use Rattle.supply.specs.Workload.{workload_part}
use Rattle.supply.specs.Greatest.{greatest_to}
use Rattle.supply.specs.Fit.{fits_at, least_width, allowed_length, least_excess}
use Rattle.workload.specs.Workload.{besides, part_of, workload}
use Rattle.verdict.specs.Verdict.{judged}
use Rattle.verdict.specs.Admission.{asked, given, Fits}
use Rattle.smallest_budget.specs.declared.Smallest.{Smallest}
use Rattle.smallest_budget.specs.Smallest.{held_with, width_with, excess_with, serves, least_budget, served_with, smallest_answer}
use Rattle.smallest_budget.specs.Smallest.{smallest_of}
use Rattle.demands.specs.Outcomes.{finding, finding_refused}
use Rattle.demands.specs.Numbers.{check_open_numbers, smallest_numbers}
use Rattle.demands.specs.OpenBudget.{given_with, FitsWith, Serves, Least, AllowsWith, NotServed}
use Rattle.demands.specs.SmallestBudgets.{first_cell_moved, greater_budget, as_laid_out, greater_written, given_when}
use Rattle.demands.specs.SmallestBudgets.{no_project_when, none_serves_when, slice_at_most, not_served_when, too_large_when}
use Rattle.demands.specs.SmallestBudgets.{written_in_order, all_fit, none_smaller, admitted_with_others}
use Rattle.demands.specs.SmallestBudgets.{others_unmoved, stored_no_say, differ_there_alone}

-- ---- the plans

-- plan A with a budget of project 0 that there cannot be, and this one of project 1
abbrev beside : ℕ → Plan
beside B = like_a 9 B (kind 0 8 8 6)

-- plan A with length 4 for kind 1: project 1 does not fit, whatever its budget
abbrev crowded : Plan
crowded = record {
  cards = 2;
  projects = 2;
  kinds = 3;
  frame = 4;
  project = project 1 3 ∷ project 2 5 ∷ replicate 6 no_project;
  kind = kind 0 8 8 6 ∷ kind 1 4 4 4 ∷ kind 1 8 8 2 ∷ replicate 13 no_kind;
}

-- ---- what is computed from the definitions

record Figures : Type 0 where
  -- five cells of a frame of four from cell 0 on
  from_none : supply 4 (held_from 0 5 4) 2 3 ≡ 3
  -- what project 0 is asked and given with budgets of 1, 2 and 3
  asked_none : (B : ℕ) → asked (beside B) 0 1 ≡ 6
  given_none : (B b : ℕ) → 0 < b → b < 3 → given_with (beside B) 0 b 0 1 ≤ 4
  given_three : (B : ℕ) → given_with (beside B) 0 3 0 1 ≡ 6
  order_five : checked_open (beside 5) 0 ≡ Good
  order_six : checked_open (beside 6) 0 ≡ Good
  sum_five : budgets (with_budget (beside 5) 0 3) ≡ 8
  sum_six : budgets (with_budget (beside 6) 0 3) ≡ 9
  -- what project 1 is asked and given with 4
  asked_four : asked plan_a 1 1 ≡ 4
  given_four : given_with plan_a 1 4 1 1 ≡ 4
  four : smallest_of plan_a 1 ≡ record { answer = Good; budget = 4 }
  three : smallest_of plan_a 0 ≡ record { answer = Good; budget = 3 }
  -- plan A with budgets written in
  order_a : checked plan_a ≡ Good
  order_four : checked (with_budget plan_a 1 4) ≡ Good
  order_one : checked (with_budget plan_a 0 1) ≡ Good
  asked_laid : asked (with_budget plan_a 1 4) 1 1 ≡ 4
  room-four : asked (with_budget plan_a 1 4) 1 1 ≤ given (with_budget plan_a 1 4) 1 1
  room-one : asked (with_budget plan_a 0 1) 1 1 ≤ given (with_budget plan_a 0 1) 1 1
  room-other : asked (with_budget plan_a 1 4) 0 1 ≤ given (with_budget plan_a 1 4) 0 1
  -- what the refusals say
  absent : number (smallest_of plan_a 2).answer ≡ 27
  absent_open : number (checked_open plan_a 2) ≡ 27
  bare_27 : among placed 27 ≡ false
  eight : let a = (smallest_of crowded 1).answer in (number a ≡ 8) × (place a ≡ 1) × (excess a ≡ 1)
  order_crowded : checked_open crowded 1 ≡ Good
  workload_crowded : workload crowded 1 ≡ 2
  asked_crowded : (k : ℕ) → k < 3 → 0 < k → asked crowded 1 k ≡ 4 * k + 2
  given_crowded : (k : ℕ) → k < 3 → 0 < k → given_with crowded 1 8 1 k ≡ 4 * k
  seven : number (smallest_of (beside 6) 0).answer ≡ 7

figures : Figures
unfolding sum_to least_to first_to count_to all_to written each_to within sized empty_project empty_kind tidy_projects tidy_kinds in_range
    timed budgets sizes unused projects_in_range kind_in_range kinds_in_range budgets_fit ranges checked project_there in_range_open
    projects_in_range_open ranges_open checked_open cell_at held_from first_cell owns held window supply workload_part fits_at least_width
    greatest_to allowed_length least_excess besides part_of workload width_with excess_with serves least_budget served_with smallest_answer
    smallest_of among
figures = record {
  from_none = refl;
  asked_none = λ B. refl;
  given_none = none;
  given_three = λ B. refl;
  order_five = refl;
  order_six = refl;
  sum_five = refl;
  sum_six = refl;
  asked_four = refl;
  given_four = refl;
  four = refl;
  three = refl;
  order_a = refl;
  order_four = refl;
  order_one = refl;
  asked_laid = refl;
  room-four = omega arith;
  room-one = omega arith;
  room-other = omega arith;
  absent = refl;
  absent_open = refl;
  bare_27 = refl;
  eight = (refl, refl, refl);
  order_crowded = refl;
  workload_crowded = refl;
  asked_crowded = asks;
  given_crowded = gives;
  seven = refl;
}
  where
    none : (B b : ℕ) → 0 < b → b < 3 → given_with (beside B) 0 b 0 1 ≤ 4
    none B zero p l = absurd (omega arith)
    none B (suc zero) p l = omega arith
    none B (suc (suc zero)) p l = omega arith
    none B (suc (suc (suc b))) p l = absurd (omega arith)

    asks : (k : ℕ) → k < 3 → 0 < k → asked crowded 1 k ≡ 4 * k + 2
    asks zero l p = absurd (omega arith)
    asks (suc zero) l p = refl
    asks (suc (suc zero)) l p = refl
    asks (suc (suc (suc k))) l p = absurd (omega arith)

    gives : (k : ℕ) → k < 3 → 0 < k → given_with crowded 1 8 1 k ≡ 4 * k
    gives zero l p = absurd (omega arith)
    gives (suc zero) l p = refl
    gives (suc (suc zero)) l p = refl
    gives (suc (suc (suc k))) l p = absurd (omega arith)

good_one : (smallest_of plan_a 1).answer ≡ Good
good_one = ap (λ (r : Smallest). r.answer) figures.four

is_four : (smallest_of plan_a 1).budget ≡ 4
is_four = ap (λ (r : Smallest). r.budget) figures.four

-- ---- the first cell and a greater budget

-- project 1's five cells, from cell 3 on as they are laid
pub from_three : supply 4 (held_from 3 5 4) 2 3 ≡ 3
from_three = omega (arith, first_cell_moved 3 0 5 4 2 3, figures.from_none)

-- kind 1 fits at 1 with 4 cells, and so with 5
fits_four : FitsWith plan_a 1 4 1 1
fits_four = record {
  width = record { some = omega arith; most = omega arith };
  room = omega (arith, figures.asked_four, figures.given_four);
}

laid_four : Fits (with_budget plan_a 1 4) 1 1
laid_four = record { width = record { some = omega arith; most = omega arith }; room = figures.room-four }

pub four_of_five : 4 ≤ given_with plan_a 1 5 1 1
four_of_five = omega (arith, (greater_budget plan_a 1 4 5 1 1 (omega arith) fits_four).room, figures.asked_four)

-- with 4 written in, on the layout, and back
pub four_laid_out : 4 ≤ given (with_budget plan_a 1 4) 1 1
four_laid_out =
    let o = in_order (with_budget plan_a 1 4) figures.order_four in
    omega (arith, ((as_laid_out plan_a 1 4 1 1 o (omega arith) refl).0 fits_four).room, figures.asked_laid)

pub four_anywhere : 4 ≤ given_with plan_a 1 4 1 1
four_anywhere =
    let o = in_order (with_budget plan_a 1 4) figures.order_four in
    let f = (as_laid_out plan_a 1 4 1 1 o (omega arith) refl).1 laid_four in
    omega (arith, f.room, figures.asked_four)

pub fits_five : Fits plan_a 1 1
fits_five =
    greater_written plan_a 1 4 5 1 1 (omega arith) (in_order (with_budget plan_a 1 4) figures.order_four)
    (in_order plan_a figures.order_a) (omega arith)
    laid_four

-- ---- the least

-- with q 1 the only k is 1, and with fewer than 3 cells the 6 slices asked are not given
least_three : (B : ℕ) → Least (beside B) 0 3
least_three B = record { some = omega arith; most = omega arith; serves = serves_three; least = least }
  where
    serves_three : Serves (beside B) 0 3
    serves_three zero l own = (
      1,
      record {
        width = record { some = omega arith; most = omega arith };
        room = omega (arith, figures.asked_none B, figures.given_three B);
      },
    )
    serves_three (suc zero) l own = absurd (omega (arith, own))
    serves_three (suc (suc zero)) l own = absurd (omega (arith, own))
    serves_three (suc (suc (suc i))) l own = absurd (omega arith)

    least : (c : ℕ) → 0 < c → Serves (beside B) 0 c → 3 ≤ c
    least c p s =
        let t = s 0 (omega arith) refl in
        let one : t.0 ≡ 1 = omega (arith, t.1.width.some, t.1.width.most) in
        elim (dec_lt c 3) [
          | yes q ↦ absurd (omega (arith, rw one at t.1.room, figures.asked_none B, figures.given_none B c p q))
          | no q ↦ omega arith
        ]

-- 3 cells beside 5: all eight are taken, and that is not too many
pub given_three : (smallest_of (beside 5) 0).budget ≡ 3
given_three =
    ((given_when (beside 5) 0 3).1 (open_order_law (beside 5) 0 figures.order_five, least_three 5, omega (arith, figures.sum_five))).1

-- project 1 needs its 4
pub not_with_three : Serves plan_a 1 3 → ⊥
not_with_three s = omega (arith, ((given_when plan_a 1 4).0 (good_one, is_four)).1.least 3 (omega arith) s)

-- ---- the refusals

-- with all its eight cells the crowded project holds two cards at every slice: from slice 3 as from any other one card sees four in
-- four slices, and no slice stands beside the excess
pub four_from_three : window 1 (held_with crowded 1 8) 3 4 ≡ 4
four_from_three = (slice_at_most crowded 1 figures.eight.0).1 1 3 4 ∙ figures.given_crowded 1 (omega arith) (omega arith)

pub no_worse : slice (smallest_of crowded 1).answer ≡ 0
no_worse = (slice_at_most crowded 1 figures.eight.0).0

-- plan A has projects 0 and 1
pub no_third : number (smallest_of plan_a 2).answer ≡ 27
no_third =
    let o = in_order plan_a figures.order_a in
    (no_project_when plan_a 2).1 (o.counts, o.projects_tidy, o.kinds_tidy, omega arith)

pub second_there : number (smallest_of plan_a 1).answer ≢ 27
second_there z = omega (arith, ((no_project_when plan_a 1).0 z).3)

-- where kind 1 is 4 long it has no k even with all eight cells: k 1 allows 2 and k 2 allows 3
none_crowded : (k : ℕ) → FitsWith crowded 1 8 1 k → ⊥
none_crowded k f =
    let l : k < 3 = omega (arith, f.width.most) in
    omega (arith, f.room, figures.asked_crowded k l f.width.some, figures.given_crowded k l f.width.some)

pub not_with_eight : Serves crowded 1 8 → ⊥
not_with_eight = ((none_serves_when crowded 1).0 figures.eight.0).1 8 (omega arith) (omega arith)

pub told_none : number (smallest_of crowded 1).answer ≡ 8
told_none = (none_serves_when crowded 1).1 (open_order_law crowded 1 figures.order_crowded, none)
  where
    none : (b : ℕ) → 0 < b → b ≤ 8 → Serves crowded 1 b → ⊥
    none b p l s = let t = s 1 (omega arith) refl in none_crowded t.0 (greater_budget crowded 1 b 8 1 t.0 l t.1)

-- so it is 1 too long
pub three_at_most : (c k : ℕ) → c ≤ 4 → AllowsWith crowded 1 8 1 c k → c ≤ 3
three_at_most c k l a = omega (arith, ((not_served_when crowded 1 1 1).0 figures.eight).1.greatest c k l a)

pub told_eight : let a = (smallest_of crowded 1).answer in (number a ≡ 8) × (place a ≡ 1) × (excess a ≡ 1)
told_eight = (not_served_when crowded 1 1 1).1 (open_order_law crowded 1 figures.order_crowded, first)
  where
    longest : (c k : ℕ) → 0 < k → k < 3 → k * c + 2 ≤ 4 * k → c + 1 ≤ 4
    longest c zero p l e = absurd (omega arith)
    longest c (suc zero) p l e = omega arith
    longest c (suc (suc zero)) p l e = omega arith
    longest c (suc (suc (suc k))) p l e = absurd (omega arith)

    others : (h : ℕ) → h < 1 → (kind_of crowded h).project ≡ 1 → (k : ℕ) × FitsWith crowded 1 8 h k
    others zero l own = absurd (omega (arith, own))
    others (suc h) l own = absurd (omega arith)

    first : NotServed crowded 1 1 1
    first = record {
      its_kind = omega arith;
      its_project = refl;
      first = others;
      no_width = none_crowded;
      most = omega arith;
      allowed =
          λ l. (
            2,
            record {
              width = record { some = omega arith; most = omega arith };
              room = omega (arith, figures.workload_crowded, figures.given_crowded 2 (omega arith) (omega arith));
            },
          );
      greatest =
          λ c k l a.
          let m : k < 3 = omega (arith, a.width.most) in
          longest c k a.width.some m (omega (arith, a.room, figures.workload_crowded, figures.given_crowded k m a.width.some));
    }

-- 3 cells beside 6 are one too many
pub told_seven : number (smallest_of (beside 6) 0).answer ≡ 7
told_seven =
    (too_large_when (beside 6) 0).1 (open_order_law (beside 6) 0 figures.order_six, (3, least_three 6, omega (arith, figures.sum_six)))

pub one_too_many : (b : ℕ) × (Least (beside 6) 0 b) × (8 < budgets (with_budget (beside 6) 0 b))
one_too_many = ((too_large_when (beside 6) 0).0 figures.seven).1

-- ---- it may be believed

-- project 0's 3 and project 1's 4 are at most eight
pub eight_cells : budgets (with_budget plan_a 1 4) ≤ 8
eight_cells = rw is_four at (written_in_order plan_a 1 good_one).cells

-- kind 1 has a k there, and with 3 cells one of the kinds has none
pub fits_there : (k : ℕ) × Fits (with_budget plan_a 1 4) 1 k
fits_there = rw is_four at (all_fit plan_a 1 good_one 1 (omega arith) refl)

pub not_all_there : ((i : ℕ) → i < 3 → (kind_of plan_a i).project ≡ 1 → (k : ℕ) × Fits (with_budget plan_a 1 3) i k) → ⊥
not_all_there = none_smaller plan_a 1 good_one 3 (omega arith) (omega (arith, is_four))

-- that plan is admitted, since project 0's kind fits too
pub admitted_four : (judged (with_budget plan_a 1 4)).answer ≡ Good
admitted_four = rw is_four at ((admitted_with_others plan_a 1 good_one).1 (rw is_four others))
  where
    others : (i : ℕ) → i < 3 → (kind_of plan_a i).project ≢ 1 → (k : ℕ) × Fits (with_budget plan_a 1 4) i k
    others zero l n = (1, record { width = record { some = omega arith; most = omega arith }; room = figures.room-other })
    others (suc zero) l n = absurd (n refl)
    others (suc (suc zero)) l n = absurd (n refl)
    others (suc (suc (suc i))) l n = absurd (omega arith)

-- project 1's kind 1 fits wherever project 0's budget moves it
pub fits_moved : Fits plan_a 1 1
fits_moved =
    others_unmoved plan_a 0 1 3 1 1 (in_order (with_budget plan_a 0 1) figures.order_one) (in_order plan_a figures.order_a) (omega arith)
    (λ e. omega (arith, e))
    (record { width = record { some = omega arith; most = omega arith }; room = figures.room-one })

-- ---- the stored budget

pub nine_unread : (smallest_of (beside 5) 0).budget ≡ 3
nine_unread = ap (λ (r : Smallest). r.budget) (stored_no_say plan_a 0 9 (omega arith) ∙ figures.three)

pub nine_alone : (smallest_of (beside 5) 0).budget ≡ 3
nine_alone = ap (λ (r : Smallest). r.budget) (differ_there_alone (beside 5) plan_a 0 1 (omega arith) refl ∙ figures.three)

-- ---- one outcome, and its numbers

pub finds_three : (finding plan_a 0).outcome.budget ≡ 3
finds_three = ap (λ (r : Smallest). r.budget) ((finding plan_a 0).meets ∙ figures.three)

pub finds_none : (smallest_of crowded 1).budget ≡ 0
finds_none = finding_refused crowded 1 (λ z. omega (arith, figures.eight.0))

pub open_place : place (checked_open plan_a 2) ≡ 0
open_place = (check_open_numbers plan_a 2).its_place (ap (among placed) figures.absent_open ∙ figures.bare_27)

pub absent_excess : excess (smallest_of plan_a 2).answer ≡ 0
absent_excess = (smallest_numbers plan_a 2).its_excess (λ z. omega (arith, figures.absent))
