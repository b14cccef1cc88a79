-- The bad slice in use. Plan A's kind 0 as (0,4,3,2) is admitted with k 1: from slice 0 it sees three cards, from slice 1 only two. As
-- (0,4,3,3) it is refused. And kinds of which k 1 and k 2 allow the same, with other slices, and of which nothing is allowed.
-- Assumes nothing.
use Rattle.std.specs.Prelude.{◌≡◌, refl, ◌∷◌, ℕ, ◌≤◌, ◌<◌, get_or, replicate}
use Rattle.std.proofs.Common.{◌∙◌, arith}
use Rattle.laws.specs.Sum.{sum_to}
use Rattle.laws.specs.Least.{least_to, least_place}
use Rattle.laws.specs.First.{first_to}
use Rattle.laws.specs.Count.{count_to}
use Rattle.laws.specs.All.{all_to}
use Rattle.laws.specs.Written.{written}
use Rattle.answer.specs.declared.Answer.TheVariants.{Good}
use Rattle.answer.specs.Answer.{number, place, excess, slice, each_to}
use Rattle.plan.specs.declared.Plan.{Plan}
use Rattle.plan.specs.Record.{no_project, no_kind}
use Rattle.plan.specs.Example.{project, kind, like_a}
use Rattle.plan.specs.Order.{within, sized, empty_project, empty_kind, tidy_projects, tidy_kinds, in_range, timed, budgets}
use Rattle.plan.specs.Order.{sizes, unused, projects_in_range, kind_in_range, kinds_in_range, budgets_fit, ranges, checked}
use Rattle.plan.specs.Order.Properties.{in_order}
use Rattle.layout.specs.Layout.{cell_at, first_cell, owns, slot_of, held}
use Rattle.supply.specs.Supply.{window, supply, bad_slice}
use Rattle.supply.specs.Workload.{workload_part}
use Rattle.supply.specs.Greatest.{greatest_to}
use Rattle.supply.specs.Fit.{fits_at, least_width, allowed_length, least_excess, named_width, named_slice}
use Rattle.workload.specs.Workload.{besides, part_of, workload}
use Rattle.verdict.specs.Verdict.{width_of, excess_of, bad_slice_of, fitted, admitted, judged}
use Rattle.verdict.specs.Admission.{asked, given, Allows, seen, BadSlice, Names}
use Rattle.demands.specs.Verdicts.{slice_beside, slice_of_excess, no_slice_of_excess, one_slice}

-- "Kind 0 of A as (0,4,3,2): admitted; as (0,4,3,3): 8"
abbrev pub shorter : Plan
shorter = like_a 3 5 (kind 0 4 3 2)

abbrev pub too_long : Plan
too_long = like_a 3 5 (kind 0 4 3 3)

-- two cards, frame 4; one project q 2, B 6; kinds (0,3,3,1), (0,3,3,3): against 3 and 4 both k 1 and k 2 allow kind 0 a length
-- of 0
abbrev pub even : Plan
even = record {
  cards = 2;
  projects = 1;
  kinds = 2;
  frame = 4;
  project = project 2 6 ∷ replicate 7 no_project;
  kind = kind 0 3 3 1 ∷ kind 0 3 3 3 ∷ replicate 14 no_kind;
}

-- two cards, frame 4; one project q 1, B 3; kinds (0,3,3,1), (0,3,3,3): the other kind alone asks 3 against 2
abbrev pub full : Plan
full = record {
  cards = 2;
  projects = 1;
  kinds = 2;
  frame = 4;
  project = project 1 3 ∷ replicate 7 no_project;
  kind = kind 0 3 3 1 ∷ kind 0 3 3 3 ∷ replicate 14 no_kind;
}

pub record Figures : Type 0 where
  pub order : checked shorter ≡ Good
  pub good : (judged shorter).answer ≡ Good
  pub k_one : get_or (judged shorter).width 0 0 ≡ 1
  pub from_one : get_or (judged shorter).slice 0 0 ≡ 1
  pub supply_two : given shorter 0 1 ≡ 2
  pub eight : let a = (judged too_long).answer in (number a ≡ 8) × (place a ≡ 0) × (excess a ≡ 1) × (slice a ≡ 1)
  pub even_eight : let a = (judged even).answer in (number a ≡ 8) × (place a ≡ 0) × (excess a ≡ 1) × (slice a ≡ 0)
  pub long_asked : asked too_long 0 1 ≡ 3
  pub long_given : given too_long 0 1 ≡ 2
  pub even_asked : asked even 0 1 ≡ 4
  pub even_given : given even 0 1 ≡ 3
  pub full_eight : let a = (judged full).answer in (number a ≡ 8) × (place a ≡ 0) × (excess a ≡ 1)
  pub full_asked : asked full 0 1 ≡ 4
  pub full_given : given full 0 1 ≡ 2

pub figures : Figures
unfolding sum_to least_to least_place first_to count_to all_to written each_to within sized empty_project empty_kind tidy_projects
    tidy_kinds in_range timed budgets sizes unused projects_in_range kind_in_range kinds_in_range budgets_fit ranges checked cell_at
    first_cell owns slot_of held window supply bad_slice workload_part fits_at least_width greatest_to allowed_length least_excess
    named_width named_slice besides part_of workload width_of excess_of bad_slice_of fitted admitted judged
figures = record {
  order = refl;
  good = refl;
  k_one = refl;
  from_one = refl;
  supply_two = refl;
  eight = (refl, refl, refl, refl);
  even_eight = (refl, refl, refl, refl);
  long_asked = refl;
  long_given = refl;
  even_asked = refl;
  even_given = refl;
  full_eight = (refl, refl, refl);
  full_asked = refl;
  full_given = refl;
}

-- ---- beside a k

from_one : BadSlice shorter 0 1 1
from_one = rw (figures.k_one, figures.from_one) at (slice_beside shorter figures.good 0 (omega arith))

-- it is in the frame of four
pub in_four : get_or (judged shorter).slice 0 0 < 4
in_four = (slice_beside shorter figures.good 0 (omega arith)).in_frame

-- from slice 1 the unit sees two, from slice 0 more, and from no slice less, in this frame or a later one
pub two_from_one : seen shorter 0 1 1 ≡ 2
two_from_one = from_one.attained ∙ figures.supply_two

pub more_from_none : 2 < seen shorter 0 1 0
more_from_none = omega (arith, from_one.earliest 0 (omega arith), figures.supply_two)

pub never_less : 2 ≤ seen shorter 0 1 7
never_less = omega (arith, from_one.least 7, figures.supply_two)

-- and no other slice is the bad one
pub only_one : (a : ℕ) → BadSlice shorter 0 1 a → a ≡ 1
only_one a bad = one_slice shorter (in_order shorter figures.order) 0 1 a 1 bad from_one

-- ---- beside an excess

-- two of the three slices are allowed, by k 1: from slice 1 the unit sees no more
pub two_of_three : seen too_long 0 1 1 ≡ 2
two_of_three =
    let told = figures.eight in
    let bad = slice_of_excess too_long 1 told.0 (rw (told.1, told.2) named) in
    (rw (told.1, told.3) at bad).attained ∙ figures.long_given
  where
    named : Names too_long 0 1 1
    named = record {
      allows = record {
        width = record { some = omega arith; most = omega arith };
        room = omega (arith, figures.long_asked, figures.long_given);
      };
      first = λ j l a. omega (arith, a.width.some);
    }

-- of two k that allow the same the lesser is named: from slice 0 one card sees three in three slices, as from every other
pub lesser_named : seen even 0 1 0 ≡ 3
lesser_named =
    let told = figures.even_eight in
    let bad = slice_of_excess even 1 told.0 (rw (told.1, told.2) named) in
    (rw (told.1, told.3) at bad).attained ∙ figures.even_given
  where
    named : Names even 0 1 1
    named = record {
      allows = record {
        width = record { some = omega arith; most = omega arith };
        room = omega (arith, figures.even_asked, figures.even_given);
      };
      first = λ j l a. omega (arith, a.width.some);
    }

-- where the others leave no room at all, none is named
pub none_named : slice (judged full).answer ≡ 0
none_named = let told = figures.full_eight in no_slice_of_excess full told.0 (rw (told.1, told.2) none)
  where
    none : (k : ℕ) → Allows full 0 0 k → ⊥
    none k a =
        let one : k ≡ 1 = omega (arith, a.width.some, a.width.most) in
        omega (arith, rw one at a.room, figures.full_asked, figures.full_given)
