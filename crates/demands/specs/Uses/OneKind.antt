-- Plans of one-kind projects in use: each statement applied to small lists at its tightest. Document 000's opening kinds on two cards have
-- F = 3 and fill both; a list whose sum of C/T is exactly m is built; one that is within m and not of multiples gets 7.
-- Assumes nothing.
use Rattle.std.specs.Prelude.{◌≡◌, refl, ◌≢◌, false, List, [], ◌∷◌, ◌++◌, ℕ, zero, suc, ◌*◌, ◌/◌, ◌≤◌, ◌<◌, length, take}
use Rattle.std.proofs.Common.{ap, ◌∙◌, arith}
use Rattle.std.specs.Int.{◌∣◌}
use Rattle.std.proofs.Math.Nat.{dvd_antisymm, dvd_refl, dvd_of_mod-eq-zero}
use Rattle.laws.specs.Sum.{sum_to}
use Rattle.laws.specs.Least.{least_to}
use Rattle.laws.specs.First.{first_to}
use Rattle.laws.specs.Count.{count_to}
use Rattle.laws.specs.All.{all_to}
use Rattle.laws.specs.Written.{written}
use Rattle.laws.specs.Ranking.{rank_in, first_in, sooner}
use Rattle.answer.specs.declared.Answer.TheVariants.{Good}
use Rattle.answer.specs.Answer.{number, place, each_to}
use Rattle.answer.specs.Numbers.{among, placed}
use Rattle.plan.specs.declared.Project.{Project}
use Rattle.plan.specs.declared.Kind.{Kind}
use Rattle.plan.specs.declared.Plan.{Plan}
use Rattle.plan.specs.Record.{no_plan}
use Rattle.plan.specs.Order.{project_of, kind_of, within, sized, empty_project, empty_kind, tidy_projects, tidy_kinds, in_range, timed}
use Rattle.plan.specs.Order.{budgets, sizes, unused, projects_in_range, kind_in_range, kinds_in_range, budgets_fit, ranges, checked}
use Rattle.plan_bytes.specs.declared.Reading.{Reading}
use Rattle.plan_bytes.specs.Parts.{size, encoded}
use Rattle.plan_bytes.specs.Reading.{read_of}
use Rattle.plan_bytes.specs.Writing.{write_answer}
use Rattle.layout.specs.Cards.{held_from}
use Rattle.layout.specs.Layout.{cell_at, first_cell, owns, slot_of, held}
use Rattle.supply.specs.Supply.{window, supply}
use Rattle.supply.specs.Workload.{workload_part}
use Rattle.supply.specs.Greatest.{greatest_to}
use Rattle.supply.specs.Fit.{fits_at, least_width, allowed_length, least_excess}
use Rattle.workload.specs.Workload.{besides, part_of, workload}
use Rattle.verdict.specs.Verdict.{width_of, excess_of, fitted, admitted, judged}
use Rattle.smallest_budget.specs.declared.Smallest.{Smallest}
use Rattle.smallest_budget.specs.Smallest.{smallest_of}
use Rattle.one_kind.specs.declared.Built.{Built}
use Rattle.one_kind.specs.Divisor.{repeated, divisor, divisor_to}
use Rattle.one_kind.specs.Wanted.{kinds_in, field_at, separation_in, length_in}
use Rattle.one_kind.specs.Built.{rounded_up, offered, counts, frame_for, frame_fits, timed_alone, kinds_timed, budget_for, answer_for}
use Rattle.one_kind.specs.Built.{built_of, Timed, InLimits, Buildable}
use Rattle.unit.specs.Form.{untouched, due_in_time, underway, unit_in_form, empty_unit}
use Rattle.unit.specs.Step.{until_due, gone_after, left_after}
use Rattle.unit.specs.Start.{early, startable}
use Rattle.rack.specs.Sums.{left_for, project_left, sums_right}
use Rattle.rack.specs.Form.{sum_fits, sums_in_form, in_form, sums_told, ready}
use Rattle.rack.specs.View.{has_card, cards_held, rank_of, chosen, takes_card, byte_on}
use Rattle.rack.specs.Rank.{working, active, active_kinds, outranks, view_of, rank, served}
use Rattle.rack.specs.Row.{holds, byte_by, row_byte, row_of, row_over}
use Rattle.rack.specs.Start.{start_answer, start_of}
use Rattle.rack.specs.Release.{release_answer, released, release_of}
use Rattle.rack.specs.Advance.{unit_after, served_for, sum_after, advanced, advance_of}
use Rattle.demands.specs.Run.{Call, advance, after, run_from, accepted_in, slices_of}
use Rattle.demands.specs.Named.{names_kind, bytes_naming}
use Rattle.demands.specs.Outcomes.{building, building_refused}
use Rattle.demands.specs.Numbers.{build_numbers}
use Rattle.demands.specs.OneKindProjects.{frame_divides, frame_greatest, rounded_up_law, built_when, built_exactly, out_of_range_when}
use Rattle.demands.specs.OneKindProjects.{too_many_when, untimed_when, divisor_exceeds_when, sum_exceeds_when, plan_built}
use Rattle.demands.specs.OneKindProjects.{project_built, kind_built, always_admitted, always_starts, always_in_time, always_written}
use Rattle.demands.specs.OneKindProjects.{always_read, always_smallest}

-- ---- the lists

-- 000's opening example: (3,2), (6,4), (6,3)
abbrev opening : List ℕ
opening = 0 ∷ 3 ∷ 0 ∷ 2 ∷ 0 ∷ 6 ∷ 0 ∷ 4 ∷ 0 ∷ 6 ∷ 0 ∷ 3 ∷ []

-- (4,3), (4,3) and one of separation 8: with length 4 the sum of C/T is exactly 2, and with 6 it is more
abbrev filling : ℕ → List ℕ
filling C = 0 ∷ 4 ∷ 0 ∷ 3 ∷ 0 ∷ 4 ∷ 0 ∷ 3 ∷ 0 ∷ 8 ∷ 0 ∷ C ∷ []

-- (2,1), (3,1): the sum of C/T is 5/6, and F is 1
abbrev uneven : List ℕ
uneven = 0 ∷ 2 ∷ 0 ∷ 1 ∷ 0 ∷ 3 ∷ 0 ∷ 1 ∷ []

-- one kind of length 1 with this separation, and a byte more
abbrev single : ℕ → List ℕ
single T = 0 ∷ T ∷ 0 ∷ 1 ∷ []

abbrev cut : List ℕ
cut = 0 ∷ 2 ∷ 0 ∷ 1 ∷ 0 ∷ []

-- nine kinds (1,1)
abbrev nine : List ℕ
nine =
    single 1 ++ single 1 ++ single 1 ++ single 1 ++ single 1 ++ single 1 ++ single 1 ++ single 1 ++ single 1

-- (2,1) and then (2,3), whose unit is longer than its separation
abbrev long : List ℕ
long = 0 ∷ 2 ∷ 0 ∷ 1 ∷ 0 ∷ 2 ∷ 0 ∷ 3 ∷ []

-- ---- what is computed from the definitions

abbrev three_slices : List Call
three_slices = advance ∷ advance ∷ advance ∷ []

abbrev p : Plan
p = (built_of 2 opening).plan

record Figures : Type 0 where
  -- the opening kinds: three, F = 3, and six cells for two cards
  three_kinds : kinds_in opening ≡ 3
  separations : (separation_in opening 0 ≡ 3) × (separation_in opening 1 ≡ 6) × (separation_in opening 2 ≡ 6)
  frame_three : frame_for (kinds_in opening) (separation_in opening) ≡ 3
  cells_six : sum_to (kinds_in opening) (budget_for (kinds_in opening) (separation_in opening) (length_in opening)) ≡ 6
  opening_good : (built_of 2 opening).answer ≡ Good
  budget_two : budget_for (kinds_in opening) (separation_in opening) (length_in opening) 2 ≡ 2
  -- a unit of kind 0 runs at once, for the two of its three slices that its project has
  release_good : (release_of (after p []) 0 2).answer ≡ Good
  three_rows : length (slices_of (release_of (after p []) 0 2).state three_slices) ≡ 3
  deadline_three : (kind_of p 0).deadline ≡ 3
  twenty_four : size p ≡ 24
  -- the filling list: three kinds, F = 4, and the parts of 8
  filling_kinds : (C : ℕ) → kinds_in (filling C) ≡ 3
  filling_frame : (C : ℕ) → frame_for (kinds_in (filling C)) (separation_in (filling C)) ≡ 4
  filling_limits : (C : ℕ) → 0 < C → C ≤ 8 → InLimits 2 (kinds_in (filling C)) (separation_in (filling C)) (length_in (filling C))
  filling_multiple : (C i : ℕ) → i < kinds_in (filling C) → separation_in (filling C) i ∣ 8
  whole_four : (i : ℕ) → i < kinds_in (filling 4) → separation_in (filling 4) i ∣ 4 * length_in (filling 4) i
  whole_six : (i : ℕ) → i < kinds_in (filling 6) → separation_in (filling 6) i ∣ 4 * length_in (filling 6) i
  parts_four : sum_to (kinds_in (filling 4)) (λ i. length_in (filling 4) i * (8 / separation_in (filling 4) i)) ≡ 16
  parts_six : sum_to (kinds_in (filling 6)) (λ i. length_in (filling 6) i * (8 / separation_in (filling 6) i)) ≡ 18
  -- the refused ones
  cut_none : kinds_in cut ≡ 0
  nine_kinds : kinds_in nine ≡ 9
  two_long : kinds_in long ≡ 2
  long_first : Timed (separation_in long 0) (length_in long 0)
  long_second : (separation_in long 1 ≡ 2) × (length_in long 1 ≡ 3)
  single_limits : (T : ℕ) → 0 < T → T ≤ 255 → InLimits 1 (kinds_in (single T)) (separation_in (single T)) (length_in (single T))
  single_frame : frame_for (kinds_in (single 65)) (separation_in (single 65)) ≡ 65
  single_good : (built_of 1 (single 64)).answer ≡ Good
  uneven_limits : InLimits 1 (kinds_in uneven) (separation_in uneven) (length_in uneven)
  uneven_frame : frame_for (kinds_in uneven) (separation_in uneven) ≡ 1
  uneven_cells : sum_to (kinds_in uneven) (budget_for (kinds_in uneven) (separation_in uneven) (length_in uneven)) ≡ 2
  uneven_seven : number (built_of 1 uneven).answer ≡ 7
  bare_seven : among placed 7 ≡ false

figures : Figures
unfolding sum_to least_to first_to count_to all_to written rank_in first_in sooner each_to within sized empty_project empty_kind
    tidy_projects tidy_kinds in_range timed budgets sizes unused projects_in_range kind_in_range kinds_in_range budgets_fit ranges checked
    cell_at held_from first_cell owns slot_of held window supply workload_part fits_at least_width greatest_to allowed_length least_excess
    besides part_of workload width_of excess_of fitted admitted untouched due_in_time underway unit_in_form empty_unit early startable
    left_for project_left sums_right sum_fits sums_in_form in_form sums_told ready until_due gone_after left_after working active
    active_kinds outranks has_card cards_held rank_of chosen takes_card byte_on view_of rank served holds byte_by row_byte row_of row_over
    start_answer start_of release_answer released release_of unit_after served_for sum_after advanced advance_of run_from accepted_in
    slices_of size among kinds_in field_at repeated divisor divisor_to rounded_up offered counts frame_fits timed_alone kinds_timed
    answer_for built_of
figures = record {
  three_kinds = refl;
  separations = (refl, refl, refl);
  frame_three = refl;
  cells_six = refl;
  opening_good = refl;
  budget_two = refl;
  release_good = refl;
  three_rows = refl;
  deadline_three = refl;
  twenty_four = refl;
  filling_kinds = λ C. refl;
  filling_frame = λ C. refl;
  filling_limits = in_limits;
  filling_multiple = multiple;
  whole_four = four;
  whole_six = six;
  parts_four = refl;
  parts_six = refl;
  cut_none = refl;
  nine_kinds = refl;
  two_long = refl;
  long_first = record { some_length = omega arith; length_most = omega arith; separation_most = omega arith };
  long_second = (refl, refl);
  single_limits = one;
  single_frame = refl;
  single_good = refl;
  uneven_limits = two;
  uneven_frame = refl;
  uneven_cells = refl;
  uneven_seven = refl;
  bare_seven = refl;
}
  where
    in_limits : (C : ℕ) → 0 < C → C ≤ 8 → InLimits 2 3 (separation_in (filling C)) (length_in (filling C))
    in_limits C some most =
        record { some_card = omega arith; cards_most = omega arith; some_kind = omega arith; kinds_most = omega arith; kind_at_law = at }
      where
        at : (i : ℕ) → i < 3 → Timed (separation_in (filling C) i) (length_in (filling C) i)
        at zero l = record { some_length = omega arith; length_most = omega arith; separation_most = omega arith }
        at (suc zero) l = record { some_length = omega arith; length_most = omega arith; separation_most = omega arith }
        at (suc (suc zero)) l =
            record { some_length = omega (arith, some); length_most = omega (arith, most); separation_most = omega arith }
        at (suc (suc (suc i))) l = absurd (omega arith)

    multiple : (C i : ℕ) → i < 3 → separation_in (filling C) i ∣ 8
    multiple C zero l = dvd_of_mod-eq-zero 4 refl
    multiple C (suc zero) l = dvd_of_mod-eq-zero 4 refl
    multiple C (suc (suc zero)) l = dvd_refl 8
    multiple C (suc (suc (suc i))) l = absurd (omega arith)

    four : (i : ℕ) → i < 3 → separation_in (filling 4) i ∣ 4 * length_in (filling 4) i
    four zero l = dvd_of_mod-eq-zero 4 refl
    four (suc zero) l = dvd_of_mod-eq-zero 4 refl
    four (suc (suc zero)) l = dvd_of_mod-eq-zero 8 refl
    four (suc (suc (suc i))) l = absurd (omega arith)

    six : (i : ℕ) → i < 3 → separation_in (filling 6) i ∣ 4 * length_in (filling 6) i
    six zero l = dvd_of_mod-eq-zero 4 refl
    six (suc zero) l = dvd_of_mod-eq-zero 4 refl
    six (suc (suc zero)) l = dvd_of_mod-eq-zero 8 refl
    six (suc (suc (suc i))) l = absurd (omega arith)

    one : (T : ℕ) → 0 < T → T ≤ 255 → InLimits 1 1 (separation_in (single T)) (length_in (single T))
    one T some most =
        record { some_card = omega arith; cards_most = omega arith; some_kind = omega arith; kinds_most = omega arith; kind_at_law = at }
      where
        at : (i : ℕ) → i < 1 → Timed (separation_in (single T) i) (length_in (single T) i)
        at zero l = record { some_length = omega arith; length_most = omega (arith, some); separation_most = omega (arith, most) }
        at (suc i) l = absurd (omega arith)

    two : InLimits 1 2 (separation_in uneven) (length_in uneven)
    two =
        record { some_card = omega arith; cards_most = omega arith; some_kind = omega arith; kinds_most = omega arith; kind_at_law = at }
      where
        at : (i : ℕ) → i < 2 → Timed (separation_in uneven i) (length_in uneven i)
        at zero l = record { some_length = omega arith; length_most = omega arith; separation_most = omega arith }
        at (suc zero) l = record { some_length = omega arith; length_most = omega arith; separation_most = omega arith }
        at (suc (suc i)) l = absurd (omega arith)

-- ---- the divisor and the rounding

-- F divides the opening's 3, and 3 divides all of 3, 6, 6
pub is_three : frame_for 3 (separation_in opening) ≡ 3
is_three =
    dvd_antisymm (rw figures.separations.0 at (frame_divides 3 (separation_in opening) 0 (omega arith)))
    (frame_greatest 3 (separation_in opening) 3 at)
  where
    at : (i : ℕ) → i < 3 → 3 ∣ separation_in opening i
    at zero l = rw figures.separations.0 (dvd_refl 3)
    at (suc zero) l = rw figures.separations.1 (dvd_of_mod-eq-zero 3 refl)
    at (suc (suc zero)) l = rw figures.separations.2 (dvd_of_mod-eq-zero 3 refl)
    at (suc (suc (suc i))) l = absurd (omega arith)

-- 9 of 6 are rounded up to 2
pub nine_of_six : rounded_up 3 6 3 ≡ 2
nine_of_six = let t = rounded_up_law 3 6 3 (omega arith) in omega (arith, t.0, t.1 2 (omega arith))

-- ---- when a plan is built

-- the opening kinds: six cells, and two cards have six
pub six_cells : Buildable 2 (kinds_in opening) (separation_in opening) (length_in opening)
six_cells = (built_when 2 opening).0 figures.opening_good

pub both_filled : (built_of 2 opening).answer ≡ Good
both_filled =
    (built_when 2 opening).1 (record {
      limits = six_cells.limits;
      frame_most = omega (arith, figures.frame_three);
      cells = omega (arith, figures.cells_six, figures.frame_three);
    })

-- 3/4, 3/4 and 4/8 are 16 of 8 parts, which is exactly two cards
pub exactly_two : (built_of 2 (filling 4)).answer ≡ Good
exactly_two =
    (built_exactly 2 (filling 4) 8 (figures.filling_limits 4 (omega arith) (omega arith)) (omega (arith, figures.filling_frame 4))
    (omega arith) (figures.filling_multiple 4) (rw (figures.filling_frame 4) figures.whole_four)
    ).1 (omega (arith, figures.parts_four))

-- 3/4, 3/4 and 6/8 are 18 of them
pub more_than_two : (built_of 2 (filling 6)).answer ≢ Good
more_than_two e =
    omega (
      arith,
      (built_exactly 2 (filling 6) 8 (figures.filling_limits 6 (omega arith) (omega arith)) (omega (arith, figures.filling_frame 6))
          (omega arith) (figures.filling_multiple 6) (rw (figures.filling_frame 6) figures.whole_six)).0 e,
      figures.parts_six,
    )

-- ---- when it is refused

pub nine_cards : number (built_of 9 opening).answer ≡ 17
nine_cards = (out_of_range_when 9 opening).1 (λ o. omega (arith, o.cards_most))

pub no_list : number (built_of 1 cut).answer ≡ 17
no_list = (out_of_range_when 1 cut).1 (λ o. omega (arith, o.some_kind, figures.cut_none))

pub two_cards : number (built_of 2 opening).answer ≢ 17
two_cards e =
    (out_of_range_when 2 opening).0 e
    (record { some_card = omega arith; cards_most = omega arith; some_kind = omega (arith, figures.three_kinds) })

pub ninth : number (built_of 8 nine).answer ≡ 18
ninth =
    (too_many_when 8 nine).1 (
      record { some_card = omega arith; cards_most = omega arith; some_kind = omega (arith, figures.nine_kinds) },
      omega (arith, figures.nine_kinds),
    )

pub third_there : number (built_of 2 opening).answer ≢ 18
third_there e = omega (arith, ((too_many_when 2 opening).0 e).1, figures.three_kinds)

pub second_long : (number (built_of 1 long).answer ≡ 6) × (place (built_of 1 long).answer ≡ 1)
second_long =
    (untimed_when 1 long 1).1 (
      record { some_card = omega arith; cards_most = omega arith; some_kind = omega (arith, figures.two_long) },
      omega (arith, figures.two_long),
      omega (arith, figures.two_long),
      record { first = first; not_timed = λ t. omega (arith, t.length_most, figures.long_second.0, figures.long_second.1) },
    )
  where
    first : (j : ℕ) → j < 1 → Timed (separation_in long j) (length_in long j)
    first zero l = figures.long_first
    first (suc j) l = absurd (omega arith)

pub not_the_first : place (built_of 1 long).answer ≢ 0
not_the_first z = ((untimed_when 1 long 0).0 (second_long.0, z)).3.not_timed figures.long_first

-- 65 exceeds 64, and 64 does not
pub sixty_five : number (built_of 1 (single 65)).answer ≡ 19
sixty_five =
    (divisor_exceeds_when 1 (single 65)).1 (figures.single_limits 65 (omega arith) (omega arith), omega (arith, figures.single_frame))

pub sixty_four : number (built_of 1 (single 64)).answer ≢ 19
sixty_four e =
    let z : number (built_of 1 (single 64)).answer ≡ 0 = ap number figures.single_good in
    omega arith

-- two cells of one card's one
pub one_too_many : number (built_of 1 uneven).answer ≡ 7
one_too_many =
    (sum_exceeds_when 1 uneven).1
    (figures.uneven_limits, omega (arith, figures.uneven_frame), omega (arith, figures.uneven_frame, figures.uneven_cells))

pub not_with_one : 1 < sum_to (kinds_in uneven) (budget_for (kinds_in uneven) (separation_in uneven) (length_in uneven))
not_with_one = omega (arith, ((sum_exceeds_when 1 uneven).0 figures.uneven_seven).2, figures.uneven_frame)

-- ---- what is built

good : (built_of 2 opening).answer ≡ Good
good = figures.opening_good

pub frame_of_three : p.frame ≡ 3
frame_of_three = ap (λ (q : Plan). q.frame) (plan_built 2 opening good) ∙ figures.frame_three

pub ceiling_of_one : (project_of p 2).ceiling ≡ 1
ceiling_of_one = ap (λ (v : Project). v.ceiling) (project_built 2 opening good 2 (omega (arith, figures.three_kinds)))

pub deadline_of_six : (kind_of p 2).deadline ≡ 6
deadline_of_six =
    ap (λ (v : Kind). v.deadline) (kind_built 2 opening good 2 (omega (arith, figures.three_kinds))) ∙ figures.separations.2

-- ---- it may be run

pub opening_admitted : (judged p).answer ≡ Good
opening_admitted = always_admitted 2 opening good

pub opening_starts : (start_of p).answer ≡ Good
opening_starts = always_starts 2 opening good

pub two_of_three :
    bytes_naming (names_kind 0) (take (kind_of p 0).deadline (slices_of (release_of (after p []) 0 2).state three_slices)) ≡ 2
two_of_three =
    always_in_time 2 opening good [] three_slices 0 2 figures.release_good
    (omega (arith, figures.three_rows, figures.deadline_three))

pub fits_twenty_four : (out : List ℕ) → length out ≡ 24 → write_answer p out ≡ Good
fits_twenty_four out e = always_written 2 opening good out (omega (arith, figures.twenty_four))

pub takes_twenty_four : (read_of (encoded p ++ (7 ∷ []))).taken ≡ 24
takes_twenty_four = ap (λ (r : Reading). r.taken) (always_read 2 opening good (7 ∷ [])) ∙ figures.twenty_four

-- kind 2 needs its 2
pub needs_two : (smallest_of p 2).budget ≡ 2
needs_two =
    ap (λ (r : Smallest). r.budget) (always_smallest 2 opening good 2 (omega (arith, figures.three_kinds)))
    ∙ ap (λ (v : Project). v.budget) (project_built 2 opening good 2 (omega (arith, figures.three_kinds)))
    ∙ figures.budget_two

-- ---- one outcome, and its numbers

pub builds_three : (building 2 opening).outcome.plan.frame ≡ 3
builds_three = ap (λ (r : Built). r.plan.frame) (building 2 opening).meets ∙ frame_of_three

pub builds_none : (built_of 1 uneven).plan ≡ no_plan
builds_none = building_refused 1 uneven (λ z. omega (arith, figures.uneven_seven))

pub seven_place : place (built_of 1 uneven).answer ≡ 0
seven_place = (build_numbers 1 uneven).its_place (ap (among placed) figures.uneven_seven ∙ figures.bare_seven)
