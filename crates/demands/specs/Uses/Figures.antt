-- What the uses compute from the definitions: the calls of the player's example and what comes of them.
-- Assumes nothing.
use Rattle.std.specs.Prelude.{◌≡◌, refl, true, false, List, [], ◌∷◌, ◌++◌, ℕ, zero, suc, ◌+◌, ◌≤◌, ◌<◌, length, get_or, replicate}
use Rattle.std.proofs.Common.{arith}
use Rattle.laws.specs.Sum.{sum_to}
use Rattle.laws.specs.Least.{least_to}
use Rattle.laws.specs.First.{first_to}
use Rattle.laws.specs.Count.{count_to}
use Rattle.laws.specs.All.{all_to}
use Rattle.laws.specs.Written.{written}
use Rattle.laws.specs.Ranking.{rank_in, first_in, sooner}
use Rattle.answer.specs.declared.Answer.TheVariants.{Good}
use Rattle.answer.specs.Answer.{number, place, excess, each_to}
use Rattle.answer.specs.Numbers.{among, placed}
use Rattle.plan.specs.declared.Plan.{Plan}
use Rattle.plan.specs.Example.{kind, like_a, plan_a, plan_b, bytes_a}
use Rattle.plan.specs.Order.{within, sized, empty_project, empty_kind, tidy_projects, tidy_kinds, in_range, timed, budgets}
use Rattle.plan.specs.Order.{sizes, unused, projects_in_range, kind_in_range, kinds_in_range, budgets_fit, ranges, checked}
use Rattle.codec.specs.Pack.{pack, unpack}
use Rattle.codec.specs.Bytes.{number_to, bytes_of}
use Rattle.codec.specs.Places.{parts_to}
use Rattle.plan_bytes.specs.Parts.{size, header_bytes, project_bytes, kind_bytes, encoded, header_fields, project_fields}
use Rattle.plan_bytes.specs.Parts.{kind_fields, project_from, kind_from, projects_from, kinds_from, headed, decoded}
use Rattle.plan_bytes.specs.Reading.{header_spare, project_spare, kind_spare, projects_spare, kinds_spare, places_spare}
use Rattle.plan_bytes.specs.Reading.{spare_zero, body_answer, read_answer, read_of}
use Rattle.plan_bytes.specs.Writing.{write_answer, Writes}
use Rattle.layout.specs.Cards.{held_from}
use Rattle.layout.specs.Layout.{cell_at, first_cell, owns, slot_of, held}
use Rattle.layout.specs.Table.{table_length, table_over, table_answer, Tabled}
use Rattle.supply.specs.Supply.{window, supply}
use Rattle.supply.specs.Workload.{workload_part}
use Rattle.supply.specs.Greatest.{greatest_to}
use Rattle.supply.specs.Fit.{fits_at, least_width, allowed_length, least_excess}
use Rattle.workload.specs.Workload.{besides, part_of, workload}
use Rattle.verdict.specs.Verdict.{width_of, excess_of, fitted, admitted, judged}
use Rattle.verdict.specs.Admission.{asked, given}
use Rattle.unit.specs.declared.Unit.{Unit}
use Rattle.unit.specs.Unit.{no_unit}
use Rattle.unit.specs.Form.{untouched, due_in_time, underway, unit_in_form, empty_unit}
use Rattle.unit.specs.Step.{until_due, gone_after, left_after}
use Rattle.unit.specs.Start.{early, startable}
use Rattle.rack.specs.declared.State.{State}
use Rattle.rack.specs.State.{fresh_of, unit_of}
use Rattle.rack.specs.Sums.{left_for, project_left, sums_right}
use Rattle.rack.specs.Form.{sum_fits, sums_in_form, in_form, sums_told, ready}
use Rattle.rack.specs.View.{has_card, cards_held, rank_of, chosen, takes_card, byte_on}
use Rattle.rack.specs.Rank.{working, active, active_kinds, outranks, view_of, rank, served}
use Rattle.rack.specs.Row.{holds, takes, byte_by, row_byte, row_of, row_over}
use Rattle.rack.specs.Start.{start_answer, start_of}
use Rattle.rack.specs.Release.{release_answer, released, release_of}
use Rattle.rack.specs.Advance.{unit_after, advanced, advance_answer, advance_of, served_for, sum_after}
use Rattle.rack.specs.Show.{room_for, show_answer, buffer_shown, Shows}
use Rattle.demands.specs.Run.{Call, show, advance, release, run_from, after, Accepted, accepted_in, slices_of, no_slice}
use Rattle.demands.specs.Run.{unshown, handed_back}
use Rattle.demands.specs.Since.{never, ago, since_call, since_from}
use Rattle.demands.specs.Named.{names_kind, bytes_in}
use Rattle.demands.specs.Sufficient.{enough_cards}
use Rattle.demands.specs.Shown.{shown_by, shown, up_to, last_from, restarted, kinds_left}

-- ---- the player's example: "Plan A, then releases (0,6) (1,2) (2,2), four slices, releases (1,2) (2,1)"

-- a showing in a lent row, and an advance
abbrev pub look : Call
look = show (0 ∷ 0 ∷ [])

abbrev pub tick : Call
tick = advance

abbrev pub releases : List Call
releases = release 0 6 ∷ release 1 2 ∷ release 2 2 ∷ []

-- with one slice fewer than kind 1's separation, and with as many: one slice is shown, one is not, one is shown twice, and one in a
-- row that is too short
abbrev pub three_slices : List Call
three_slices = release 0 6 ∷ release 1 2 ∷ release 2 2 ∷ look ∷ tick ∷ tick ∷ look ∷ look ∷ tick ∷ []

abbrev pub four_slices : List Call
four_slices = release 0 6 ∷ release 1 2 ∷ release 2 2 ∷ look ∷ tick ∷ tick ∷ look ∷ look ∷ tick ∷ show [] ∷ tick ∷ []

-- two releases more, with a showing between them
abbrev pub example : List Call
example =
    release 0 6 ∷ release 1 2 ∷ release 2 2 ∷ look ∷ tick ∷ tick ∷ look ∷ look ∷ tick ∷ show [] ∷ tick ∷
    release 1 2 ∷ look ∷ release 2 1 ∷ []

-- the rows of the whole example: a full frame
abbrev pub rows : List Accepted
rows = slices_of (start_of plan_a).state example

-- kind 1's first unit: what comes before its release, and after it, with exactly as many slices as its deadline
abbrev pub earlier : List Call
earlier = release 0 6 ∷ []

abbrev pub later : List Call
later = look ∷ release 2 2 ∷ look ∷ tick ∷ tick ∷ tick ∷ tick ∷ []

-- the state that its release leaves, and the rows from there
abbrev pub begun : State
begun = (release_of (after plan_a earlier) 1 2).state

abbrev pub four_rows : List Accepted
four_rows = slices_of begun later

-- plan A with nothing released, at a slice that its frame of four does not have
abbrev pub past : State
past = record { plan = plan_a; slice = 4; unit = replicate 16 no_unit; sum = replicate 8 0 }

-- on the refused plan that runs well: a release beside another, and one slice
abbrev pub one_slice : List Accepted
one_slice = slices_of (release_of (run_from (fresh_of enough_cards) (release 0 1 ∷ [])) 1 1).state (tick ∷ [])

-- ---- demand 3

pub record Running : Type 0 where
  -- plan A is admitted, and the release accepted
  pub admitted_a : (start_of plan_a).answer ≡ Good
  pub kind_one : (release_of (after plan_a earlier) 1 2).answer ≡ Good
  -- four rows after it, in which the kind is not released again
  pub four_rows_law : length four_rows ≡ 4
  pub not_again : restarted 1 (shown begun later) ≡ false
  -- four rows in the example, of which the first names kind 0 on card 0
  pub rows_long : length rows ≡ 4
  pub names_none : names_kind 0 (get_or (get_or rows 0 no_slice).row 0 0) ≡ true
  -- the first advance: it is accepted, kinds 0 and 1 take cards 0 and 1, and each has one slice less left
  pub accepted : (advance_of (after plan_a releases)).answer ≡ Good
  pub takes_none : takes (after plan_a releases) 0 0 ≡ true
  pub takes_one : takes (after plan_a releases) 1 1 ≡ true
  pub two_left : (unit_of (after plan_a releases) 1).left ≡ 2
  pub less_none : (unit_of (advance_of (after plan_a releases)).state 0).left < (unit_of (after plan_a releases) 0).left
  pub less_one : (unit_of (advance_of (after plan_a releases)).state 1).left < (unit_of (after plan_a releases) 1).left
  -- kind 2 is released, and its two slices are named in the third and the fourth row
  pub one_left : (unit_of (after plan_a three_slices) 2).left ≡ 1
  -- project 0 has as many kinds with slices left as it holds cards, at each of the four slices
  pub busy : (y : ℕ) → y < 4 → let s = (get_or rows (0 + y) no_slice).before in held plan_a 0 s.slice ≤ active_kinds s 0
  pub busy_shown : (y : ℕ) → y < 4 → held plan_a 0 (0 + y) ≤ kinds_left plan_a 0 (up_to (0 + y) (shown (start_of plan_a).state example))
  pub one_active : active_kinds (get_or rows 0 no_slice).before 0 ≡ 1
  -- the slices since kind 1's release
  pub since_three : since_from 1 (start_of plan_a).state never three_slices ≡ ago 3
  pub since_four : since_from 1 (start_of plan_a).state never four_slices ≡ ago 4
  pub fits : within 2 2 ≡ true
  -- a release at exactly its separation, one that is told 14, showings with a byte too many and one too few, and a slice past the frame
  pub release_good : (release_of (after plan_a four_slices) 1 2).answer ≡ Good
  pub release_early : number (release_of (after plan_a four_slices) 2 1).answer ≡ 14
  pub shows : Shows (after plan_a releases) (7 ∷ 7 ∷ 7 ∷ []) Good (1 ∷ 2 ∷ 7 ∷ [])
  pub first_cards : (after plan_a releases).plan.cards ≡ 2
  pub advance_slice : (advance_of (after plan_a releases)).state.slice ≡ 1
  pub advance_past : number (advance_of past).answer ≡ 10
  pub release_told : number (release_answer (after plan_a four_slices) 2 1) ≡ 14
  pub show_told : number (show_answer (after plan_a releases) 1) ≡ 9
  pub advance_told : number (advance_answer past) ≡ 10
  -- what was shown before kind 1's release, and after it
  pub shown_first : Shows (after plan_a earlier) (7 ∷ 7 ∷ []) Good (1 ∷ 0 ∷ [])
  pub shown_then : Shows begun (7 ∷ 7 ∷ []) Good (1 ∷ 2 ∷ [])
  pub cards_first : (after plan_a earlier).plan.cards ≡ 2
  pub cards_then : begun.plan.cards ≡ 2
  -- without its showings, the calls of the example are nine, of which the last is refused
  pub unshown_nine : length (handed_back (start_of plan_a).state (unshown example)) ≡ 9
  -- on the refused plan
  pub enough_good : (release_of (run_from (fresh_of enough_cards) (release 0 1 ∷ [])) 1 1).answer ≡ Good
  pub enough_rows : length one_slice ≡ 1

pub running : Running
unfolding sum_to least_to first_to count_to all_to written rank_in first_in sooner each_to within sized empty_project empty_kind
    tidy_projects tidy_kinds in_range timed budgets sizes unused projects_in_range kind_in_range kinds_in_range budgets_fit ranges checked
    cell_at held_from first_cell owns slot_of held window supply workload_part fits_at least_width greatest_to allowed_length least_excess
    besides part_of workload width_of excess_of fitted admitted untouched due_in_time underway unit_in_form empty_unit early startable
    left_for project_left sums_right sum_fits sums_in_form in_form sums_told ready until_due gone_after left_after working active
    active_kinds outranks has_card cards_held rank_of chosen takes_card byte_on view_of rank served holds byte_by row_byte row_of row_over
    start_answer start_of release_answer released release_of unit_after served_for sum_after advanced advance_of room_for show_answer
    buffer_shown run_from accepted_in slices_of unshown handed_back since_call since_from names_kind bytes_in shown_by shown up_to last_from
    restarted kinds_left
running = record {
  admitted_a = refl;
  kind_one = refl;
  four_rows_law = refl;
  not_again = refl;
  rows_long = refl;
  names_none = refl;
  accepted = refl;
  takes_none = refl;
  takes_one = refl;
  two_left = refl;
  less_none = omega arith;
  less_one = omega arith;
  one_left = refl;
  busy = busy_at;
  busy_shown = shown_at;
  one_active = refl;
  since_three = refl;
  since_four = refl;
  fits = refl;
  release_good = refl;
  release_early = refl;
  shows = record { result = refl; buffer = refl };
  first_cards = refl;
  advance_slice = refl;
  advance_past = refl;
  release_told = refl;
  show_told = refl;
  advance_told = refl;
  shown_first = record { result = refl; buffer = refl };
  shown_then = record { result = refl; buffer = refl };
  cards_first = refl;
  cards_then = refl;
  unshown_nine = refl;
  enough_good = refl;
  enough_rows = refl;
}
  where
    busy_at : (y : ℕ) → y < 4 → let s = (get_or rows (0 + y) no_slice).before in held plan_a 0 s.slice ≤ active_kinds s 0
    busy_at zero l = omega arith
    busy_at (suc zero) l = omega arith
    busy_at (suc (suc zero)) l = omega arith
    busy_at (suc (suc (suc zero))) l = omega arith
    busy_at (suc (suc (suc (suc y)))) l = absurd (omega arith)

    shown_at : (y : ℕ) → y < 4 → held plan_a 0 (0 + y) ≤ kinds_left plan_a 0 (up_to (0 + y) (shown (start_of plan_a).state example))
    shown_at zero l = omega arith
    shown_at (suc zero) l = omega arith
    shown_at (suc (suc zero)) l = omega arith
    shown_at (suc (suc (suc zero))) l = omega arith
    shown_at (suc (suc (suc (suc y)))) l = absurd (omega arith)

-- ---- demand 2

-- "With C = 7 for kind 0"
abbrev pub longer : Plan
longer = like_a 3 5 (kind 0 8 8 7)

-- a unit of two slices, just released
abbrev just_released : Unit
just_released = record { released = true; gone = 0; left = 2 }

-- the sums of two such units of project 1
abbrev two_open : List ℕ
two_open = 0 ∷ 4 ∷ replicate 6 0

-- the slice at which project 1 holds both cards, with kinds 1 and 2 just released; and the frame's first, at which it holds one
abbrev pub both : State
both = record { plan = plan_a; slice = 3; unit = no_unit ∷ just_released ∷ just_released ∷ replicate 13 no_unit; sum = two_open }

abbrev pub waiting : State
waiting = record { plan = plan_a; slice = 0; unit = no_unit ∷ just_released ∷ just_released ∷ replicate 13 no_unit; sum = two_open }

pub record Judged : Type 0 where
  -- the verdicts
  pub good_a : (judged plan_a).answer ≡ Good
  pub good_b : (judged plan_b).answer ≡ Good
  pub width_b : get_or (judged plan_b).width 0 0 ≡ 2
  pub eight : let a = (judged longer).answer in (number a ≡ 8) × (place a ≡ 0) × (excess a ≡ 1)
  -- what they compare
  pub order_a : checked plan_a ≡ Good
  pub order_longer : checked longer ≡ Good
  pub room-A : (i : ℕ) → i < 3 → asked plan_a i 1 ≤ given plan_a i 1
  pub asked_longer : asked longer 0 1 ≡ 7
  pub given_longer : given longer 0 1 ≡ 6
  -- plan A's bytes, alone and with a byte behind them
  pub size_a : size plan_a ≡ 22
  pub read_a : read_of bytes_a ≡ record { answer = Good; plan = plan_a; taken = 22 }
  pub read_behind : read_of (bytes_a ++ 7 ∷ []) ≡ record { answer = Good; plan = plan_a; taken = 22 }

pub record Ranked : Type 0 where
  pub ready_both : ready both ≡ Good
  pub ready_waiting : ready waiting ≡ Good
  -- kind 1 on card 0 and kind 2 on card 1, or kind 1 on card 1 and kind 2 on none
  pub first_rank : rank both 1 ≡ count_to 0 (holds plan_a 1 3)
  pub second_rank : rank both 2 ≡ count_to 1 (holds plan_a 1 3)
  pub first_held : holds plan_a 1 3 0 ≡ true
  pub second_held : holds plan_a 1 3 1 ≡ true
  pub two_held : held plan_a 1 3 ≡ 2
  pub two_active : active_kinds both 1 ≡ 2
  pub works : working waiting 2 ≡ true
  pub no_card : (card : ℕ) → card < 2 → row_byte waiting card ≡ 3 → ⊥
  pub on_one : row_byte waiting 1 ≡ 2

pub verdicts : Judged
unfolding sum_to least_to first_to count_to all_to written each_to within sized empty_project empty_kind tidy_projects tidy_kinds in_range
    timed budgets sizes unused projects_in_range kind_in_range kinds_in_range budgets_fit ranges checked cell_at held_from first_cell owns
    slot_of held window supply workload_part fits_at least_width greatest_to allowed_length least_excess besides part_of workload width_of
    excess_of fitted admitted judged pack unpack number_to bytes_of size header_bytes project_bytes kind_bytes parts_to encoded
    header_fields project_fields kind_fields project_from kind_from projects_from kinds_from headed decoded header_spare project_spare
    kind_spare projects_spare kinds_spare places_spare spare_zero body_answer read_answer read_of
verdicts = record {
  good_a = refl;
  good_b = refl;
  width_b = refl;
  eight = (refl, refl, refl);
  order_a = refl;
  order_longer = refl;
  room-A = room;
  asked_longer = refl;
  given_longer = refl;
  size_a = refl;
  read_a = refl;
  read_behind = refl;
}
  where
    room : (i : ℕ) → i < 3 → asked plan_a i 1 ≤ given plan_a i 1
    room zero l = omega arith
    room (suc zero) l = omega arith
    room (suc (suc zero)) l = omega arith
    room (suc (suc (suc i))) l = absurd (omega arith)

pub ranks : Ranked
unfolding sum_to first_to count_to all_to rank_in first_in sooner each_to within sized empty_project empty_kind tidy_projects tidy_kinds
    in_range timed budgets sizes unused projects_in_range kind_in_range kinds_in_range budgets_fit ranges checked cell_at held_from
    first_cell owns slot_of held untouched due_in_time underway unit_in_form empty_unit left_for project_left sums_right sum_fits
    sums_in_form in_form sums_told ready until_due working active active_kinds outranks has_card cards_held rank_of chosen takes_card
    byte_on view_of rank holds byte_by row_byte
ranks = record {
  ready_both = refl;
  ready_waiting = refl;
  first_rank = refl;
  second_rank = refl;
  first_held = refl;
  second_held = refl;
  two_held = refl;
  two_active = refl;
  works = refl;
  no_card = none_at;
  on_one = refl;
}
  where
    none_at : (card : ℕ) → card < 2 → row_byte waiting card ≡ 3 → ⊥
    none_at zero l e = omega arith
    none_at (suc zero) l e = omega arith
    none_at (suc (suc card)) l e = omega arith

-- ---- demand 1

-- a buffer one byte longer than plan A needs, and one a byte shorter; the same for its slot table and its row
pub record Answered : Type 0 where
  pub read_short : number (read_of (0x22 ∷ 0x18 ∷ [])).answer ≡ 1
  pub writes : Writes plan_a (replicate 23 7) (record { answer = Good; count = 22 }) (bytes_a ++ 7 ∷ [])
  pub write_short : number (write_answer plan_a (replicate 21 7)) ≡ 9
  pub tables : Tabled plan_a (replicate 9 7) (record { answer = Good; count = 8 }) (1 ∷ 1 ∷ 1 ∷ 2 ∷ 2 ∷ 2 ∷ 2 ∷ 2 ∷ 7 ∷ [])
  pub table_short : number (table_answer plan_a 7) ≡ 9
  pub widths_a : (judged plan_a).width ≡ 1 ∷ 1 ∷ 1 ∷ replicate 13 0
  pub starts : start_of plan_a ≡ record { answer = Good; state = fresh_of plan_a }
  pub start_eight : number (start_of longer).answer ≡ 8
  pub start_told : number (start_answer longer) ≡ 8
  -- 9 comes with no place
  pub nine_bare : among placed 9 ≡ false

pub answers : Answered
unfolding sum_to least_to first_to count_to all_to written each_to within sized empty_project empty_kind tidy_projects tidy_kinds in_range
    timed budgets sizes unused projects_in_range kind_in_range kinds_in_range budgets_fit ranges checked cell_at held_from first_cell owns
    slot_of held window supply workload_part fits_at least_width greatest_to allowed_length least_excess besides part_of workload width_of
    excess_of fitted admitted judged pack unpack number_to bytes_of size header_bytes project_bytes kind_bytes parts_to encoded
    header_fields project_fields kind_fields project_from kind_from projects_from kinds_from headed decoded header_spare project_spare
    kind_spare projects_spare kinds_spare places_spare spare_zero body_answer read_answer read_of write_answer table_length table_over
    table_answer start_answer start_of among
answers = record {
  read_short = refl;
  writes = record { result = refl; buffer = refl };
  write_short = refl;
  tables = record { result = refl; buffer = refl };
  table_short = refl;
  widths_a = refl;
  starts = refl;
  start_eight = refl;
  start_told = refl;
  nine_bare = refl;
}
