-- The demands in use: each theorem applied to plan A and the player's example at its tightest, so that what it says is a number.
-- What is computed from the definitions stands in `Uses.Figures`; here the definitions are shut, and each line is a theorem at work.
-- Assumes nothing.
use Rattle.std.specs.Prelude.{◌≡◌, refl, ◌≢◌, Bool, true, false, List, [], ◌∷◌, ◌++◌, ℕ, zero, suc, ◌+◌, ◌-◌, ◌≤◌, ◌<◌, length, get_or}
use Rattle.std.specs.Prelude.{take, drop, replicate}
use Rattle.std.proofs.Common.{sym, ap, ◌∙◌, true≢false, arith}
use Rattle.laws.specs.Count.{count_to}
use Rattle.answer.specs.declared.Answer.{Answer}
use Rattle.answer.specs.declared.Answer.TheVariants.{Good}
use Rattle.answer.specs.Answer.{number, place, excess, slice}
use Rattle.answer.specs.Numbers.{among, placed}
use Rattle.plan.specs.Example.{plan_a, plan_b, bytes_a}
use Rattle.plan.specs.Order.{checked}
use Rattle.plan.specs.Order.Properties.{in_order}
use Rattle.plan_bytes.specs.Parts.{encoded}
use Rattle.plan_bytes.specs.declared.Reading.{Reading}
use Rattle.plan_bytes.specs.Reading.{read_of}
use Rattle.answer.specs.declared.Written.{Written}
use Rattle.plan_bytes.specs.Writing.{write_answer, Writes}
use Rattle.layout.specs.Table.{table_answer, Tabled}
use Rattle.verdict.specs.declared.Verdict.{Verdict}
use Rattle.verdict.specs.Verdict.{ceiling_on, judged}
use Rattle.verdict.specs.Admission.{Fits, Allows, NotAdmitted}
use Rattle.rack.specs.declared.State.{State}
use Rattle.rack.specs.declared.Next.{Next}
use Rattle.rack.specs.State.{no_state, unit_of}
use Rattle.rack.specs.Form.{Ready, ready}
use Rattle.rack.specs.Form.Properties.{ready_says}
use Rattle.rack.specs.Rank.{outranks, rank}
use Rattle.rack.specs.Row.{holds, takes, row_byte, row_of}
use Rattle.rack.specs.Start.{start_answer, start_of}
use Rattle.rack.specs.Release.{release_answer, release_of}
use Rattle.rack.specs.Advance.{advance_answer, advance_of}
use Rattle.rack.specs.Show.{show_answer, buffer_shown, Shows}
use Rattle.rack.specs.Slice.{Sliced}
use Rattle.demands.specs.Run.{release, next_after, run_from, after, no_slice, unshown, handed_back}
use Rattle.demands.specs.Named.{names_kind, names_project, bytes_in, bytes_naming, Orderly, Apart}
use Rattle.demands.specs.Shown.{shown, up_to, none, last_from, left_of, restarted, kinds_left}
use Rattle.demands.specs.Outcomes.{reading, reading_refused, writing, writing_refused, tabling, tabling_refused}
use Rattle.answer.specs.Outcome.{Lent}
use Rattle.demands.specs.Numbers.{check_numbers, read_numbers, write_numbers, slot_table_numbers}
use Rattle.demands.specs.Numbers.{judge_numbers, start_numbers, ready_numbers, release_numbers, show_numbers, advance_numbers}
use Rattle.demands.specs.Outcomes.{judging, judging_refused, starting, starting_refused, releasing, releasing_refused}
use Rattle.demands.specs.Outcomes.{showing, showing_refused, advancing, advancing_refused}
use Rattle.demands.specs.Verdicts.{admitted_when, least_given, refused_when, written_then_read, read_then_written, only_encoding}
use Rattle.demands.specs.Verdicts.{stands_when, nothing_left, all_stand, on_its_own, earliest_first, ascending, none_idle}
use Rattle.demands.specs.Deadlines.{in_time, in_time_so_far, left_in_time, rows_orderly, rows_serve, one_kind_a_card, rows_name}
use Rattle.demands.specs.Deadlines.{served_apart, budget_at_most, budget_exactly, never_out_of_form, runs_for_ever, told_early}
use Rattle.demands.specs.Deadlines.{slice_tells, gone_tells, left_shown, unit_shown, in_time_shown, work_shown, budget_shown}
use Rattle.demands.specs.Showing.{row_shown, shown_twice, shown_alike, pair_is_slice, short_advances, shown_after_release}
use Rattle.demands.specs.Showing.{showings_move_nothing, slices_shown}
use Rattle.demands.specs.Sufficient.{runs_well}
use Rattle.demands.specs.Uses.Figures.{tick, releases, three_slices, four_slices, example, rows, earlier, later, begun, four_rows}
use Rattle.demands.specs.Uses.Bytes.{are_bytes}
use Rattle.demands.specs.Uses.Figures.{one_slice, past, running, longer, both, waiting, verdicts, ranks, answers}
pub mod Bytes
pub mod Figures
pub mod Worst
pub mod BadSlices
pub mod Advice
pub mod Smallest
pub mod Five
pub mod OneKind
pub mod RowOfSums
pub mod KindFigures
pub mod Rescue
pub mod NoClock

-- ---- demand 1: one outcome, and a refusal that changes nothing

-- reading plan A's bytes takes 22, and reading two takes none
pub read_takes : (reading bytes_a).outcome.taken ≡ 22
read_takes = ap (λ (r : Reading). r.taken) ((reading bytes_a).meets ∙ verdicts.read_a)

pub read_nothing : (read_of (0x22 ∷ 0x18 ∷ [])).taken ≡ 0
read_nothing = (reading_refused (0x22 ∷ 0x18 ∷ []) (λ z. omega (arith, answers.read_short))).1

-- writing plan A into 23 bytes writes 22 and keeps the last, and into 21 it keeps them all
pub writes_plan : (o : Lent Written) → Writes plan_a (replicate 23 7) o.result o.buffer →
    (o.result.count ≡ 22) × (o.buffer ≡ bytes_a ++ 7 ∷ [])
writes_plan o c = (ap (λ (x : Lent Written). x.result.count) same, ap (λ (x : Lent Written). x.buffer) same)
  where
    said : Lent Written
    said = record { result = record { answer = Good; count = 22 }; buffer = bytes_a ++ 7 ∷ [] }

    same : o ≡ said
    same = (writing plan_a (replicate 23 7)).only o c ∙ sym ((writing plan_a (replicate 23 7)).only said answers.writes)

pub writes_nothing : (r : Written) (after : List ℕ) → Writes plan_a (replicate 21 7) r after → after ≡ replicate 21 7
writes_nothing r after c = (writing_refused plan_a (replicate 21 7) after r c refused).1
  where
    refused : number r.answer ≢ 0
    refused z = omega (arith, ap (λ (x : Written). number x.answer) c.result, answers.write_short)

-- its slot table takes eight bytes of nine, and none of seven
pub writes_table : (o : Lent Written) → Tabled plan_a (replicate 9 7) o.result o.buffer →
    (o.result.count ≡ 8) × (o.buffer ≡ 1 ∷ 1 ∷ 1 ∷ 2 ∷ 2 ∷ 2 ∷ 2 ∷ 2 ∷ 7 ∷ [])
writes_table o c = (ap (λ (x : Lent Written). x.result.count) same, ap (λ (x : Lent Written). x.buffer) same)
  where
    said : Lent Written
    said = record { result = record { answer = Good; count = 8 }; buffer = 1 ∷ 1 ∷ 1 ∷ 2 ∷ 2 ∷ 2 ∷ 2 ∷ 2 ∷ 7 ∷ [] }

    same : o ≡ said
    same = (tabling plan_a (replicate 9 7)).only o c ∙ sym ((tabling plan_a (replicate 9 7)).only said answers.tables)

pub tables_nothing : (r : Written) (after : List ℕ) → Tabled plan_a (replicate 7 7) r after → after ≡ replicate 7 7
tables_nothing r after c = (tabling_refused plan_a (replicate 7 7) after r c refused).1
  where
    refused : number r.answer ≢ 0
    refused z = omega (arith, ap (λ (x : Written). number x.answer) c.result, answers.table_short)

-- the verdict and the fresh start
pub gives_ones : (judging plan_a).outcome.width ≡ 1 ∷ 1 ∷ 1 ∷ replicate 13 0
gives_ones = ap (λ (v : Verdict). v.width) (judging plan_a).meets ∙ answers.widths_a

pub gives_none : (judged longer).width ≡ replicate 16 0
gives_none = (judging_refused longer (λ z. omega (arith, verdicts.eight.0))).0

pub gives_no_slice : (judged longer).slice ≡ replicate 16 0
gives_no_slice = (judging_refused longer (λ z. omega (arith, verdicts.eight.0))).1

pub starts_at_none : (starting plan_a).outcome.state.slice ≡ 0
starts_at_none = ap (λ (n : Next). n.state.slice) ((starting plan_a).meets ∙ answers.starts)

pub starts_nothing : (start_of longer).state ≡ no_state
starts_nothing = starting_refused longer (λ z. omega (arith, answers.start_eight))

-- a release, and one that is told 14
pub releases_one : (releasing (after plan_a four_slices) 1 2).outcome.answer ≡ Good
releases_one = ap (λ (n : Next). n.answer) (releasing (after plan_a four_slices) 1 2).meets ∙ running.release_good

pub releases_nothing : (release_of (after plan_a four_slices) 2 1).state ≡ after plan_a four_slices
releases_nothing = releasing_refused (after plan_a four_slices) 2 1 (λ z. omega (arith, running.release_early))

-- a showing writes two bytes of three, and none of one
pub shows_two : (o : Lent Answer) → Shows (after plan_a releases) (7 ∷ 7 ∷ 7 ∷ []) o.result o.buffer → o.buffer ≡ 1 ∷ 2 ∷ 7 ∷ []
shows_two o c = ap (λ (x : Lent Answer). x.buffer) same
  where
    s : State
    s = after plan_a releases

    said : Lent Answer
    said = record { result = Good; buffer = 1 ∷ 2 ∷ 7 ∷ [] }

    same : o ≡ said
    same = (showing s (7 ∷ 7 ∷ 7 ∷ [])).only o c ∙ sym ((showing s (7 ∷ 7 ∷ 7 ∷ [])).only said running.shows)

pub shows_nothing : (a : Answer) (left : List ℕ) → Shows (after plan_a releases) (7 ∷ []) a left → left ≡ 7 ∷ []
shows_nothing a left c = showing_refused (after plan_a releases) (7 ∷ []) left a c refused
  where
    refused : number a ≢ 0
    refused z = omega (arith, ap number c.result, running.show_told)

-- an advance moves the slice, and one past the frame stays
pub advances_one : (advancing (after plan_a releases)).outcome.state.slice ≡ 1
advances_one = ap (λ (n : Next). n.state.slice) (advancing (after plan_a releases)).meets ∙ running.advance_slice

pub advances_nothing : (advance_of past).state ≡ past
advances_nothing = advancing_refused past (λ z. omega (arith, running.advance_past))

-- ---- demand 1: the numbers

-- plan A has nothing to refuse, and is told 0
pub in_order_none : number (checked plan_a) ≡ 0
in_order_none = (check_numbers plan_a).good.1 verdicts.order_a

pub admitted_none : number (judged plan_a).answer ≡ 0
admitted_none = (judge_numbers plan_a).good.1 verdicts.good_a

-- a refused start has a kind's place, and no other refusal here has one, an excess or a slice
pub kind_place : place (start_answer longer) < 16
kind_place = (start_numbers longer).place_most

pub frame_slice : slice (start_answer longer) < 64
frame_slice = (start_numbers longer).slice_most

pub not_good : start_answer longer ≢ Good
not_good g = omega (arith, (start_numbers longer).good.1 g, answers.start_told)

pub read_excess : excess (read_of (0x22 ∷ 0x18 ∷ [])).answer ≡ 0
read_excess = (read_numbers (0x22 ∷ 0x18 ∷ [])).its_excess (λ z. omega (arith, answers.read_short))

pub read_slice : slice (read_of (0x22 ∷ 0x18 ∷ [])).answer ≡ 0
read_slice = (read_numbers (0x22 ∷ 0x18 ∷ [])).its_slice (λ z. omega (arith, answers.read_short))

pub write_place : place (write_answer plan_a (replicate 21 7)) ≡ 0
write_place = (write_numbers plan_a (replicate 21 7)).its_place (ap (among placed) answers.write_short ∙ answers.nine_bare)

pub table_place : place (table_answer plan_a 7) ≡ 0
table_place = (slot_table_numbers plan_a 7).its_place (ap (among placed) answers.table_short ∙ answers.nine_bare)

pub release_excess : excess (release_answer (after plan_a four_slices) 2 1) ≡ 0
release_excess = (release_numbers (after plan_a four_slices) 2 1).its_excess (λ z. omega (arith, running.release_told))

pub show_place : place (show_answer (after plan_a releases) 1) ≡ 0
show_place = (show_numbers (after plan_a releases) 1).its_place (ap (among placed) running.show_told ∙ answers.nine_bare)

pub advance_excess : excess (advance_answer past) ≡ 0
advance_excess = (advance_numbers past).its_excess (λ z. omega (arith, running.advance_told))

pub ready_excess : (s : State) → number (ready s) ≢ 8 → excess (ready s) ≡ 0
ready_excess s = (ready_numbers s).its_excess

-- ---- demand 2: the verdict

-- plan A is admitted, since each kind fits at 1
pub admitted_at_one : (judged plan_a).answer ≡ Good
admitted_at_one = (admitted_when plan_a).1 (in_order plan_a verdicts.order_a, fits)
  where
    most : (i : ℕ) → i < 3 → 1 ≤ ceiling_on plan_a i
    most zero l = omega arith
    most (suc zero) l = omega arith
    most (suc (suc zero)) l = omega arith
    most (suc (suc (suc i))) l = absurd (omega arith)

    fits : (i : ℕ) → i < 3 → (k : ℕ) × Fits plan_a i k
    fits i l = (1, record { width = record { some = omega arith; most = most i l }; room = verdicts.room-A i l })

-- with one slice more for kind 0 it is not: with q 1 the only k is 1, and 7 are asked of 6
pub not_admitted : (judged longer).answer ≢ Good
not_admitted good =
    let t = ((admitted_when longer).0 good).1 0 (omega arith) in
    let one : t.0 ≡ 1 = omega (arith, t.1.width.some, t.1.width.most) in
    omega (arith, rw one at t.1.room, verdicts.asked_longer, verdicts.given_longer)

-- plan B's kind 0 fits at no k below 2
pub two_at_least : (k : ℕ) → Fits plan_b 0 k → 2 ≤ k
two_at_least k fits = omega (arith, (least_given plan_b verdicts.good_b 0 (omega arith)).1 k fits, verdicts.width_b)

-- 8, place 0, excess 1: no more than six of the seven slices are allowed
pub six_at_most : (c k : ℕ) → c ≤ 7 → Allows longer 0 c k → c ≤ 6
six_at_most c k l a = omega (arith, ((refused_when longer 0 1).0 verdicts.eight).1.excess.greatest c k l a)

-- and the other way round
pub told_by_eight : let a = (judged longer).answer in (number a ≡ 8) × (place a ≡ 0) × (excess a ≡ 1)
told_by_eight = (refused_when longer 0 1).1 (in_order longer verdicts.order_longer, first)
  where
    only_one : (k : ℕ) → 0 < k → k ≤ 1 → k ≡ 1
    only_one k a b = omega arith

    none : (k : ℕ) → Fits longer 0 k → ⊥
    none k f =
        let room = rw (only_one k f.width.some f.width.most) at f.room in
        omega (arith, room, verdicts.asked_longer, verdicts.given_longer)

    longest : (c k : ℕ) → c ≤ 7 → Allows longer 0 c k → c + 1 ≤ 7
    longest c k l a =
        let room = rw (only_one k a.width.some a.width.most) at a.room in
        omega (arith, room, verdicts.asked_longer, verdicts.given_longer)

    first : NotAdmitted longer 0 1
    first = record {
      its_kind = omega arith;
      first = λ j l. absurd (omega arith);
      no_width = none;
      excess = record {
        most = omega arith;
        allowed =
            λ l. (
              1,
              record {
                width = record { some = omega arith; most = omega arith };
                room = omega (arith, verdicts.asked_longer, verdicts.given_longer);
              },
            );
        greatest = longest;
      };
    }

-- ---- demand 2: plan bytes

-- a byte behind plan A's is not taken
pub twenty_two : (read_of (encoded plan_a ++ 7 ∷ [])).taken ≡ 22
twenty_two =
    let read = written_then_read plan_a (record { eight = refl; sixteen = refl }) verdicts.order_a (7 ∷ []) in
    ap (λ (r : Reading). r.taken) read ∙ verdicts.size_a

-- writing what plan A's bytes were read as gives them back
pub back_again : encoded plan_a ≡ take 22 bytes_a
back_again =
    rw verdicts.read_a at (read_then_written bytes_a (are_bytes bytes_a refl) (ap (λ (r : Reading). r.answer) verdicts.read_a))

-- and bytes that are read as the same plan are the same, but for what stands behind
pub same_bytes : take 22 (bytes_a ++ 7 ∷ []) ≡ take 22 bytes_a
same_bytes =
    let behind = ap (λ (r : Reading). r.answer) verdicts.read_behind in
    let alone = ap (λ (r : Reading). r.answer) verdicts.read_a in
    let plan = ap (λ (r : Reading). r.plan) (verdicts.read_behind ∙ sym verdicts.read_a) in
    rw (verdicts.read_behind, verdicts.read_a) at
    (only_encoding (bytes_a ++ 7 ∷ []) bytes_a (are_bytes (bytes_a ++ 7 ∷ []) refl) (are_bytes bytes_a refl) behind alone plan)

-- ---- demand 2: the row

ready_both : Ready both
ready_both = ready_says both ranks.ready_both

ready_waiting : Ready waiting
ready_waiting = ready_says waiting ranks.ready_waiting

-- project 1 holds both cards: kind 1, due first, stands on the lower and kind 2 on the other
pub lower_card : row_byte both 0 ≡ 2
lower_card = (stands_when both ready_both 0 1).1 (omega arith, omega arith, ranks.first_held, ranks.first_rank)

pub higher_card : row_byte both 1 ≡ 3
higher_card = (stands_when both ready_both 1 2).1 (omega arith, omega arith, ranks.second_held, ranks.second_rank)

pub its_place : rank both 2 ≡ count_to 1 (holds plan_a 1 3)
its_place = ((stands_when both ready_both 1 2).0 higher_card).3

pub its_card : holds plan_a 1 3 1 ≡ true
its_card = on_its_own both ready_both 1 2 higher_card

pub due_first : outranks both 1 2 ≡ true
due_first = ascending both ready_both 0 1 1 2 lower_card higher_card refl (omega arith)

pub both_used : 0 < row_byte both 1
both_used = none_idle both ready_both 1 1 (omega arith) ranks.second_held (omega (arith, ranks.two_held, ranks.two_active))

pub both_stand : (card : ℕ) × (card < 2) × (row_byte both card ≡ 3)
both_stand = all_stand both ready_both 2 (omega arith) (omega arith) (omega (arith, ranks.two_held, ranks.two_active))

-- kind 0 has nothing left, and stands nowhere
pub nowhere : row_byte both 0 ≢ 1
nowhere = nothing_left both ready_both 0 0 refl

-- where the project holds one card, the kind that waits is due later
pub waits_for_one : outranks waiting 1 2 ≡ true
waits_for_one = earliest_first waiting ready_waiting 1 1 2 ranks.on_one (omega arith) refl ranks.works ranks.no_card

-- ---- demand 3: in time

-- kind 1 has its two slices in exactly its four
pub two_in_four : bytes_naming (names_kind 1) (take 4 four_rows) ≡ 2
two_in_four = in_time plan_a running.admitted_a earlier later 1 2 running.kind_one (omega (arith, running.four_rows_law))

-- after them nothing is to come, and nothing is left
pub none_to_come : 2 - bytes_naming (names_kind 1) four_rows ≤ 0
none_to_come =
    let few : length four_rows ≤ 4 = omega (arith, running.four_rows_law) in
    rw running.four_rows_law at (in_time_so_far plan_a running.admitted_a earlier later 1 2 running.kind_one few)

pub none_left : (unit_of (run_from begun later) 1).left ≤ 0
none_left =
    rw running.four_rows_law at (left_in_time plan_a running.admitted_a earlier later 1 2 running.kind_one running.not_again)

-- and where there are as many cards as kinds, two units of one slice have it in the same slice, on a refused plan
pub one_in_one : bytes_naming (names_kind 1) (take 1 one_slice) ≡ 1
one_in_one = runs_well (release 0 1 ∷ []) (tick ∷ []) 1 1 running.enough_good (omega (arith, running.enough_rows))

-- ---- demand 3: the first row of the example

first_row : Orderly plan_a (get_or rows 0 no_slice).row
first_row = rows_orderly plan_a running.admitted_a example 0 (omega (arith, running.rows_long))

-- it has two bytes
pub two_bytes : length (get_or rows 0 no_slice).row ≡ 2
two_bytes = first_row.cards

-- its first names kind 0 and no other
pub none_other : (k : ℕ) → names_kind k (get_or (get_or rows 0 no_slice).row 0 0) ≡ true → 0 ≡ k
none_other k names = first_row.one_unit 0 0 k running.names_none names

-- kind 0 stands once at most, and so do the kinds of project 0, whose ceiling is 1
pub once : bytes_in (names_kind 0) (get_or rows 0 no_slice).row ≤ 1
once = first_row.one_card 0

pub ceiling_one : bytes_in (names_project plan_a 0) (get_or rows 0 no_slice).row ≤ 1
ceiling_one = first_row.ceiling 0 (omega arith)

-- it takes from kind 1's two what it says
pub taken_from_two :
    let s = after plan_a releases in
    (unit_of (advance_of s).state 1).left + bytes_in (names_kind 1) (row_of s) ≡ 2
taken_from_two = rows_serve plan_a running.admitted_a releases 1 running.accepted (omega arith) ∙ running.two_left

-- card 0 is taken by kind 0 alone, and card 1's byte names kind 1
pub card_none : (k : ℕ) → k < 3 → takes (after plan_a releases) k 0 ≡ true → 0 ≡ k
card_none k l takes-it = one_kind_a_card plan_a running.admitted_a releases 0 0 k (omega arith) l running.takes_none takes-it

pub card_one_taken : (i : ℕ) → names_kind i (get_or (row_of (after plan_a releases)) 1 0) ≡ true → i < 3
card_one_taken i names = ((rows_name plan_a running.admitted_a releases 1 i running.accepted (omega arith)).0 names).0

pub card_one : names_kind 1 (get_or (row_of (after plan_a releases)) 1 0) ≡ true
card_one = (rows_name plan_a running.admitted_a releases 1 1 running.accepted (omega arith)).1 (omega arith, running.takes_one)

-- kinds 0 and 1 are served, on two cards
pub two_cards : Apart 0 1 (row_of (after plan_a releases))
two_cards =
    served_apart plan_a running.admitted_a releases 0 1 running.accepted (omega arith) (omega arith) (omega arith)
    running.less_none running.less_one

-- ---- demand 3: project 0's budget of 3 in the example's frame

pub three_at_most : bytes_naming (names_project plan_a 0) (take 4 (drop 0 rows)) ≤ 3
three_at_most = budget_at_most plan_a running.admitted_a example 0 0 (omega arith) (omega (arith, running.rows_long))

pub three_exactly : bytes_naming (names_project plan_a 0) (take 4 (drop 0 rows)) ≡ 3
three_exactly = budget_exactly plan_a running.admitted_a example 0 0 (omega arith) (omega (arith, running.rows_long)) running.busy

pub three_by_rows : bytes_naming (names_project plan_a 0) (take 4 (drop 0 rows)) ≡ 3
three_by_rows = budget_shown plan_a running.admitted_a example 0 0 (omega arith) (omega (arith, running.rows_long)) running.busy_shown

pub one_by_rows : kinds_left plan_a 0 (up_to 0 (shown (start_of plan_a).state example)) ≡ 1
one_by_rows = sym (work_shown plan_a running.admitted_a example 0 0 (omega (arith, running.rows_long))).1 ∙ running.one_active

-- ---- demand 3: refusals on the way, and the slice

-- the release of kind 1 at exactly its separation
pub not_ten : number (next_after (after plan_a four_slices) (release 1 2)).answer ≢ 10
not_ten = never_out_of_form plan_a running.admitted_a four_slices (release 1 2)

pub not_fourteen : number (release_of (after plan_a four_slices) 1 2).answer ≢ 14
not_fourteen h = true≢false (sym ((told_early plan_a running.admitted_a four_slices 1 2).0 h).2 ∙ rw running.since_four)

-- and one slice before it
pub fourteen : number (release_of (after plan_a three_slices) 1 2).answer ≡ 14
fourteen = (told_early plan_a running.admitted_a three_slices 1 2).1 (omega arith, running.fits, rw running.since_three)

-- four slices are a whole frame, and the rack runs on
pub turned : (after plan_a example).slice ≡ 0
turned = slice_tells plan_a running.admitted_a example ∙ rw running.rows_long

pub runs_on : (advance_of (after plan_a example)).answer ≡ Good
runs_on = runs_for_ever plan_a running.admitted_a example

-- ---- demand 3: from what the example shows

-- of kind 2's two slices one has been named in three rows
pub one_named : left_of (last_from 2 none (shown (start_of plan_a).state three_slices)) ≡ 1
one_named = sym (left_shown plan_a running.admitted_a three_slices 2 (omega arith)) ∙ running.one_left

-- kind 1 is not released again in its four slices: as many are gone, and all that was asked is named or left
pub four_gone : (unit_of (run_from begun later) 1).gone ≡ 4
four_gone = gone_tells plan_a running.admitted_a earlier later 1 2 running.kind_one running.not_again ∙ rw running.four_rows_law

pub named_or_left : (unit_of (run_from begun later) 1).left + bytes_naming (names_kind 1) four_rows ≡ 2
named_or_left = unit_shown plan_a running.admitted_a earlier later 1 2 running.kind_one running.not_again

pub none_by_rows : 2 - bytes_naming (names_kind 1) four_rows ≤ 0
none_by_rows =
    rw running.four_rows_law at (in_time_shown plan_a running.admitted_a earlier later 1 2 running.kind_one running.not_again)

-- ---- showing and advancing

-- what is shown of the first slice is the row that is counted, and a second showing leaves it so
pub first_shown : 1 ∷ 2 ∷ [] ≡ row_of (after plan_a releases)
first_shown =
    ap (λ (cards : ℕ). take cards (1 ∷ 2 ∷ 7 ∷ [])) (sym running.first_cards)
    ∙ row_shown (after plan_a releases) (7 ∷ 7 ∷ 7 ∷ []) (1 ∷ 2 ∷ 7 ∷ []) Good running.shows refl

pub twice : (again : Answer) (last : List ℕ) → Shows (after plan_a releases) (1 ∷ 2 ∷ 7 ∷ []) again last → last ≡ 1 ∷ 2 ∷ 7 ∷ []
twice again last second =
    (shown_twice (after plan_a releases) (7 ∷ 7 ∷ 7 ∷ []) (1 ∷ 2 ∷ 7 ∷ []) Good running.shows again last second).1

-- and so it is in any other lent row
pub whatever_stood : (bytes left : List ℕ) (a : Answer) → Shows (after plan_a releases) bytes a left → number a ≡ 0 →
    1 ∷ 2 ∷ [] ≡ take 2 left
whatever_stood bytes left a c good =
    rw running.first_cards at
    (shown_alike (after plan_a releases) (7 ∷ 7 ∷ 7 ∷ []) bytes (1 ∷ 2 ∷ 7 ∷ []) left Good a running.shows c refl good)

-- the showing and the advance are the one call
pub one_call : Sliced (after plan_a releases) (7 ∷ 7 ∷ 7 ∷ []) (advance_of (after plan_a releases)) (1 ∷ 2 ∷ 7 ∷ [])
one_call =
    let s = after plan_a releases in
    (pair_is_slice s (7 ∷ 7 ∷ 7 ∷ []) (1 ∷ 2 ∷ 7 ∷ []) Good (advance_of s) running.shows refl (omega arith)).0

-- a row that is too short keeps nobody from advancing
pub short_row : (a : Answer) (left : List ℕ) → Shows (after plan_a releases) (7 ∷ []) a left →
    (advance_of (after plan_a releases)).answer ≡ Good
short_row a left c =
    let nine : number a ≡ 9 = ap number c.result ∙ running.show_told in
    short_advances (after plan_a releases) (7 ∷ []) left a c nine

-- kind 1 is released after a showing: the row shown then has it
pub shown_anew : 1 ∷ 2 ∷ [] ≡ row_of begun
shown_anew =
    ap (λ (cards : ℕ). take cards (1 ∷ 2 ∷ [])) (sym running.cards_then)
    ∙ shown_after_release (after plan_a earlier) 1 2 (7 ∷ 7 ∷ []) (1 ∷ 2 ∷ []) Good running.shown_then refl

pub shown_before : 1 ∷ 0 ∷ [] ≡ row_of (after plan_a earlier)
shown_before =
    ap (λ (cards : ℕ). take cards (1 ∷ 0 ∷ [])) (sym running.cards_first)
    ∙ row_shown (after plan_a earlier) (7 ∷ 7 ∷ []) (1 ∷ 0 ∷ []) Good running.shown_first refl

-- the example's showings change nothing: nine calls answer the same without them, and four slices run
pub nine_calls : length (handed_back (start_of plan_a).state example) ≡ 9
nine_calls = sym (ap length (showings_move_nothing example (start_of plan_a).state).1) ∙ running.unshown_nine

pub turned_still : (after plan_a (unshown example)).slice ≡ 0
turned_still = ap (λ (s : State). s.slice) (showings_move_nothing example (start_of plan_a).state).0 ∙ turned

-- and each of the four has the row that showing gives on its state
pub third_shown : let slice = get_or rows 2 no_slice in (bytes : List ℕ) → slice.before.plan.cards ≤ length bytes →
    take slice.before.plan.cards (buffer_shown slice.before bytes) ≡ slice.row
third_shown bytes l = (slices_shown example (start_of plan_a).state 2 (omega (arith, running.rows_long)) bytes l).1
