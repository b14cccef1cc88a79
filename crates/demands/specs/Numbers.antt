-- Documents 01, "Numbers given back when we say no", and 02: the numbers that each call lists, and what each number comes with.
-- Assumes nothing.
use Rattle.std.specs.Prelude.{refl, not, List, [], ◌∷◌, ℕ, ◌≤◌, leb, ltb, eqb, length}
use Rattle.std.proofs.Common.{arith}
use Rattle.answer.specs.Numbers.{among, covers, Numbered}
use Rattle.answer.specs.Numbers.Properties.{bare_numbered, kind_numbered, eight_numbered}
use Rattle.answer.specs.Numbers.Properties.{refuse_numbered, and_then_numbered, each_numbered, wider}
use Rattle.plan.specs.declared.Plan.{Plan}
use Rattle.plan.specs.Order.{within, InOrder, ranges, checked}
use Rattle.plan.specs.Order.Properties.{sizes_says, in_order}
use Rattle.plan.specs.Open.{with_budget, ranges_open, checked_open, InOrderOpen}
use Rattle.plan.specs.Open.Properties.{open_order_law}
use Rattle.plan_bytes.specs.Parts.{headed, decoded, size}
use Rattle.plan_bytes.specs.Reading.{spare_zero, body_answer, read_answer, read_of, counts_answer}
use Rattle.plan_bytes.specs.Writing.{write_answer}
use Rattle.layout.specs.Table.{table_answer, table_length}
use Rattle.verdict.specs.Verdict.{width_of, excess_of, bad_slice_of, fitted, admitted, judged}
use Rattle.verdict.specs.Figures.{figures_answer, figures_of}
use Rattle.verdict.specs.Steps.{fit_on}
use Rattle.verdict.specs.Steps.Properties.{excess_room, slice_room}
use Rattle.smallest_budget.specs.Smallest.{excess_with, slice_with, lacks, most_budget, least_budget, fitted_with, served_with}
use Rattle.smallest_budget.specs.Smallest.{smallest_answer, smallest_of}
use Rattle.smallest_budget.specs.Steps.{fit_with}
use Rattle.smallest_budget.specs.Steps.Properties.{with_room, with_slice}
use Rattle.one_kind.specs.Wanted.{kinds_in, separation_in, length_in}
use Rattle.one_kind.specs.Built.{offered, counts, frame_for, frame_fits, timed_alone, kind_timed, kinds_timed, plan_for, answer_for}
use Rattle.one_kind.specs.Built.{built_of}
use Rattle.one_kind.specs.Built.Properties.{counts_say}
use Rattle.rescue.specs.Rescue.{rescued_plan, list_size, rest_answer, rescue_answer, rescue_of}
use Rattle.unit.specs.Start.{early, startable}
use Rattle.rack.specs.declared.State.{State}
use Rattle.rack.specs.State.{unit_of, kind_at, used}
use Rattle.rack.specs.Sums.{sums_right}
use Rattle.rack.specs.Form.{in_form, sums_told, ready}
use Rattle.rack.specs.Start.{start_answer}
use Rattle.rack.specs.Release.{release_answer}
use Rattle.rack.specs.Advance.{advance_answer}
use Rattle.rack.specs.Show.{room_for, show_answer}
use Rattle.demands.specs.Numbers.Stages.{sizes_numbers, unused_numbers, there_numbers, projects_numbers, projects_open_numbers}
use Rattle.demands.specs.Numbers.Stages.{kinds_numbers, sum_numbers}
pub mod Stages

-- ---- the numbers that each call lists

-- "Records: 2, 3, 4, 5/6, 7"
abbrev pub record_order : List ℕ
record_order = 2 ∷ 3 ∷ 4 ∷ 5 ∷ 6 ∷ 7 ∷ []

-- "Bytes: 1 for the first three bytes, 2, 1 for the total, 3, all projects for 4, then kind by kind 5 before 6, then 7"
abbrev pub bytes_order : List ℕ
bytes_order = 1 ∷ record_order

-- "Writing plan bytes or the slot table adds 9 and not 8"
abbrev pub write_order : List ℕ
write_order = 9 ∷ record_order

-- "Starting fresh and the verdict add 8"
abbrev pub verdict_order : List ℕ
verdict_order = 8 ∷ record_order

-- the record order, then "12: kind not below n"
abbrev pub figures_order : List ℕ
figures_order = 12 ∷ record_order

-- "2, 3, then 27 for a project not below p; the rest of the record order, 4 skipping that one budget, without 7"
abbrev pub open_order : List ℕ
open_order = 2 ∷ 3 ∷ 27 ∷ 4 ∷ 5 ∷ 6 ∷ []

-- "then 8 exactly when no B up to qF serves ..; then 7"
abbrev pub smallest_order : List ℕ
smallest_order = 8 ∷ 7 ∷ open_order

-- "Refusals, in order: 17 ..; 18 ..; 6 by kind; 19 ..; 7"
abbrev pub build_order : List ℕ
build_order = 17 ∷ 18 ∷ 6 ∷ 19 ∷ 7 ∷ []

-- "Refusals: 1 and 2 as in reading; 20 when no kind remains; 9 when the list's entries don't all fit"
abbrev pub rescue_order : List ℕ
rescue_order = 1 ∷ 2 ∷ 20 ∷ 9 ∷ []

-- "the record order, 10" and "16, directly after 10": what every call on a state begins with
abbrev pub state_order : List ℕ
state_order = 10 ∷ 16 ∷ record_order

-- "Release: the record order, 10, 12, 13, 14", with 16; "15 .. retired"
abbrev pub release_order : List ℕ
release_order = 12 ∷ 13 ∷ 14 ∷ state_order

-- "showing keeps the slice order with 9": the record order, 10, 16, 9; "11 .. retired"
abbrev pub show_order : List ℕ
show_order = 9 ∷ state_order

-- "advancing drops 9": the record order, 10, 16
abbrev pub advance_order : List ℕ
advance_order = state_order

-- ---- the record order

ranges_numbers : (p : Plan) → p.projects ≤ 8 → p.kinds ≤ 16 → Numbered record_order (ranges p)
unfolding ranges among
ranges_numbers p a b =
    and_then_numbered _ _ _ (projects_numbers _ p a refl)
    (λ e. and_then_numbered _ _ _ (kinds_numbers _ p b refl refl) (λ f. sum_numbers _ p refl))

-- `Plan::check`
pub check_numbers : (p : Plan) → Numbered record_order (checked p)
unfolding checked among
check_numbers p =
    and_then_numbered _ _ _ (sizes_numbers _ p refl)
    (λ e. and_then_numbered _ _ _ (unused_numbers _ p refl)
    (λ f. ranges_numbers p (sizes_says p e).projects_most (sizes_says p e).kinds_most))

-- ---- plan bytes and the slot table

-- `read`
pub read_numbers : (bytes : List ℕ) → Numbered bytes_order (read_of bytes).answer
unfolding read_of read_answer body_answer decoded among covers
read_numbers bytes =
    and_then_numbered _ _ _ (refuse_numbered _ (ltb (length bytes) 3) _ (bare_numbered _ 1 (λ z. omega arith) refl))
    (λ a. and_then_numbered _ _ _ (sizes_numbers _ (headed bytes) refl)
    (λ e. and_then_numbered _ _ _
    (refuse_numbered _ (ltb (length bytes) (size (headed bytes))) _ (bare_numbered _ 1 (λ z. omega arith) refl))
    (λ b. and_then_numbered _ _ _ (refuse_numbered _ (not (spare_zero bytes)) _ (bare_numbered _ 3 (λ z. omega arith) refl))
    (λ c. wider _ record_order _ refl
    (ranges_numbers (decoded bytes) (sizes_says (headed bytes) e).projects_most (sizes_says (headed bytes) e).kinds_most)))))

-- `write`
pub write_numbers : (p : Plan) (out : List ℕ) → Numbered write_order (write_answer p out)
unfolding write_answer among covers
write_numbers p out =
    and_then_numbered _ _ _ (wider _ record_order _ refl (check_numbers p))
    (λ e. refuse_numbered _ (ltb (length out) (size p)) _ (bare_numbered _ 9 (λ z. omega arith) refl))

-- `slot_table`
pub slot_table_numbers : (p : Plan) (room : ℕ) → Numbered write_order (table_answer p room)
unfolding table_answer among covers
slot_table_numbers p room =
    and_then_numbered _ _ _ (wider _ record_order _ refl (check_numbers p))
    (λ e. refuse_numbered _ (ltb room (table_length p)) _ (bare_numbered _ 9 (λ z. omega arith) refl))

-- ---- the verdict and the rack

admitted_numbers : (p : Plan) → InOrder p → Numbered verdict_order (admitted p)
unfolding admitted fitted among
admitted_numbers p o =
    each_numbered _ p.kinds (fitted p)
    (λ i l. refuse_numbered _ (eqb (width_of p i) 0) _
    (eight_numbered _ i (excess_of p i) (bad_slice_of p i) refl (omega (arith, o.counts.kinds_most))
    (omega (arith, excess_room p o i l (fit_on p i) refl)) (slice_room p o i)))

-- `judge`
pub judge_numbers : (p : Plan) → Numbered verdict_order (judged p).answer
unfolding judged covers among
judge_numbers p =
    and_then_numbered _ _ _ (wider _ record_order _ refl (check_numbers p)) (λ e. admitted_numbers p (in_order p e))

-- `kind_figures`
pub figures_numbers : (p : Plan) (i : ℕ) → Numbered figures_order (figures_of p i).answer
unfolding figures_of figures_answer covers among
figures_numbers p i =
    and_then_numbered _ _ _ (wider _ record_order _ refl (check_numbers p))
    (λ e. refuse_numbered _ (leb p.kinds i) _ (bare_numbered _ 12 (λ z. omega arith) refl))

-- ---- the smallest budget

-- `Plan::check_open`
pub check_open_numbers : (p : Plan) (j : ℕ) → Numbered open_order (checked_open p j)
unfolding checked_open ranges_open among
check_open_numbers p j =
    and_then_numbered _ _ _ (sizes_numbers _ p refl)
    (λ e. and_then_numbered _ _ _ (unused_numbers _ p refl)
    (λ f. and_then_numbered _ _ _ (there_numbers _ p j refl)
    (λ g. and_then_numbered _ _ _ (projects_open_numbers _ p j (sizes_says p e).projects_most refl)
    (λ h. kinds_numbers _ p (sizes_says p e).kinds_most refl refl))))

served_numbers : (p : Plan) (j : ℕ) → InOrderOpen p j → (b : ℕ) → Numbered smallest_order (served_with p j b)
unfolding served_with among
served_numbers p j o b =
    each_numbered _ p.kinds (fitted_with p j b)
    (λ i l. refuse_numbered _ (lacks p j b i) _
    (eight_numbered _ i (excess_with p j b i) (slice_with p j b i) refl (omega (arith, o.counts.kinds_most))
    (with_room p j o i l b (fit_with p j b i) refl) (with_slice p j o i l b)))

-- `smallest_budget`
pub smallest_numbers : (p : Plan) (j : ℕ) → Numbered smallest_order (smallest_of p j).answer
unfolding smallest_of smallest_answer covers among
smallest_numbers p j =
    and_then_numbered _ _ _ (wider _ open_order _ refl (check_open_numbers p j))
    (λ e. and_then_numbered _ _ _ (served_numbers p j (open_order_law p j e) (most_budget p j))
    (λ f. sum_numbers _ (with_budget p j (least_budget p j)) refl))

-- ---- a plan of one-kind projects

-- `build`
pub build_numbers : (m : ℕ) (list : List ℕ) → Numbered build_order (built_of m list).answer
unfolding built_of answer_for counts kinds_timed frame_fits among
build_numbers m list =
    let n = kinds_in list in
    let T = separation_in list in
    let C = length_in list in
    and_then_numbered _ _ _ (build_counts m n)
    (λ e. and_then_numbered _ _ _
    (each_numbered _ n (kind_timed T C)
    (λ i l. refuse_numbered _ (not (timed_alone (T i) (C i))) _
    (kind_numbered _ 6 i refl refl (omega (arith, (counts_say m n e).1)))))
    (λ f. and_then_numbered _ _ _ (refuse_numbered _ (not (leb (frame_for n T) 64)) _ (bare_numbered _ 19 (λ z. omega arith) refl))
    (λ g. sum_numbers _ (plan_for m n T C) refl)))
  where
    build_counts : (k n : ℕ) → Numbered build_order (counts k n)
    build_counts k n =
        and_then_numbered _ _ _ (refuse_numbered _ (not (offered k n)) _ (bare_numbered _ 17 (λ z. omega arith) refl))
        (λ e. refuse_numbered _ (not (leb n 8)) _ (bare_numbered _ 18 (λ z. omega arith) refl))

-- ---- a rescued plan

-- `rescue`
pub rescue_numbers : (bytes list : List ℕ) → Numbered rescue_order (rescue_of bytes list).answer
unfolding rescue_of rescue_answer counts_answer rest_answer among
rescue_numbers bytes list =
    and_then_numbered _ _ _
    (and_then_numbered _ _ _ (refuse_numbered _ (ltb (length bytes) 3) _ (bare_numbered _ 1 (λ z. omega arith) refl))
    (λ e. and_then_numbered _ _ _ (sizes_numbers _ (headed bytes) refl)
    (λ f. refuse_numbered _ (ltb (length bytes) (size (headed bytes))) _ (bare_numbered _ 1 (λ z. omega arith) refl))))
    (λ g. and_then_numbered _ _ _ (refuse_numbered _ (eqb (rescued_plan bytes).kinds 0) _ (bare_numbered _ 20 (λ z. omega arith) refl))
    (λ h. refuse_numbered _ (ltb (length list) (list_size bytes)) _ (bare_numbered _ 9 (λ z. omega arith) refl)))

-- `State::start`
pub start_numbers : (p : Plan) → Numbered verdict_order (start_answer p)
unfolding start_answer covers among
start_numbers p =
    and_then_numbered _ _ _ (wider _ record_order _ refl (check_numbers p)) (λ e. admitted_numbers p (in_order p e))

-- what every call on a state begins with
pub ready_numbers : (s : State) → Numbered state_order (ready s)
unfolding ready sums_told covers among
ready_numbers s =
    and_then_numbered _ _ _ (wider _ record_order _ refl (check_numbers s.plan))
    (λ e. and_then_numbered _ _ _ (refuse_numbered _ (not (in_form s)) _ (bare_numbered _ 10 (λ z. omega arith) refl))
    (λ f. refuse_numbered _ (not (sums_right s)) _ (bare_numbered _ 16 (λ z. omega arith) refl)))

-- `State::release`
pub release_numbers : (s : State) (i e : ℕ) → Numbered release_order (release_answer s i e)
unfolding release_answer startable covers among
release_numbers s i e =
    and_then_numbered _ _ _ (wider _ state_order _ refl (ready_numbers s))
    (λ a. and_then_numbered _ _ _ (refuse_numbered _ (not (used s i)) _ (bare_numbered _ 12 (λ z. omega arith) refl))
    (λ b. and_then_numbered _ _ _ (refuse_numbered _ (not (within (kind_at s i).length e)) _ (bare_numbered _ 13 (λ z. omega arith) refl))
    (λ c. refuse_numbered _ (early (kind_at s i).separation (unit_of s i)) _ (bare_numbered _ 14 (λ z. omega arith) refl))))

-- `State::show`
pub show_numbers : (s : State) (room : ℕ) → Numbered show_order (show_answer s room)
unfolding show_answer room_for covers among
show_numbers s room =
    and_then_numbered _ _ _ (wider _ state_order _ refl (ready_numbers s))
    (λ a. refuse_numbered _ (ltb room s.plan.cards) _ (bare_numbered _ 9 (λ z. omega arith) refl))

-- `State::advance`
pub advance_numbers : (s : State) → Numbered advance_order (advance_answer s)
advance_numbers s = ready_numbers s
