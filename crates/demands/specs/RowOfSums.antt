-- Document 02 (vii), "Keep the row of sums": what the stored row is, when a call says that it differs, and that a flip is told. `sum_at` is
-- a stored sum, and `project_left` the sum of the slices left of a project's kinds.
-- Assumes nothing.
use Rattle.std.specs.Prelude.{◌≡◌, ◌≢◌, ◌↔◌, true, cond, List, ℕ, ◌+◌, ◌<◌, eqb}
use Rattle.answer.specs.declared.Answer.TheVariants.{Good}
use Rattle.answer.specs.Answer.{number}
use Rattle.answer.specs.Numbers.{among}
use Rattle.plan.specs.declared.Plan.{Plan}
use Rattle.plan.specs.Order.{kind_of, InOrder}
use Rattle.rack.specs.declared.State.{State}
use Rattle.rack.specs.State.{unit_of, sum_at, Places}
use Rattle.rack.specs.Sums.{project_left, left_row}
use Rattle.rack.specs.Form.{InForm}
use Rattle.rack.specs.Row.{row_of}
use Rattle.rack.specs.Start.{start_of}
use Rattle.rack.specs.Release.{release_of}
use Rattle.rack.specs.Advance.{advance_of}
use Rattle.demands.specs.Run.{Call, next_after, after}
use Rattle.demands.specs.Named.{names_project, bytes_in}
use Rattle.demands.specs.Safe.Properties.{after_safe}
use Rattle.demands.specs.Flipped.{own_numbers, with_sum, with_left, sum_told_number, left_told_number, Told}
use Rattle.demands.specs.Flipped.Properties.{told_by, sum_flip, left_flip}
use Rattle.demands.specs.SumsTold.{SumDiffers, ten_exactly, sixteen_exactly, taken_ready}
use Rattle.demands.specs.KeptSums.{run_row, run_sum, not_sixteen, start_zero, release_adds, advance_takes}

-- ---- 1. "From every fresh start and any calls, the stored row equals the sum of what is left"

module _ (p : Plan) (admitted : (start_of p).answer ≡ Good) where
  -- the row of eight
  pub row_right : (calls : List Call) → (after p calls).sum ≡ left_row (after p calls)
  row_right = run_row p admitted

  -- each of them
  pub sum_right : (calls : List Call) (j : ℕ) → j < 8 → sum_at (after p calls) j ≡ project_left (after p calls) j
  sum_right = run_sum p admitted

  -- so 16 never occurs
  pub never_differs : (calls : List Call) (call : Call) → number (next_after (after p calls) call).answer ≢ 16
  never_differs = not_sixteen p admitted

  -- ---- 2. "set by a fresh start, raised by a release, lowered by an advance"

  pub start_sets : (j : ℕ) → j < 8 → sum_at (start_of p).state j ≡ 0
  start_sets = start_zero p admitted

  -- by the length of the unit, where the kind is the project's
  pub release_raises : (calls : List Call) (i e j : ℕ) →
      let s = after p calls in
      let next = release_of s i e in
      next.answer ≡ Good →
      sum_at next.state j ≡ sum_at s j + cond (eqb (kind_of p i).project j) e 0
  release_raises = release_adds p admitted

  -- by the bytes of the row that name kinds of the project
  pub advance_lowers : (calls : List Call) (j : ℕ) →
      let s = after p calls in
      let next = advance_of s in
      next.answer ≡ Good →
      j < p.projects →
      sum_at next.state j + bytes_in (names_project p j) (row_of s) ≡ sum_at s j
  advance_lowers = advance_takes p admitted

-- ---- 3. "Refusals: 16, directly after 10, in every call that takes a state, exactly when a stored sum differs"

-- 16, of any state: the plan is in order, the state in form, and the stored sum of a project is not what is left
pub sixteen_when : (s : State) (call : Call) →
    (number (next_after s call).answer ≡ 16) ↔ (InOrder s.plan × InForm s × SumDiffers s)
sixteen_when = sixteen_exactly

-- 10, of any state: the plan is in order and the state is not in form (of which "A sum beyond p that is not zero" is a case)
pub ten_when : (s : State) (call : Call) → (number (next_after s call).answer ≡ 10) ↔ (InOrder s.plan × (InForm s → ⊥))
ten_when = ten_exactly

-- ---- 4. "If a bit flips in a sum or in any slices-left field, the next call must say so"

-- a state on which some call is good or refused by 9 or by 12 to 14, and any of its eight sums changed to any other value: every call
-- says so, with 10 where the place is beyond p and 16 elsewhere, hands the changed state back and leaves the row as it was
pub sum_told : (s : State) (before : Call) → among own_numbers (number (next_after s before).answer) ≡ true → Places s →
    (j v : ℕ) → j < 8 → v ≢ sum_at s j →
    Told (with_sum s j v) (sum_told_number s j)
sum_told s before taken places j v l other =
    told_by (with_sum s j v) (sum_told_number s j) (sum_flip s (taken_ready s before taken) places j v l other)

-- or the slices left of any of its sixteen places: with 16 where so many could be left, else with 10
pub left_told : (s : State) (before : Call) → among own_numbers (number (next_after s before).answer) ≡ true → Places s →
    (i v : ℕ) → i < 16 → v ≢ (unit_of s i).left →
    Told (with_left s i v) (left_told_number s i v)
left_told s before taken places i v l other =
    told_by (with_left s i v) (left_told_number s i v) (left_flip s (taken_ready s before taken) places i v l other)

-- of every state that a run from a fresh start comes to
module _ (p : Plan) (admitted : (start_of p).answer ≡ Good) (calls : List Call) where
  pub run_sum_told : (j v : ℕ) →
      j < 8 →
      v ≢ sum_at (after p calls) j →
      Told (with_sum (after p calls) j v) (sum_told_number (after p calls) j)
  run_sum_told j v l other =
      let s = after p calls in
      let safe = after_safe p admitted calls in
      told_by (with_sum s j v) (sum_told_number s j) (sum_flip s safe.ready safe.places j v l other)

  pub run_left_told : (i v : ℕ) → i < 16 → v ≢ (unit_of (after p calls) i).left →
      Told (with_left (after p calls) i v) (left_told_number (after p calls) i v)
  run_left_told i v l other =
      let s = after p calls in
      let safe = after_safe p admitted calls in
      told_by (with_left s i v) (left_told_number s i v) (left_flip s safe.ready safe.places i v l other)
