-- Document 02 (vii), "If a bit flips in a sum or in any slices-left field": a state with one sum or one kind's slices left changed to
-- any other value, and what every call says of it.
-- Assumes nothing.
use Rattle.std.specs.Prelude.{◌≡◌, Bool, cond, ◌&&◌, List, [], ◌∷◌, ℕ, leb, set}
use Rattle.answer.specs.declared.Answer.{Answer}
use Rattle.answer.specs.Answer.{bare}
use Rattle.unit.specs.declared.Unit.{Unit}
use Rattle.unit.specs.Form.{due_in_time}
use Rattle.rack.specs.declared.State.{State}
use Rattle.rack.specs.State.{unit_of, kind_at, used, project_used}
use Rattle.rack.specs.Show.{Shows}
use Rattle.demands.specs.Run.{Call, next_after}
pub mod Properties

-- the answers of a call that found nothing wrong with the state itself: good, or refused by 9, or by 12 to 14
abbrev pub own_numbers : List ℕ
own_numbers = 0 ∷ 9 ∷ 12 ∷ 13 ∷ 14 ∷ []

-- ---- the changed state

-- project j's sum is v
abbrev pub with_sum : State → ℕ → ℕ → State
with_sum s j v = record { plan = s.plan; slice = s.slice; unit = s.unit; sum = set s.sum j v }

-- a unit of which v slices are left
abbrev pub left_as : Unit → ℕ → Unit
left_as u v = record { released = u.released; gone = u.gone; left = v }

-- of kind i's unit v slices are left
abbrev pub with_left : State → ℕ → ℕ → State
with_left s i v = record { plan = s.plan; slice = s.slice; unit = set s.unit i (left_as (unit_of s i) v); sum = s.sum }

-- ---- how it is told

-- "A sum beyond p that is not zero is 10", any other 16
abbrev pub sum_told_number : State → ℕ → ℕ
sum_told_number s j = cond (project_used s j) 16 10

-- v slices left that could be: the kind is one of the plan's, was ever released, v is at most C, and it is not late with them
abbrev pub could_be_left : State → ℕ → ℕ → Bool
could_be_left s i v =
    used s i && ((unit_of s i).released && (leb v (kind_at s i).length && due_in_time (kind_at s i).deadline (left_as (unit_of s i) v)))

-- these are 16, any other 10
abbrev pub left_told_number : State → ℕ → ℕ → ℕ
left_told_number s i v = cond (could_be_left s i v) 16 10

-- every call on a state answers this number, hands the state back and leaves the row as it was
pub record Told (s : State) (n : ℕ) : Type 0 where
  pub answer : (call : Call) → (next_after s call).answer ≡ bare n
  pub state : (call : Call) → (next_after s call).state ≡ s
  pub row : (bytes after : List ℕ) (a : Answer) → Shows s bytes a after → (a ≡ bare n) × (after ≡ bytes)
