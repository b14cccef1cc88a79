-- Document 01, "In form", and the refusal 10; document 02 (vii), the refusal 16.
-- Assumes nothing.
use Rattle.std.specs.Prelude.{ℕ, Bool, not, cond, ◌&&◌, leb, ltb, eqb}
use Rattle.laws.specs.Sum.{sum_to}
use Rattle.laws.specs.All.{all_to}
use Rattle.answer.specs.declared.Answer.{Answer}
use Rattle.answer.specs.Answer.{bare, refuse, ◌and_then◌}
use Rattle.plan.specs.Order.{checked}
use Rattle.rack.specs.Form.{sum_fits}
use Rattle.demands.specs.AbsoluteClock.State.{Unit, State, last_clock, unit_of, sum_at, kind_at}

-- "release clock 0 and left 0"
unfoldable pub untouched : Unit → Bool
untouched v = eqb v.at 0 && eqb v.left 0

-- "release clock <= clock and left <= C", for C a kind's length
unfoldable pub underway : ℕ → ℕ → Unit → Bool
underway clock length v = leb v.at clock && leb v.left length

-- "a kind never released has release clock 0 and left 0; else release clock <= clock and left <= C"
unfoldable pub unit_in_form : ℕ → ℕ → Unit → Bool
unit_in_form clock length v = cond v.released (underway clock length v) (untouched v)

-- a place of a unit that holds zeros
unfoldable pub empty_unit : Unit → Bool
empty_unit v = not v.released && untouched v

-- place i: in form where the plan has that kind, and else "places beyond n zero"
unfoldable pub place_in_form : State → ℕ → Bool
place_in_form s i = cond (ltb i s.plan.kinds) (unit_in_form s.clock (kind_at s i).length (unit_of s i)) (empty_unit (unit_of s i))

-- "A sum beyond p that is not zero is 10"
unfoldable pub sums_in_form : State → Bool
sums_in_form s = all_to 8 (λ j. sum_fits (ltb j s.plan.projects) (sum_at s j))

-- "the clock within range" and every place in form
unfoldable pub in_form : State → Bool
in_form s = leb s.clock last_clock && (all_to 16 (place_in_form s) && sums_in_form s)

-- what kind i adds to project j's sum
unfoldable pub left_for : State → ℕ → ℕ → ℕ
left_for s j i = cond (eqb (kind_at s i).project j) (unit_of s i).left 0

-- "the sum of what is left" of project j's kinds
unfoldable pub project_left : State → ℕ → ℕ
project_left s j = sum_to s.plan.kinds (left_for s j)

-- "16 .. exactly when a stored sum differs"
unfoldable pub sums_right : State → Bool
sums_right s = all_to s.plan.projects (λ j. eqb (sum_at s j) (project_left s j))

-- "the record order, 10", and "16, directly after 10"
unfoldable pub ready : State → Answer
ready s = checked s.plan and_then (refuse (not (in_form s)) (bare 10) and_then refuse (not (sums_right s)) (bare 16))
