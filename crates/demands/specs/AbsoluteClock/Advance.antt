-- Document 01, "Slice", and the refusal 11: the state that follows.
-- Assumes nothing.
use Rattle.std.specs.Prelude.{ℕ, ◌+◌, ◌-◌, Bool, cond, ◌&&◌, eqb}
use Rattle.laws.specs.Count.{count_to}
use Rattle.laws.specs.Written.{written}
use Rattle.answer.specs.declared.Answer.{Answer}
use Rattle.answer.specs.Answer.{bare, refuse, ◌and_then◌}
use Rattle.demands.specs.AbsoluteClock.State.{Unit, State, Next, last_clock, unit_of, sum_at, kind_at, next_of}
use Rattle.demands.specs.AbsoluteClock.Form.{ready}
use Rattle.demands.specs.AbsoluteClock.Rank.{served}

-- "Each chosen kind's left falls by one"
unfoldable pub unit_after : State → ℕ → Unit
unit_after s i = record { released = (unit_of s i).released; at = (unit_of s i).at; left = (unit_of s i).left - cond (served s i) 1 0 }

-- kind i is one of project j's, and is served
unfoldable pub served_for : State → ℕ → ℕ → Bool
served_for s j i = eqb (kind_at s i).project j && served s i

-- "lowered by an advance": project j's sum, by one for each of its kinds that is served
unfoldable pub sum_after : State → ℕ → ℕ
sum_after s j = sum_at s j - count_to s.plan.kinds (served_for s j)

-- ".. the clock rises by one"
unfoldable pub advanced : State → State
advanced s = record {
  plan = s.plan;
  clock = s.clock + 1;
  unit = written s.plan.kinds (unit_after s) s.unit;
  sum = written s.plan.projects (sum_after s) s.sum;
}

-- "11: clock is 1,000,000,000"
unfoldable pub time_left : State → Answer
time_left s = refuse (eqb s.clock last_clock) (bare 11)

-- "advancing drops 9": the record order, 10, 16, 11
unfoldable pub advance_answer : State → Answer
advance_answer s = ready s and_then time_left s

-- what advancing answers and hands back
unfoldable pub advance_of : State → Next
advance_of s = next_of (advance_answer s) (advanced s) s
