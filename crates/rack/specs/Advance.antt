-- Document 01, "Slice": the state that follows. Document 02 (iv): "the other advances with no buffer"; (vii): a sum "lowered by an
-- advance"; (ix): "the slice within the frame", and "the slices gone since then, held at T".
-- Assumes nothing.
use Rattle.std.specs.Prelude.{ℕ, ◌+◌, ◌-◌, ◌%◌, Bool, ◌&&◌, eqb}
use Rattle.laws.specs.Count.{count_to}
use Rattle.laws.specs.Written.{written}
use Rattle.answer.specs.declared.Answer.{Answer}
use Rattle.unit.specs.declared.Unit.{Unit}
use Rattle.unit.specs.Step as Step
use Rattle.rack.specs.declared.State.{State}
use Rattle.rack.specs.declared.Next.{Next}
use Rattle.rack.specs.State.{unit_of, kind_at, kind_places, project_places, sum_at, next_of}
use Rattle.rack.specs.Form.{ready}
use Rattle.rack.specs.Rank.{served}

-- kind i's unit: "Each chosen kind's left falls by one", and one slice more is gone, held at T
unfoldable pub unit_after : State → ℕ → Unit
unit_after s i = Step.unit_after (served s i) (kind_at s i).separation (unit_of s i)

-- kind i is one of project j's, and is served
unfoldable pub served_for : State → ℕ → ℕ → Bool
served_for s j i = eqb (kind_at s i).project j && served s i

-- "lowered by an advance": project j's sum, by one for each of its kinds that is served
unfoldable pub sum_after : State → ℕ → ℕ
sum_after s j = sum_at s j - count_to (kind_places s) (served_for s j)

-- and the next slice: the first of the frame after its last
unfoldable pub advanced : State → State
advanced s = record {
  plan = s.plan;
  slice = (s.slice + 1) % s.plan.frame;
  unit = written (kind_places s) (unit_after s) s.unit;
  sum = written (project_places s) (sum_after s) s.sum;
}

-- "advancing drops 9", and 11 is "retired": the record order, 10, 16
abbrev pub advance_answer : State → Answer
advance_answer s = ready s

-- what advancing answers and hands back
unfoldable pub advance_of : State → Next
advance_of s = next_of (advance_answer s) (advanced s) s
