-- Document 01, "Release", and the refusals 12 to 15.
-- Assumes nothing.
use Rattle.std.specs.Prelude.{ℕ, ◌+◌, ◌-◌, Bool, true, not, ◌&&◌, List, ltb, eqb, set}
use Rattle.answer.specs.declared.Answer.{Answer}
use Rattle.answer.specs.Answer.{bare, refuse, ◌and_then◌}
use Rattle.plan.specs.declared.Kind.{Kind}
use Rattle.plan.specs.Order.{within}
use Rattle.demands.specs.AbsoluteClock.State.{Unit, State, Next, unit_of, sum_at, kind_at, next_of}
use Rattle.demands.specs.AbsoluteClock.Form.{ready}

-- "released before, and fewer than T slices ago"
unfoldable pub early : ℕ → Unit → ℕ → Bool
early separation v clock = v.released && ltb (clock - v.at) separation

-- "13: e is 0 or above C", "14", "15: slices of an earlier unit are left"
unfoldable pub startable : Kind → Unit → ℕ → ℕ → Answer
startable k v clock e =
    refuse (not (within k.length e)) (bare 13) and_then
    (refuse (early k.separation v clock) (bare 14) and_then refuse (not (eqb v.left 0)) (bare 15))

-- "Release: the record order, 10, 12, 13, 14, 15", with "16, directly after 10"
unfoldable pub release_answer : State → ℕ → ℕ → Answer
release_answer s i e =
    ready s and_then (refuse (not (ltb i s.plan.kinds)) (bare 12) and_then startable (kind_at s i) (unit_of s i) s.clock e)

-- the unit that starts: "sets that clock and sets left to e"
abbrev pub started_unit : State → ℕ → Unit
started_unit s e = record { released = true; at = s.clock; left = e }

-- "raised by a release": the sum of kind i's project, by e
abbrev pub sums_raised : State → ℕ → ℕ → List ℕ
sums_raised s i e = set s.sum (kind_at s i).project (sum_at s (kind_at s i).project + e)

-- "Release of a kind with a length e .. sets that clock and sets left to e"
unfoldable pub released : State → ℕ → ℕ → State
released s i e = record { plan = s.plan; clock = s.clock; unit = set s.unit i (started_unit s e); sum = sums_raised s i e }

-- what a release answers and hands back
unfoldable pub release_of : State → ℕ → ℕ → Next
release_of s i e = next_of (release_answer s i e) (released s i e) s
