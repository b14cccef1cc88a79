-- Document 01, "Release", and the refusals 12 to 14; document 02 (vii), a sum "raised by a release".
-- Assumes nothing.
use Rattle.std.specs.Prelude.{ℕ, ◌+◌, true, not, List, set}
use Rattle.answer.specs.declared.Answer.{Answer}
use Rattle.answer.specs.Answer.{bare, refuse, ◌and_then◌}
use Rattle.unit.specs.declared.Unit.{Unit}
use Rattle.unit.specs.Start.{Startable, startable}
use Rattle.rack.specs.declared.State.{State}
use Rattle.rack.specs.declared.Next.{Next}
use Rattle.rack.specs.State.{unit_of, kind_at, InUse, used, sum_at, next_of}
use Rattle.rack.specs.Form.{Ready, ready}
pub mod Properties

-- "Release: the record order, 10, 12, 13, 14", with "16, directly after 10"; 15 is "retired"
unfoldable pub release_answer : State → ℕ → ℕ → Answer
release_answer s i e = ready s and_then (refuse (not (used s i)) (bare 12) and_then startable (kind_at s i) (unit_of s i) e)

-- the unit that starts: no slice is gone since then, and a release "sets left to e"
abbrev pub started_unit : ℕ → Unit
started_unit e = record { released = true; gone = 0; left = e }

-- "raised by a release": the sum of kind i's project, by e
abbrev pub sums_raised : State → ℕ → ℕ → List ℕ
sums_raised s i e = set s.sum (kind_at s i).project (sum_at s (kind_at s i).project + e)

-- "Release of a kind with a length e .. sets left to e"
unfoldable pub released : State → ℕ → ℕ → State
released s i e = record { plan = s.plan; slice = s.slice; unit = set s.unit i (started_unit e); sum = sums_raised s i e }

-- what a release answers and hands back
unfoldable pub release_of : State → ℕ → ℕ → Next
release_of s i e = next_of (release_answer s i e) (released s i e) s

-- ---- what a good answer says

-- none of the record order, 10, 16, 12, 13 and 14
pub record Releasable (s : State) (i e : ℕ) : Type 0 where
  pub ready : Ready s
  pub its_kind : InUse s i
  pub start : Startable (kind_at s i) (unit_of s i) e
