-- Document 01, "Running", and document 02 (ix): the state and its places, and what a call that may be refused hands back.
-- Assumes nothing.
use Rattle.std.specs.Prelude.{ℕ, ◌<◌, ◌≡◌, Bool, ltb, length, get_or, replicate}
use Rattle.plan.specs.declared.Plan.{Plan}
use Rattle.plan.specs.declared.Kind.{Kind}
use Rattle.answer.specs.declared.Answer.{Answer}
use Rattle.plan.specs.Record.{no_plan}
use Rattle.plan.specs.Order.{kind_of}
use Rattle.answer.specs.Answer.{if_good}
use Rattle.unit.specs.declared.Unit.{Unit}
use Rattle.unit.specs.Unit.{no_unit}
use Rattle.rack.specs.declared.State.{State}
use Rattle.rack.specs.declared.Next.{Next}
pub mod Properties

-- the plan at slice 0, with no kind ever released and every sum "set by a fresh start"
abbrev pub fresh_of : Plan → State
fresh_of p = record { plan = p; slice = 0; unit = replicate 16 no_unit; sum = replicate 8 0 }

-- "an all-zero state"
abbrev pub no_state : State
no_state = fresh_of no_plan

-- "for each kind: whether ever released", "the slices gone since then", "and slices left"
abbrev pub unit_of : State → ℕ → Unit
unit_of s i = get_or s.unit i no_unit

-- document 02 (vii), "Keep each sum in the state": the stored sum of project j
abbrev pub sum_at : State → ℕ → ℕ
sum_at s j = get_or s.sum j 0

-- kind i of the state's plan
abbrev pub kind_at : State → ℕ → Kind
kind_at s i = kind_of s.plan i

-- ---- which places are in use

-- how many places of kinds are looked through
abbrev pub kind_places : State → ℕ
kind_places s = s.plan.kinds

-- place i is a kind's: "places beyond .. n hold zeros"
abbrev pub InUse : State → ℕ → Type 0
InUse s i = i < s.plan.kinds

-- the same, as a test
abbrev pub used : State → ℕ → Bool
used s i = ltb i s.plan.kinds

-- how many places of projects are looked through
abbrev pub project_places : State → ℕ
project_places s = s.plan.projects

-- place j is a project's: "places beyond p .. hold zeros"
abbrev pub ProjectInUse : State → ℕ → Type 0
ProjectInUse s j = j < s.plan.projects

-- the same, as a test
abbrev pub project_used : State → ℕ → Bool
project_used s j = ltb j s.plan.projects

-- the places that a state of the language's type has
pub record Places (s : State) : Type 0 where
  pub sixteen : length s.unit ≡ 16
  pub eight : length s.sum ≡ 8

-- ---- what a call hands back

-- "a refused slice or release gives back the state handed in"
abbrev pub next_of : Answer → State → State → Next
next_of a new old = record { answer = a; state = if_good a new old }
