-- Document 01, "Running", with its clock: the state and its places.
-- Assumes nothing.
use Rattle.std.specs.Prelude.{ℕ, Bool, false, List, get_or, replicate}
use Rattle.plan.specs.declared.Plan.{Plan}
use Rattle.plan.specs.declared.Kind.{Kind}
use Rattle.plan.specs.Order.{kind_of}
use Rattle.plan.specs.Record.{no_plan}
use Rattle.answer.specs.declared.Answer.{Answer}
use Rattle.answer.specs.Answer.{if_good}
use Rattle.rack.specs.Start.{start_answer}

-- "for each kind: whether ever released, the clock at its last accepted release, and slices left"
pub record Unit : Type 0 where
  pub released : Bool
  pub at : ℕ
  pub left : ℕ

-- "The state holds the plan, a clock (0..1,000,000,000)", a unit for each kind, and (document 02 (vii)) a sum for each project
pub record State : Type 0 where
  pub plan : Plan
  pub clock : ℕ
  pub unit : List Unit
  pub sum : List ℕ

-- what a call answers, and the state that it hands back
pub record Next : Type 0 where
  pub answer : Answer
  pub state : State

-- "a clock (0..1,000,000,000)": where it ends
abbrev pub last_clock : ℕ
last_clock = 1000000000

-- "a kind never released has release clock 0 and left 0"
abbrev pub no_unit : Unit
no_unit = record { released = false; at = 0; left = 0 }

-- the plan at clock 0, with no kind ever released
abbrev pub fresh_of : Plan → State
fresh_of p = record { plan = p; clock = 0; unit = replicate 16 no_unit; sum = replicate 8 0 }

-- kind i's unit
abbrev pub unit_of : State → ℕ → Unit
unit_of s i = get_or s.unit i no_unit

-- the stored sum of project j
abbrev pub sum_at : State → ℕ → ℕ
sum_at s j = get_or s.sum j 0

-- kind i of the state's plan
abbrev pub kind_at : State → ℕ → Kind
kind_at s i = kind_of s.plan i

-- "a refused slice or release gives back the state handed in"
abbrev pub next_of : Answer → State → State → Next
next_of a new old = record { answer = a; state = if_good a new old }

-- what a fresh start answers and hands back: "a refused fresh start gives an all-zero state"
unfoldable pub start_of : Plan → Next
start_of p = next_of (start_answer p) (fresh_of p) (fresh_of no_plan)
