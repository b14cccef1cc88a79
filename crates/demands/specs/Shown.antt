-- What a run shows to one who sees no state: the releases accepted and the rows of the slices advanced, in their order; and what they
-- tell of a kind's last unit.
-- Assumes nothing.
use Rattle.std.specs.Prelude.{ℕ, zero, suc, ◌+◌, ◌-◌, Bool, false, not, cond, ◌&&◌, ◌||◌, List, [], ◌∷◌, ◌++◌, eqb}
use Rattle.laws.specs.Count.{count_to}
use Rattle.plan.specs.declared.Plan.{Plan}
use Rattle.answer.specs.Answer.{if_good}
use Rattle.plan.specs.Order.{kind_of}
use Rattle.rack.specs.declared.State.{State}
use Rattle.rack.specs.Release.{release_answer}
use Rattle.rack.specs.Row.{row_of}
use Rattle.rack.specs.Advance.{advance_answer}
use Rattle.demands.specs.Run.{Call, show, advance, release, next_after}
use Rattle.demands.specs.Named.{names_kind, bytes_in}
pub mod Along
pub mod Properties

-- an accepted release of a kind with a length, or the row of an accepted advance
pub data Event : Type 0 where
  started : ℕ → ℕ → Event
  ran : List ℕ → Event

-- what a call shows: a showing nothing yet, for its row comes with the advance
unfoldable pub shown_by : State → Call → List Event
shown_by s (show bytes) = []
shown_by s advance = if_good (advance_answer s) (ran (row_of s) ∷ []) []
shown_by s (release i e) = if_good (release_answer s i e) (started i e ∷ []) []

-- what the calls show, in their order
unfoldable pub shown : State → List Call → List Event
shown s [] = []
shown s (call ∷ calls) = shown_by s call ++ shown (next_after s call).state calls

-- what stands before the row of slice x
unfoldable pub up_to : ℕ → List Event → List Event
up_to x [] = []
up_to x (started i e ∷ events) = started i e ∷ up_to x events
up_to zero (ran row ∷ events) = []
up_to (suc x) (ran row ∷ events) = ran row ∷ up_to x events

-- ---- a kind's last unit

-- none yet, or its length e and the bytes that have named its kind since its release
pub data Last : Type 0 where
  none : Last
  unit : ℕ → ℕ → Last

-- kind i's, one event later
abbrev pub last_after : ℕ → Last → Event → Last
last_after i last (started k e) = cond (eqb k i) (unit e 0) last
last_after i none (ran row) = none
last_after i (unit e named) (ran row) = unit e (named + bytes_in (names_kind i) row)

-- kind i's, after all the events
unfoldable pub last_from : ℕ → Last → List Event → Last
last_from i last [] = last
last_from i last (event ∷ events) = last_from i (last_after i last event) events

-- what is left of it: e less those bytes
abbrev pub left_of : Last → ℕ
left_of none = 0
left_of (unit e named) = e - named

-- whether kind i is released among the events
unfoldable pub restarted : ℕ → List Event → Bool
restarted i [] = false
restarted i (started k e ∷ events) = eqb k i || restarted i events
restarted i (ran row ∷ events) = restarted i events

-- how many kinds of project j have slices left after the events
unfoldable pub kinds_left : Plan → ℕ → List Event → ℕ
kinds_left p j events =
    count_to p.kinds (λ i. eqb (kind_of p i).project j && not (eqb (left_of (last_from i none events)) 0))
