-- A run by the rules with a clock: the same calls, each on the state that the last gave back.
-- Assumes nothing.
use Rattle.std.specs.Prelude.{Bool, false, ◌||◌, List, [], ◌∷◌, ℕ, ◌+◌, eqb, length}
use Rattle.plan.specs.declared.Plan.{Plan}
use Rattle.answer.specs.Answer.{number}
use Rattle.demands.specs.Run.{Call, show, advance, release}
use Rattle.demands.specs.AbsoluteClock.State.{State, Next, start_of}
use Rattle.demands.specs.AbsoluteClock.Release.{release_of}
use Rattle.demands.specs.AbsoluteClock.Show.{show_answer, buffer_shown}
use Rattle.demands.specs.AbsoluteClock.Advance.{advance_of}

-- what a call answers and hands back
abbrev pub next_after : State → Call → Next
next_after s (show bytes) = record { answer = show_answer s (length bytes); state = s }
next_after s advance = advance_of s
next_after s (release i e) = release_of s i e

-- what a call leaves in the row lent to it; only a showing is lent one
abbrev pub row_after : State → Call → List ℕ
row_after s (show bytes) = buffer_shown s bytes
row_after s advance = []
row_after s (release i e) = []

-- the state that the last of the calls gives back
unfoldable pub run_from : State → List Call → State
run_from s [] = s
run_from s (call ∷ calls) = run_from (next_after s call).state calls

-- the state after the calls, from a fresh start on a plan
abbrev pub after : Plan → List Call → State
after p calls = run_from (start_of p).state calls

-- how many of the calls are advances
unfoldable pub advances : List Call → ℕ
advances [] = 0
advances (show bytes ∷ calls) = advances calls
advances (advance ∷ calls) = 1 + advances calls
advances (release i e ∷ calls) = advances calls

-- "11: clock is 1,000,000,000", told to an advance
abbrev pub ends_at : State → Call → Bool
ends_at s (show bytes) = false
ends_at s advance = eqb (number (advance_of s).answer) 11
ends_at s (release i e) = false

-- whether the clock has ended at an advance among the calls
unfoldable pub ended : State → List Call → Bool
ended s [] = false
ended s (call ∷ calls) = ends_at s call || ended (next_after s call).state calls
