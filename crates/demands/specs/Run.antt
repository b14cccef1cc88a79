-- A run of the rack: any calls, accepted or refused, each on the state that the last gave back, and the slices that it advances, each with
-- its row.
-- Assumes nothing.
use Rattle.std.specs.Prelude.{ℕ, List, [], ◌∷◌, ◌++◌, length}
use Rattle.plan.specs.declared.Plan.{Plan}
use Rattle.answer.specs.Answer.{if_good}
use Rattle.rack.specs.declared.State.{State}
use Rattle.rack.specs.declared.Next.{Next}
use Rattle.rack.specs.State.{no_state}
use Rattle.rack.specs.Start.{start_of}
use Rattle.rack.specs.Release.{release_of}
use Rattle.rack.specs.Row.{row_of}
use Rattle.rack.specs.Show.{show_answer, buffer_shown}
use Rattle.rack.specs.Advance.{advance_answer, advance_of}
pub mod Properties

-- a showing in a lent row of bytes, an advance, or the release of a kind with a length
pub data Call : Type 0 where
  show : List ℕ → Call
  advance : Call
  release : ℕ → ℕ → Call

-- what a call answers and hands back, as the contracts of show, advance and release say it: a showing "keeps the state"
abbrev pub next_after : State → Call → Next
next_after s (show bytes) = record { answer = show_answer s (length bytes); state = s }
next_after s advance = advance_of s
next_after s (release i e) = release_of s i e

-- what a call leaves in the row lent to it, as the contract of show says it; only a showing is lent one
abbrev pub row_after : State → Call → List ℕ
row_after s (show bytes) = buffer_shown s bytes
row_after s advance = []
row_after s (release i e) = []

-- the state that the last of the calls gives back
unfoldable pub run_from : State → List Call → State
run_from s [] = s
run_from s (call ∷ calls) = run_from (next_after s call).state calls

-- the state after the calls, from a fresh start on a plan
abbrev pub after : Plan → List Call → State
after p calls = run_from (start_of p).state calls

-- ---- the slices advanced, each with its row

-- an accepted advance: the state that it advances, and the row that showing gives on that state, shown or not
pub record Accepted : Type 0 where
  pub before : State
  pub row : List ℕ

-- where there is none
abbrev pub no_slice : Accepted
no_slice = record { before = no_state; row = [] }

-- an accepted advance of a state (that an accepted showing leaves this row in the first m bytes is `row_shown`)
abbrev pub accepted : State → Accepted
accepted s = record { before = s; row = row_of s }

-- a call's accepted advance, where it is one
unfoldable pub accepted_in : State → Call → List Accepted
accepted_in s (show bytes) = []
accepted_in s advance = if_good (advance_answer s) (accepted s ∷ []) []
accepted_in s (release i e) = []

-- the accepted advances of the calls, in their order: "Demand 3 counts slices advanced"
unfoldable pub slices_of : State → List Call → List Accepted
slices_of s [] = []
slices_of s (call ∷ calls) = accepted_in s call ++ slices_of (next_after s call).state calls

-- ---- without the showings

-- the calls but for the showings
unfoldable pub unshown : List Call → List Call
unshown [] = []
unshown (show bytes ∷ calls) = unshown calls
unshown (advance ∷ calls) = advance ∷ unshown calls
unshown (release i e ∷ calls) = release i e ∷ unshown calls

-- what each call but for the showings answers and hands back, in their order
unfoldable pub handed_back : State → List Call → List Next
handed_back s [] = []
handed_back s (show bytes ∷ calls) = handed_back (next_after s (show bytes)).state calls
handed_back s (advance ∷ calls) = next_after s advance ∷ handed_back (next_after s advance).state calls
handed_back s (release i e ∷ calls) = next_after s (release i e) ∷ handed_back (next_after s (release i e)).state calls
