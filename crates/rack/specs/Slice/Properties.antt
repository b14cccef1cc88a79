-- The pair is held to the one call: showing answers as it does and leaves the same row, and unless that is 9 advancing answers and hands
-- back the same.
-- Assumes nothing.
use Rattle.std.specs.Prelude.{◌≡◌, refl, ◌≢◌, Bool, true, false, List, ℕ, ltb}
use Rattle.std.proofs.Common.{ap, ◌∙◌}
use Rattle.answer.specs.declared.Answer.{Answer}
use Rattle.answer.specs.declared.Answer.TheVariants.{Good, No}
use Rattle.answer.specs.Answer.{bare, number, refuse, ◌and_then◌}
use Rattle.rack.specs.declared.State.{State}
use Rattle.rack.specs.State.{next_of}
use Rattle.rack.specs.Form.{ready}
use Rattle.rack.specs.Advance.{advanced, advance_answer, advance_of}
use Rattle.rack.specs.Show.{room_for, show_answer, buffer_shown}
use Rattle.rack.specs.Slice.{slice_answer, slice_of, buffer_after}

-- ---- showing

pub show_is_slice : (s : State) (room : ℕ) → show_answer s room ≡ slice_answer s room
unfolding show_answer slice_answer
show_is_slice s room = refl

pub shown_is_sliced : (s : State) (bytes : List ℕ) → buffer_shown s bytes ≡ buffer_after s bytes
unfolding buffer_shown buffer_after show_answer slice_answer
shown_is_sliced s bytes = refl

-- ---- advancing

-- where showing does not say 9, advancing answers as it does
pub advance_alike : (s : State) (room : ℕ) → number (show_answer s room) ≢ 9 → advance_answer s ≡ show_answer s room
unfolding show_answer room_for
advance_alike s room = go (ready s) (ltb room s.plan.cards)
  where
    go : (a : Answer) (short : Bool) → number (a and_then refuse short (bare 9)) ≢ 9 → a ≡ (a and_then refuse short (bare 9))
    go (No w) short h = refl
    go Good true h = absurd (h refl)
    go Good false h = refl

-- and so does all that the one call does
pub advance_is_slice : (s : State) (room : ℕ) → number (show_answer s room) ≢ 9 → advance_of s ≡ slice_of s room
unfolding advance_of slice_of
advance_is_slice s room h =
    ap (λ (a : Answer). next_of a (advanced s) s) (advance_alike s room h ∙ show_is_slice s room)

-- where the state itself has no 9 to say and showing says 9, nothing is left to ask
pub advance_short : (s : State) (room : ℕ) → number (ready s) ≢ 9 → number (show_answer s room) ≡ 9 → advance_answer s ≡ Good
unfolding show_answer
advance_short s room = go (ready s)
  where
    go : (a : Answer) → number a ≢ 9 → number (a and_then room_for s room) ≡ 9 → a ≡ Good
    go (No w) h e = absurd (h e)
    go Good h e = refl
