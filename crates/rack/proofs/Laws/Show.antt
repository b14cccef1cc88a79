-- Laws of a showing: what an accepted one says, that nothing less is asked, what it leaves in the lent row, and that a refused one
-- leaves it alone.
-- Assumes nothing.
use Rattle.std.specs.Prelude.{◌≡◌, refl, List, ◌++◌, ℕ, ◌≤◌, ◌<◌, ltb, length, take, drop}
use Rattle.std.proofs.Common.{sym, ap, ◌∙◌, arith, length-append, length-drop, drop_at, lt-ltb, le-ltb, ltb-false}
use Rattle.answer.specs.declared.Answer.{Answer}
use Rattle.answer.specs.declared.Answer.TheVariants.{Good, No}
use Rattle.answer.specs.declared.Refusal.{Refusal}
use Rattle.answer.specs.Answer.Properties.{and_then_left, and_then_right, refuse_good, opened_no, opened_on}
use Rattle.answer.specs.Answer.{bare}
use Rattle.rack.specs.declared.State.{State}
use Rattle.rack.specs.Form.{ready}
use Rattle.rack.specs.Form.Properties.{ready_says, ready_of}
use Rattle.rack.specs.Row.{row_of, row_over}
use Rattle.rack.proofs.Laws.Row.{row_size, over_take}
use Rattle.rack.specs.Show.{Showable, room_for, show_answer, buffer_shown, Shows}

-- ---- the answer

pub show_says : (s : State) (room : ℕ) → show_answer s room ≡ Good → Showable s room
unfolding show_answer room_for
show_says s room h =
    let nine = refuse_good (ltb room s.plan.cards) _ (and_then_right (ready s) (room_for s room) h) in
    record { ready = ready_says s (and_then_left (ready s) (room_for s room) h); enough = ltb-false room s.plan.cards nine }

pub show_of : (s : State) (room : ℕ) → Showable s room → show_answer s room ≡ Good
unfolding show_answer room_for
show_of s room r = rw (ready_of s r.ready, le-ltb room s.plan.cards r.enough)

-- ---- what the tests answered, opened

module _ (s : State) (room : ℕ) (r : Answer) (good : r ≡ Good) (is : r ≡ show_answer s room) where
  show_opened : Showable s room
  show_opened = show_says s room (sym is ∙ good)

  pub show_room : s.plan.cards ≤ room
  show_room = show_opened.enough

-- ---- the lent row

pub shown_kept : (s : State) (bytes : List ℕ) (r : Answer) (w : Refusal) → r ≡ No w → r ≡ show_answer s (length bytes) →
    bytes ≡ buffer_shown s bytes
unfolding buffer_shown
shown_kept s bytes r w e q = rw (← q, e)

pub shown_row : (s : State) (bytes after : List ℕ) (r : Answer) → r ≡ Good → r ≡ show_answer s (length bytes) →
    after ≡ row_over s bytes → after ≡ buffer_shown s bytes
unfolding buffer_shown
shown_row s bytes after r e q h = rw (← q, e) h

-- the exits: k is what the check answered, and a what comes after that
module _ (s : State) (bytes : List ℕ) (k : Answer) (is : k ≡ ready s) where
  pub show_unready : (w : Refusal) → k ≡ No w → Shows s bytes k bytes
  unfolding show_answer
  show_unready w n =
      let answered = opened_no k (ready s) (room_for s (length bytes)) w n is in
      record { result = answered; buffer = shown_kept s bytes k w n answered }

  module _ (good : k ≡ Good) where
    pub show_no_room : (a : Answer) → a ≡ bare 9 → length bytes < s.plan.cards → Shows s bytes a bytes
    unfolding show_answer room_for
    show_no_room a n l =
        let answered = opened_on k (ready s) (room_for s (length bytes)) a good is (rw (lt-ltb (length bytes) s.plan.cards l) n) in
        record { result = answered; buffer = shown_kept s bytes a _ n answered }

    pub show_row : (after : List ℕ) → s.plan.cards ≤ length bytes → after ≡ row_over s bytes → Shows s bytes k after
    unfolding show_answer room_for
    show_row after l row =
        let room : k ≡ room_for s (length bytes) = good ∙ rw (le-ltb (length bytes) s.plan.cards l) in
        let answered = opened_on k (ready s) (room_for s (length bytes)) k good is room in
        record { result = answered; buffer = shown_row s bytes after k good answered row }

-- a refusal writes nothing
pub show_refused : (s : State) (bytes after : List ℕ) (a : Answer) (w : Refusal) → Shows s bytes a after → a ≡ No w → after ≡ bytes
show_refused s bytes after a w r e = r.buffer ∙ sym (shown_kept s bytes a w e r.result)

-- an accepted showing leaves the state's row in the first m bytes, whatever stood there
pub show_first : (s : State) (bytes : List ℕ) → show_answer s (length bytes) ≡ Good → take s.plan.cards (buffer_shown s bytes) ≡ row_of s
unfolding buffer_shown
show_first s bytes good = rw good (over_take s bytes)

-- ---- showing again

-- the row over a row is that row
over_again : (s : State) (bytes : List ℕ) → row_over s (row_over s bytes) ≡ row_over s bytes
unfolding row_over
over_again s bytes = ap (λ (l : List ℕ). row_of s ++ l) (drop_at (row_of s) (drop s.plan.cards bytes) s.plan.cards (row_size s))

over_length : (s : State) (bytes : List ℕ) → s.plan.cards ≤ length bytes → length (row_over s bytes) ≡ length bytes
unfolding row_over
over_length s bytes l =
    let rest = length-drop s.plan.cards bytes in
    omega (arith, length-append (row_of s) (drop s.plan.cards bytes), row_size s, rest)

-- the lent row is as long as it was
pub shown_length : (s : State) (bytes : List ℕ) → length (buffer_shown s bytes) ≡ length bytes
unfolding buffer_shown
shown_length s bytes = go (show_answer s (length bytes)) refl
  where
    go : (a : Answer) → show_answer s (length bytes) ≡ a → length (buffer_shown s bytes) ≡ length bytes
    go Good e = rw e (over_length s bytes (show_says s (length bytes) e).enough)
    go (No w) e = rw e

-- what a showing left, a second one leaves as it is
pub shown_again : (s : State) (bytes : List ℕ) → buffer_shown s (buffer_shown s bytes) ≡ buffer_shown s bytes
shown_again s bytes = go (show_answer s (length bytes)) refl
  where
    go : (a : Answer) → show_answer s (length bytes) ≡ a → buffer_shown s (buffer_shown s bytes) ≡ buffer_shown s bytes
    go Good e =
        let left : buffer_shown s bytes ≡ row_over s bytes = sym (shown_row s bytes (row_over s bytes) Good refl (sym e) refl) in
        let same = ap (show_answer s) (over_length s bytes (show_says s (length bytes) e).enough) ∙ e in
        ap (buffer_shown s) left
        ∙ sym (shown_row s (row_over s bytes) (row_over s (row_over s bytes)) Good refl (sym same) refl)
        ∙ over_again s bytes ∙ sym left
    go (No w) e = ap (buffer_shown s) (sym (shown_kept s bytes (No w) w refl (sym e)))
