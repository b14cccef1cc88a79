-- Document 02 (iv): what showing and advancing owe a host, call by call and in a run.
-- Assumes nothing.
use Rattle.std.specs.Prelude.{◌≡◌, refl, ◌≢◌, List, [], ◌∷◌, ◌++◌, ℕ, zero, suc, ◌≤◌, ◌<◌, length, get_or, take}
use Rattle.std.proofs.Common.{sym, ap, ◌∙◌, true≢false, arith}
use Rattle.answer.specs.declared.Answer.{Answer}
use Rattle.answer.specs.declared.Answer.TheVariants.{Good, No}
use Rattle.answer.specs.Answer.{number}
use Rattle.answer.specs.Numbers.{among}
use Rattle.rack.specs.declared.State.{State}
use Rattle.rack.specs.declared.Next.{Next}
use Rattle.rack.specs.Form.{ready}
use Rattle.rack.specs.Advance.{advance_of}
use Rattle.rack.proofs.Laws.Advance.{advance_says}
use Rattle.rack.specs.Show.{show_answer, buffer_shown, Shows}
use Rattle.rack.proofs.Laws.Show.{show_of, show_first, shown_length, shown_again}
use Rattle.rack.specs.Slice.{Sliced}
use Rattle.rack.specs.Slice.Properties.{shown_is_sliced, advance_alike, advance_is_slice, advance_short}
use Rattle.rack.specs.Release.{release_of}
use Rattle.demands.specs.Run.{Call, show, advance, release, next_after, run_from, Accepted, no_slice, accepted, accepted_in, slices_of}
use Rattle.demands.specs.Run.{unshown, handed_back}
use Rattle.demands.specs.Run.Properties.{Claim, WithSlice, along}
use Rattle.demands.specs.Numbers.{state_order, ready_numbers, show_numbers}

-- ---- 1. Showing

module _ (s : State) (bytes after : List ℕ) (answer : Answer) (shows : Shows s bytes answer after) where
  accepted_is : number answer ≡ 0 → show_answer s (length bytes) ≡ Good
  accepted_is good = (show_numbers s (length bytes)).good.0 (ap number (sym shows.result) ∙ good)

  -- an accepted showing leaves in the first m bytes the row that demand 3 counts when the state is advanced
  pub row_shown : number answer ≡ 0 → take s.plan.cards after ≡ (accepted s).row
  row_shown good = ap (take s.plan.cards) shows.buffer ∙ show_first s bytes (accepted_is good)

  -- "Showing twice gives the same row": a second showing in the same lent row answers the same and leaves it as it is
  pub shown_twice : (again : Answer) (last : List ℕ) → Shows s after again last → (again ≡ answer) × (last ≡ after)
  shown_twice again last second =
      let length-is : length after ≡ length bytes = ap length shows.buffer ∙ shown_length s bytes in (
        second.result ∙ ap (show_answer s) length-is ∙ sym shows.result,
        second.buffer ∙ ap (buffer_shown s) shows.buffer ∙ shown_again s bytes ∙ sym shows.buffer,
      )

-- and in two lent rows: what stood in them has no say in the first m bytes
pub shown_alike : (s : State) (bytes other after left : List ℕ) (a b : Answer) →
    Shows s bytes a after →
    Shows s other b left →
    number a ≡ 0 →
    number b ≡ 0 →
    take s.plan.cards after ≡ take s.plan.cards left
shown_alike s bytes other after left a b first second p q =
    row_shown s bytes after a first p ∙ sym (row_shown s other left b second q)

-- ---- 2. Showing, then advancing

-- "an accepted showing, then advancing, equals the old call": the same row, the same bytes past it, the same answer, the same state;
-- and where the showing is refused by any number but 9, advancing gives that number too, and nothing is changed by either
pub pair_is_slice : (s : State) (bytes after : List ℕ) (answer : Answer) (next : Next) →
    Shows s bytes answer after →
    next ≡ advance_of s →
    number answer ≢ 9 →
    (Sliced s bytes next after) × (next.answer ≡ answer)
unfolding advance_of
pair_is_slice s bytes after answer next shows moves other =
    let not_nine : number (show_answer s (length bytes)) ≢ 9 = λ e. other (ap number shows.result ∙ e) in (
      record {
        result = moves ∙ advance_is_slice s (length bytes) not_nine;
        buffer = shows.buffer ∙ shown_is_sliced s bytes;
      },
      ap (λ (n : Next). n.answer) moves ∙ advance_alike s (length bytes) not_nine ∙ sym shows.result,
    )

-- the state's own numbers have no 9
no_nine : (s : State) → number (ready s) ≢ 9
unfolding among
no_nine s e = go (ready s) refl
  where
    go : (a : Answer) → ready s ≡ a → ⊥
    go Good q = omega (arith, ap number q)
    go (No w) q = true≢false (sym ((ready_numbers s).its_number w q) ∙ ap (among state_order) e)

-- "advancing drops 9": where the showing is refused by 9, advancing is accepted
pub short_advances : (s : State) (bytes after : List ℕ) (answer : Answer) →
    Shows s bytes answer after →
    number answer ≡ 9 →
    (advance_of s).answer ≡ Good
unfolding advance_of
short_advances s bytes after answer shows nine =
    advance_short s (length bytes) (no_nine s) (ap number (sym shows.result) ∙ nine)

-- ---- 3. "A release may fall between; the host then shows again"

-- the row shown after it is that of the state that it hands back
pub shown_after_release : (s : State) (i e : ℕ) (bytes after : List ℕ) (answer : Answer) →
    let next = (release_of s i e).state in
    Shows next bytes answer after →
    number answer ≡ 0 →
    take next.plan.cards after ≡ (accepted next).row
shown_after_release s i e = row_shown (release_of s i e).state

-- and nothing remembers a showing: a run without its showings has the same states, answers and slices
pub showings_move_nothing : (calls : List Call) (s : State) →
    (run_from s (unshown calls) ≡ run_from s calls) ×
    (handed_back s (unshown calls) ≡ handed_back s calls) ×
    (slices_of s (unshown calls) ≡ slices_of s calls)
unfolding unshown run_from handed_back slices_of accepted_in
showings_move_nothing [] s = (refl, refl, refl)
showings_move_nothing (show bytes ∷ calls) s = showings_move_nothing calls s
showings_move_nothing (advance ∷ calls) s =
    let next = next_after s advance in
    let same = showings_move_nothing calls next.state in (
      same.0,
      ap (λ (l : List Next). next ∷ l) same.1,
      ap (λ (l : List Accepted). accepted_in s advance ++ l) same.2,
    )
showings_move_nothing (release i e ∷ calls) s =
    let next = next_after s (release i e) in
    let same = showings_move_nothing calls next.state in
    (same.0, ap (λ (l : List Next). next ∷ l) same.1, same.2)

-- ---- 4. The slices that demand 3 counts

-- each is of a state on which showing is accepted, in every lent row that is long enough, and leaves the row that is counted
pub slices_shown : (calls : List Call) (s : State) (x : ℕ) →
    let slice = get_or (slices_of s calls) x no_slice in
    let cards = slice.before.plan.cards in
    x < length (slices_of s calls) →
    (bytes : List ℕ) →
    cards ≤ length bytes →
    (show_answer slice.before (length bytes) ≡ Good) × (take cards (buffer_shown slice.before bytes) ≡ slice.row)
slices_shown = along Each (λ s x l. absurd (omega arith)) first (λ s end i e slices g h. h)
  where
    Each : Claim
    Each s slices end = (x : ℕ) →
        let slice = get_or slices x no_slice in
        let cards = slice.before.plan.cards in
        x < length slices →
        (bytes : List ℕ) →
        cards ≤ length bytes →
        (show_answer slice.before (length bytes) ≡ Good) × (take cards (buffer_shown slice.before bytes) ≡ slice.row)

    first : WithSlice Each
    first s end slices g h zero l bytes m =
        let good = show_of s (length bytes) (record { ready = advance_says s g; enough = m }) in
        (good, show_first s bytes good)
    first s end slices g h (suc x) l bytes m = h x (omega arith) bytes m
