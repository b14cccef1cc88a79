-- Laws of the lines: each from its parts, as the code stores them.
-- Assumes nothing.
use Rattle.std.specs.Prelude.{◌≡◌, refl, List, ◌++◌, ℕ, zero, suc, ◌+◌, ◌-◌, ◌≤◌, ◌<◌, min, length, take}
use Rattle.std.proofs.Common.{sym, ap, ap₂, add-one, get_or-take, length-take-le, le-leb}
use native.Mathlib.Omega.{arith}
use Rattle.std.proofs.lemmas.Bool.{lt-leb}
use Rattle.answer.specs.declared.Answer.{Answer}
use Rattle.answer.specs.declared.Answer.TheVariants.{Good}
use Rattle.codec.specs.Places.{parts_to}
use Rattle.lines.specs.declared.line.Line.{Line}
use Rattle.lines.specs.Ascii.{ascii}
use Rattle.lines.specs.Text.{decimal, Puts, Adds}
use Rattle.lines.specs.declared.text.Text.{Text}
use Rattle.lines.specs.Text.Properties.{puts_none, adds_none, adds_then}
use Rattle.lines.specs.Line.{row_text, card_byte, slice_line, line_text, line_room}
use Rattle.lines.specs.Line.{printed, Prints}

-- two rows that agree on the cards print the same
pub row_same : (cards : ℕ) (f g : ℕ → ℕ) → ((card : ℕ) → card < cards → f card ≡ g card) → row_text cards f ≡ row_text cards g
unfolding row_text parts_to
row_same zero f g h = refl
row_same (suc cards) f g h =
    ap₂ ◌++◌ (row_same cards f g (λ card l. h card (omega arith))) (ap (λ (n : ℕ). ascii " " ++ decimal n) (h cards (omega arith)))

-- a row with more bytes than cards prints those that are in front
pub slice_good : (row : List ℕ) (a : Answer) (clock cards n most : ℕ) → a ≡ Good → length row ≡ 8 → n ≡ cards → most ≡ min n 8
    → slice_line Good clock (length (take most row)) (card_byte (take most row)) ≡ slice_line a clock (min cards 8) (card_byte row)
unfolding slice_line
slice_good row a clock cards n most e eight q f =
    let k : length (take most row) ≡ most = length-take-le most row (omega arith) in
    let s = row_same most (card_byte (take most row)) (card_byte row) (λ card h. get_or-take most row card 0 h) in
    rw (e, ← q, ← f, ← s, k) refl

-- ---- the steps of the loop over a row

pub row_none : (s : Text) (row : ℕ → ℕ) → Adds s (row_text 0 row) s
unfolding row_text parts_to
row_none s row = adds_none s

pub row_again : (s t u : Text) (card n : ℕ) (row : ℕ → ℕ) → n ≡ row card → Adds s (row_text card row) t → Adds t (ascii " " ++ decimal n) u
    → Adds s (row_text (card + 1) row) u
unfolding row_text parts_to
row_again s t u card n row e p q =
    rw (add-one card) (adds_then s t u (parts_to card (λ c. ascii " " ++ decimal (row c))) (ascii " " ++ decimal (row card)) p (rw e at q))

-- ---- where it is printed, and where it is not

module _ (line : Line) (row out : List ℕ) (at : ℕ) where
  -- no room
  prints_none : length out < at + line_room → Prints line row out at at out
  unfolding printed
  prints_none l = record { text = rw (lt-leb (at + line_room) (length out) l) (puts_none out at); room = omega arith }

  pub prints_short : length out < line_room → Prints line row out at at out
  prints_short l = prints_none (omega arith)

  pub prints_late : line_room ≤ length out → length out - line_room < at → Prints line row out at at out
  prints_late k l = prints_none (omega arith)

  -- room: what is printed is the line
  printed_is : at + line_room ≤ length out → printed line row out at ≡ line_text line row
  unfolding printed
  printed_is l = rw (le-leb (at + line_room) (length out) l)

  -- what a caller with room is told
  pub prints_all : (next : ℕ) (after : List ℕ) → at + line_room ≤ length out → Prints line row out at next after
      → Puts out at (line_text line row) next after
  prints_all next after l p = rw (printed_is l) at p.text

-- the buffer is back
pub prints_lent : (line : Line) (row after : List ℕ) (s t : Text) → Adds s (line_text line row) t × (t.at ≤ s.at + line_room)
    → line_room ≤ length s.out.now → s.at ≤ length s.out.now - line_room → (s.out.ghost_name ≡ t.out.ghost_name → after ≡ t.out.now)
    → Prints line row s.out.now s.at t.at after
prints_lent line row after s t a k l same =
    let e = same (sym a.0.lent) in
    record { text = rw (printed_is line row s.out.now s.at (omega arith), e) a.0.puts; room = a.1 }
