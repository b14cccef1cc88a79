-- Laws of a command's turn: each way out, over what the code has in hand there.
-- Assumes nothing.
use Rattle.std.specs.Prelude.{◌≡◌, Some, replicate}
use Rattle.std.proofs.Math.Path.{refl, ap}
use Rattle.std.proofs.Common.{sym, ◌∙◌, arith}
use mathlib.Core.List.{List}
use Prim.Native.Nat.{ℕ, ◌≤◌, ◌<◌, min}
use Rattle.std.proofs.Math.ListN.{get_or}
use Rattle.answer.specs.declared.Answer.{Answer}
use Rattle.answer.specs.declared.Answer.TheVariants.{Good, No}
use Rattle.rack.specs.declared.State.{State}
use Rattle.rack.specs.declared.Next.{Next}
use Rattle.rack.specs.Release.{release_of}
use Rattle.rack.specs.Show.{show_answer, buffer_shown, Shows}
use Rattle.rack.proofs.Laws.Show.{show_room}
use Rattle.rack.specs.Row.{row_byte, row_over}
use Rattle.rack.proofs.Laws.Row.{over_at}
use Rattle.lines.specs.declared.line.Line.TheVariants as line
use Rattle.lines.specs.Line.{slice_line, line_text}
use Rattle.lines.specs.Line.Properties.{row_same}
use Rattle.commands.specs.declared.command.Command.TheVariants.{Slice, Release}
use Rattle.player.specs.Turn.{row_room, line_of}

-- a showing's answer is good: the row has room, and its bytes are in it
module _ (s : State) (answer : Answer) (row : List ℕ) (shows : Shows s (replicate 8 0) answer row) where
  good_is : answer ≡ Good → show_answer s row_room ≡ Good
  good_is e = sym shows.result ∙ e

  cards_fit : answer ≡ Good → s.plan.cards ≤ 8
  cards_fit e = show_room s row_room answer e shows.result

  row_is : answer ≡ Good → (card : ℕ) → card < s.plan.cards → get_or row card 0 ≡ row_byte s card
  unfolding buffer_shown
  row_is e card l =
      let a : row ≡ row_over s (replicate 8 0) = shows.buffer ∙ rw (good_is e) in
      ap (λ (x : List ℕ). get_or x card 0) a ∙ over_at s (replicate 8 0) card l

  told : (a : Answer) → answer ≡ a → slice_line a s.slice (min s.plan.cards 8) (λ (card : ℕ). get_or row card 0)
      ≡ slice_line a s.slice s.plan.cards (row_byte s)
  unfolding slice_line
  told Good e =
      let fit : min s.plan.cards 8 ≡ s.plan.cards = omega (arith, cards_fit e) in
      rw (fit, ← row_same s.plan.cards (λ (card : ℕ). get_or row card 0) (row_byte s) (row_is e))
  told (No w) e = refl

  pub slice_told : line_text (line.Slice answer s.slice s.plan.cards) row ≡ line_of s (Some Slice)
  unfolding line_of line_text
  slice_told = rw (← shows.result) (told answer refl)

pub release_told : (s : State) (kind e : ℕ) (next : Next) (row : List ℕ) → next ≡ release_of s kind e
    → line_text (line.Release kind e next.answer) row ≡ line_of s (Some (Release kind e))
unfolding line_of line_text
release_told s kind e next row q = rw (← q)
