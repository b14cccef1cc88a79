-- Document 01, "The player": the lines that it prints, as bytes.
-- Assumes nothing.
use Rattle.std.specs.Prelude.{ℕ, ◌+◌, ◌≤◌, min, cond, List, [], ◌++◌, leb, length, get_or}
use Rattle.answer.specs.declared.Answer.{Answer}
use Rattle.answer.specs.declared.Answer.TheVariants.{Good, No}
use Rattle.answer.specs.Answer.{number, place}
use Rattle.codec.specs.Places.{parts_to}
use Rattle.lines.specs.declared.line.Line.{Line}
use Rattle.lines.specs.declared.line.Line.TheVariants.{Plan, Release, Slice, Bad, End, Nothing}
use Rattle.lines.specs.Ascii.{ascii}
use Rattle.lines.specs.Text.{decimal, Puts}
pub mod Properties

-- "First line: `plan ok` or `plan refused N at P`"
unfoldable pub plan_line : Answer → List ℕ
plan_line Good = ascii "plan ok\n"
plan_line (No r) = (ascii "plan refused " ++ decimal (number (No r))) ++ (ascii " at " ++ decimal (place (No r))) ++ ascii "\n"

-- the end of a line that says `ok` or `refused N`
unfoldable pub outcome : Answer → List ℕ
outcome Good = ascii " ok\n"
outcome (No r) = (ascii " refused " ++ decimal (number (No r))) ++ ascii "\n"

-- "A release prints `r KIND E ok` or `r KIND E refused N`"
unfoldable pub release_line : ℕ → ℕ → Answer → List ℕ
release_line kind e a = (ascii "r " ++ decimal kind) ++ (ascii " " ++ decimal e) ++ outcome a

-- "the row's bytes", one for each card
unfoldable pub row_text : ℕ → (ℕ → ℕ) → List ℕ
row_text cards row = parts_to cards (λ card. ascii " " ++ decimal (row card))

-- the byte of a card in a row
abbrev pub card_byte : List ℕ → ℕ → ℕ
card_byte row card = get_or row card 0

-- "a slice prints `t CLOCK:` with the clock before it and the row's bytes, or `t refused N`"
unfoldable pub slice_line : Answer → ℕ → ℕ → (ℕ → ℕ) → List ℕ
slice_line Good clock cards row = (ascii "t " ++ decimal clock) ++ ascii ":" ++ row_text cards row ++ ascii "\n"
slice_line (No r) clock cards row = ascii "t" ++ outcome (No r)

-- "Any other three bytes, or one or two left over, print `bad command`"
abbrev pub bad_line : List ℕ
bad_line = ascii "bad command\n"

-- "Last line after a good plan, also then: `end CLOCK`"
unfoldable pub end_line : ℕ → List ℕ
end_line clock = (ascii "end " ++ decimal clock) ++ ascii "\n"

-- ---- one of them, into a buffer

-- the bytes of each; a row has eight, so of more cards the first eight
unfoldable pub line_text : Line → List ℕ → List ℕ
line_text (Plan a) row = plan_line a
line_text (Release kind e a) row = release_line kind e a
line_text (Slice a clock cards) row = slice_line a clock (min cards 8) (card_byte row)
line_text (Bad clock) row = bad_line ++ end_line clock
line_text (End clock) row = end_line clock
line_text Nothing row = []

-- what a line may take of a buffer
abbrev pub line_room : ℕ
line_room = 128

-- what a line's last words may take of it
abbrev pub end_room : ℕ
end_room = 64

-- the line, or nothing where a line may not have room behind `at`
unfoldable pub printed : Line → List ℕ → List ℕ → ℕ → List ℕ
printed line row out at = cond (leb (at + line_room) (length out)) (line_text line row) []

-- the whole outcome: the line stands from index `at` on, and all else is kept
pub record Prints (line : Line) (row out : List ℕ) (at next : ℕ) (after : List ℕ) : Type 0 where
  pub text : Puts out at (printed line row out at) next after
  pub room : next ≤ at + line_room
