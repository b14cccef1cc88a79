-- `lines::text::Text::row` meets its contract.
-- Assumes nothing.
use Rattle.std.specs.Prelude.{◌≤◌, ◌+◌, ◌*◌}
use Rattle.lines.specs.Text.{Adds}
use Rattle.lines.specs.Line.{row_text, card_byte}
use Rattle.lines.proofs.text.Text.row.Given as goal

abbrev pub invariant-loop-byte : goal.invariant-loop-byte
invariant-loop-byte l =
    Adds l.initial.self (row_text l.byte-index (card_byte l.row)) l.self × (l.self.at ≤ l.initial.self.at + 11 * l.byte-index)
