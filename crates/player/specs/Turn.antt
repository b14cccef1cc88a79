-- Document 01, "The player": what a command prints, and the state that follows it.
-- Assumes nothing.
use Rattle.std.specs.Prelude.{ℕ, List, Option, None, Some}
use Rattle.rack.specs.declared.State.{State}
use Rattle.rack.specs.Release.{release_of}
use Rattle.rack.specs.Row.{row_byte}
use Rattle.rack.specs.Show.{show_answer}
use Rattle.rack.specs.Advance.{advance_of}
use Rattle.commands.specs.declared.command.Command.{Command}
use Rattle.commands.specs.declared.command.Command.TheVariants.{Slice, Release}
use Rattle.lines.specs.Line.{release_line, slice_line, bad_line}
pub mod Properties

-- the bytes that a showing is lent for its row: as many as a plan can have cards
abbrev pub row_room : ℕ
row_room = 8

-- "A release prints ..; a slice prints `t CLOCK:` with the clock before it and the row's bytes ..; Any other three bytes .. print `bad
-- command`"; document 02 (ix), "`play` prints that slice as its clock, in `end` too"
unfoldable pub line_of : State → Option Command → List ℕ
line_of s (Some Slice) = slice_line (show_answer s row_room) s.slice s.plan.cards (row_byte s)
line_of s (Some (Release kind e)) = release_line kind e (release_of s kind e).answer
line_of s None = bad_line

-- the state that the advance or the release hands back: "`play` and every other caller use the pair"
unfoldable pub after : State → Option Command → State
after s (Some Slice) = (advance_of s).state
after s (Some (Release kind e)) = (release_of s kind e).state
after s None = s
