-- A play line by line: where it stands, what its next line takes of the bytes that are there and prints, and the lines that fit a buffer.
-- Assumes nothing.
use Rattle.std.specs.Prelude.{ℕ, zero, suc, ◌+◌, ◌-◌, ◌≤◌, ◌≡◌, Bool, true, false, cond, not, ◌&&◌, ◌||◌, List, [], ◌++◌, ltb, eqb, Option}
use Rattle.std.specs.Prelude.{None, Some, length, take, drop}
use Rattle.answer.specs.declared.Answer.{Answer}
use Rattle.answer.specs.Answer.{number, if_good}
use Rattle.plan_bytes.specs.Reading.{read_of}
use Rattle.rack.specs.declared.State.{State}
use Rattle.rack.specs.State.{no_state}
use Rattle.rack.specs.Start.{start_of}
use Rattle.commands.specs.declared.command.Command.{Command}
use Rattle.commands.specs.declared.command.Command.TheVariants.{Slice, Release}
use Rattle.player.specs.declared.session.Session.{Session}
use Rattle.player.specs.declared.session.Session.TheVariants.{Opening, Running, Over}
use Rattle.player.specs.declared.session.Progress.{Progress}
use Rattle.lines.specs.Line.{plan_line, bad_line, end_line, line_room}
use Rattle.commands.specs.Command.{command_of}
use Rattle.player.specs.Turn.{line_of, after}
use Rattle.player.specs.Played.{opening, turns, played}
pub mod Properties

-- ---- where a play stands

-- before the plan
abbrev pub unopened : Session
unopened = Opening

-- whether the last line was printed
abbrev pub is_over : Session → Bool
is_over Opening = false
is_over (Running s) = false
is_over (Over s) = true

-- what is still to be printed, of all the input that is still to be taken
unfoldable pub remaining : Session → List ℕ → List ℕ
remaining Opening input = played input
remaining (Running s) input = turns s input
remaining (Over s) input = []

-- ---- the next line

-- the session after it, the bytes that it takes, and the text that it prints
pub record Move : Type 0 where
  pub session : Session
  pub taken : ℕ
  pub text : List ℕ

-- more input has to come first, or there is nothing more to print
abbrev pub stay : Session → Move
stay x = record { session = x; taken = 0; text = [] }

-- "First line: `plan ok` or `plan refused N at P`, and then it stops"
abbrev pub first_line : Answer → State → ℕ → Move
first_line a s n =
    record { session = if_good a (Running s) (Over no_state); taken = if_good a n 0; text = plan_line a }

-- "`plan refused N at P`, and then it stops"
abbrev pub refused_at : Answer → Move
refused_at a = record { session = Over no_state; taken = 0; text = plan_line a }

-- the first line, unless the plan is cut short and the input has not ended with these bytes
unfoldable pub open_of : Bool → List ℕ → Move
open_of last bytes =
    cond (not last && eqb (number (read_of bytes).answer) 1) (stay Opening)
    (first_line (opening bytes) (start_of (read_of bytes).plan).state (read_of bytes).taken)

-- a command's line; after a bad one the last line, too
unfoldable pub command_move : State → Option Command → Move
command_move s (Some k) = record { session = Running (after s (Some k)); taken = 3; text = line_of s (Some k) }
command_move s None = record { session = Over s; taken = 0; text = bad_line ++ end_line s.slice }

-- "Last line after a good plan .. `end CLOCK`"
abbrev pub last_line : State → Move
last_line s = record { session = Over s; taken = 0; text = end_line s.slice }

-- the line of the command at the front, or the last line; where the input has not ended, only a whole command
unfoldable pub run_of : State → Bool → List ℕ → Move
run_of s last bytes =
    cond last (cond (eqb (length bytes) 0) (last_line s) (command_move s (command_of bytes)))
    (cond (ltb (length bytes) 3) (stay (Running s)) (command_move s (command_of bytes)))

-- the next line
unfoldable pub step_of : Session → Bool → List ℕ → Move
step_of Opening last bytes = open_of last bytes
step_of (Running s) last bytes = run_of s last bytes
step_of (Over s) last bytes = stay (Over s)

-- ---- as many lines as there are, while there is room

-- these bytes and this text, and then a move
abbrev pub onto : ℕ → List ℕ → Move → Move
onto taken text m = record { session = m.session; taken = taken + m.taken; text = text ++ m.text }

-- at most so many lines, into that much room
unfoldable pub lines_of : ℕ → Session → Bool → List ℕ → ℕ → Move
lines_of zero x last bytes room = stay x
lines_of (suc lines) x last bytes room =
    let m = step_of x last bytes in
    cond (ltb room line_room || eqb (length m.text) 0) (stay x)
    (onto m.taken m.text (lines_of lines m.session last (drop m.taken bytes) (room - length m.text)))

-- the lines that a buffer has room for: no line is empty, so its length is enough
unfoldable pub play_of : Session → Bool → List ℕ → ℕ → Move
play_of x last bytes room = lines_of room x last bytes room

-- what playing hands back
abbrev pub progress_of : Move → Progress
progress_of m = record { session = m.session; taken = m.taken; count = length m.text }

-- a move's whole outcome: its text stands at the front of the buffer, and what is past it is kept
pub record Leaves (m : Move) (out : List ℕ) (r : Progress) (held : List ℕ) : Type 0 where
  pub result : r ≡ progress_of m
  pub buffer : held ≡ m.text ++ drop (length m.text) out
  pub room : r.count ≤ length out

-- playing's
abbrev pub Plays : Session → Bool → List ℕ → List ℕ → Progress → List ℕ → Type 0
Plays x last bytes out = Leaves (play_of x last bytes (length out)) out

-- the lines of the commands from a state on, behind the bytes that are taken and the text that is printed: at most so many
abbrev pub run_from : State → Bool → List ℕ → ℕ → List ℕ → ℕ → ℕ → Move
run_from s last bytes taken out count lines =
    onto taken (take count out) (lines_of lines (Running s) last (drop taken bytes) (length out - count))
