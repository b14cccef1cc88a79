-- Document 01, "The player": the whole output for the whole input.
-- Assumes nothing.
use Rattle.std.specs.Prelude.{ℕ, List, [], ◌∷◌, ◌++◌, Option, None, Some, drop}
use Rattle.answer.specs.declared.Answer.{Answer}
use Rattle.answer.specs.Answer.{◌and_then◌, if_good}
use Rattle.plan_bytes.specs.Reading.{read_of}
use Rattle.rack.specs.declared.State.{State}
use Rattle.rack.specs.Start.{start_of}
use Rattle.commands.specs.declared.command.Command.{Command}
use Rattle.lines.specs.Line.{plan_line, bad_line, end_line}
use Rattle.commands.specs.Command.{command_of}
use Rattle.player.specs.Turn.{line_of, after}
pub mod Properties
pub mod Front

-- "print `bad command`; no more is read": what follows a command's line, where it goes on and where it does not
abbrev pub onward : Option Command → List ℕ → List ℕ → List ℕ
onward (Some k) on stop = on
onward None on stop = stop

-- "then commands of three bytes": a line for each, and "Last line after a good plan, also then: `end CLOCK`"
unfoldable pub turns : State → List ℕ → List ℕ
turns s [] = end_line s.slice
turns s (a ∷ []) = bad_line ++ end_line s.slice
turns s (a ∷ b ∷ []) = bad_line ++ end_line s.slice
turns s (a ∷ b ∷ c ∷ rest) =
    let k = command_of (a ∷ b ∷ c ∷ rest) in
    line_of s k ++ onward k (turns (after s k) rest) (end_line s.slice)

-- what the plan at the front of the input answers: it is read, and then started fresh
unfoldable pub opening : List ℕ → Answer
opening input = (read_of input).answer and_then (start_of (read_of input).plan).answer

-- "reads a plan from standard input, then commands"; "First line: `plan ok` or `plan refused N at P`, and then it stops"
unfoldable pub played : List ℕ → List ℕ
played input =
    plan_line (opening input) ++ if_good (opening input) (turns (start_of (read_of input).plan).state (drop (read_of input).taken input)) []
