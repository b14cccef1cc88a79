-- Document 01, "The player": "commands of three bytes".
-- Assumes nothing.
use Rattle.std.specs.Prelude.{ℕ, cond, ◌&&◌, List, [], ◌∷◌, Option, None, Some, ltb, eqb, length, get_or}
use Rattle.codec.specs.Pack.{unpack}
use Rattle.codec.specs.Bytes.{number_to}
use Rattle.commands.specs.declared.command.Command.{Command}
use Rattle.commands.specs.declared.command.Command.TheVariants.{Slice, Release}
pub mod Properties

-- "1 bit (0 slice, 1 release), kind 4 bits, e 12 bits, 7 zero bits"
abbrev pub command_widths : List ℕ
command_widths = 1 ∷ 4 ∷ 12 ∷ 7 ∷ []

-- the fields at the front of s
unfoldable pub command_fields : List ℕ → List ℕ
command_fields s = unpack command_widths (number_to 3 s)

-- "7 zero bits"; "0 slice, 1 release"; "a slice has zeros throughout"; anything else is no command
unfoldable pub fields_say : ℕ → ℕ → ℕ → ℕ → Option Command
fields_say which kind e zeros =
    cond (eqb zeros 0) (cond (eqb which 1) (Some (Release kind e)) (cond (eqb kind 0 && eqb e 0) (Some Slice) None)) None

-- the command at the front of s; "one or two left over" are none
unfoldable pub command_of : List ℕ → Option Command
command_of s =
    cond (ltb (length s) 3) None (fields_say (get_or (command_fields s) 0 0) (get_or (command_fields s) 1 0) (get_or (command_fields s) 2 0)
    (get_or (command_fields s) 3 0))
