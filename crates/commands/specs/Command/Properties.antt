-- Laws of commands: what the code has in hand at each way out.
-- Assumes nothing.
use Rattle.std.specs.Prelude.{◌≡◌, Option, None, List, ℕ, ◌+◌, ◌*◌, ◌/◌, ◌%◌, ◌≤◌, ◌<◌, length, get_or}
use Rattle.std.proofs.Common.{◌∙◌, div-one, arith, lt-ltb, le-ltb}
use Rattle.codec.specs.Pack.{unpack}
use Rattle.codec.specs.Bytes.{number_to}
use Rattle.commands.specs.declared.command.Command.{Command}
use Rattle.commands.specs.Command.{command_fields, fields_say, command_of}

pub command_short : (s : List ℕ) → length s < 3 → None ≡ command_of s
unfolding command_of
command_short s l = rw (lt-ltb (length s) 3 l)

-- three bytes as one number, and its fields
pub command_fields_law : (s : List ℕ) (x y z : ℕ) (r : Option Command) → 3 ≤ length s → x ≡ get_or s 0 0 → y ≡ get_or s 1 0 →
    z ≡ get_or s 2 0 → x < 256
    → y < 256 → z < 256
    → r ≡ fields_say ((x * 65536 + y * 256 + z) / 8388608) ((x * 65536 + y * 256 + z) / 524288 % 16)
    ((x * 65536 + y * 256 + z) / 128 % 4096)
    ((x * 65536 + y * 256 + z) % 128)
    → r ≡ command_of s
unfolding command_of command_fields unpack number_to
command_fields_law s x y z r l e f g p q t h =
    let n : x * 65536 + y * 256 + z ≡ ((0 * 256 + get_or s 0 0) * 256 + get_or s 1 0) * 256 + get_or s 2 0 = omega arith in
    let w : (x * 65536 + y * 256 + z) / 8388608 ≡ (x * 65536 + y * 256 + z) / 8388608 % 2 = omega arith in
    h ∙ rw (le-ltb (length s) 3 l, w, n, div-one)

-- each way out of `Command::decode`
pub ruleset decodes = (command_short, command_fields_law)
