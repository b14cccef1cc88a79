-- Each public operation's contract admits one outcome.
-- Assumes nothing.
use Rattle.std.specs.Prelude.{◌≡◌, List, ℕ}
use Rattle.answer.specs.Outcome.{One, Lent}
use Rattle.answer.specs.Outcome.Properties.{is_one, leaves_one}
use Rattle.commands.specs.Command.{command_of}
use Rattle.commands.specs.Kept.{Keeps}

-- `Command::decode`
pub decode_one_outcome : (bytes : List ℕ) → One (λ r. r ≡ command_of bytes)
decode_one_outcome bytes = is_one _

-- `keep`
pub keep_one_outcome : (bytes : List ℕ) (from to : ℕ) → One (λ (o : Lent ℕ). Keeps bytes from to o.result o.buffer)
keep_one_outcome bytes from to = leaves_one _ _
