-- Each public operation's contract admits one outcome.
-- Assumes nothing.
use Rattle.std.specs.Prelude.{◌≡◌, List, ℕ, min, length}
use Rattle.answer.specs.Outcome.{One, Lent}
use Rattle.answer.specs.Outcome.Properties.{is_one, leaves_one}
use Rattle.codec.specs.Bytes.{number_to, bytes_of, Fills}

-- `number`
pub number_one_outcome : (bytes : List ℕ) (count : ℕ) → One (λ r. r ≡ number_to (min (min count 8) (length bytes)) bytes)
number_one_outcome bytes count = is_one (number_to (min (min count 8) (length bytes)) bytes)

-- `put_number`
pub put_number_one_outcome : (number : ℕ) (out : List ℕ) → One (λ (o : Lent ℕ). Fills number out o.result o.buffer)
put_number_one_outcome number out = leaves_one (length out) (bytes_of (length out) number)
