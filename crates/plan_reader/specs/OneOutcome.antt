-- Each public operation's contract admits one outcome.
-- Assumes nothing.
use Rattle.std.specs.Prelude.{◌≡◌, List, ℕ}
use Rattle.answer.specs.Outcome.{One}
use Rattle.answer.specs.Outcome.Properties.{is_one}
use Rattle.plan_bytes.specs.Reading.{read_of, standing_in}

-- `read`
pub read_one_outcome : (bytes : List ℕ) → One (λ r. r ≡ read_of bytes)
read_one_outcome bytes = is_one _

-- `standing`
pub standing_one_outcome : (bytes : List ℕ) → One (λ r. r ≡ standing_in bytes)
standing_one_outcome bytes = is_one _
