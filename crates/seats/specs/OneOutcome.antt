-- Each public operation's contract admits one outcome.
-- Assumes nothing.
use Rattle.std.specs.Prelude.{◌≡◌, List, ℕ}
use Rattle.answer.specs.Outcome.{One}
use Rattle.answer.specs.Outcome.Properties.{is_one}
use Rattle.seats.specs.Seats.{seats_by}

-- `seats`
pub seats_one_outcome : (works until low end : List ℕ) (kinds : ℕ) → One (λ r. r ≡ seats_by works until low end kinds)
seats_one_outcome works until low end kinds = is_one _
