-- Each public operation's contract admits one outcome.
-- Assumes nothing.
use Rattle.std.specs.Prelude.{◌≡◌, List, ℕ}
use Rattle.answer.specs.Outcome.{One}
use Rattle.answer.specs.Outcome.Properties.{is_one}
use Rattle.one_kind.specs.Built.{built_of}

-- `build`
pub build_one_outcome : (cards : ℕ) (list : List ℕ) → One (λ r. r ≡ built_of cards list)
build_one_outcome cards list = is_one _
