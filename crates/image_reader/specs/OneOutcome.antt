-- Each public operation's contract admits one outcome.
-- Assumes nothing.
use Rattle.std.specs.Prelude.{◌≡◌, List, ℕ}
use Rattle.answer.specs.Outcome.{One}
use Rattle.answer.specs.Outcome.Properties.{is_one}
use Rattle.images.specs.Lent.{plan_found, state_found}

-- `plan_of`
pub plan_of_one_outcome : (image : List ℕ) → One (λ r. r ≡ plan_found image)
plan_of_one_outcome image = is_one (plan_found image)

-- `state_of`
pub state_of_one_outcome : (image : List ℕ) → One (λ r. r ≡ state_found image)
state_of_one_outcome image = is_one (state_found image)
