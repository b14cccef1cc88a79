-- Each public operation's contract admits one outcome.
-- Assumes nothing.
use Rattle.std.specs.Prelude.{◌≡◌, List, ℕ}
use Rattle.answer.specs.Outcome.{One}
use Rattle.answer.specs.Outcome.Properties.{is_one}
use Rattle.supply.specs.Workload.{workload_part}
use Rattle.supply.specs.Fit.{fit_of, supplied_of}

-- `workload_part`
pub workload_part_one_outcome : (separation deadline length t : ℕ) → One (λ r. r ≡ workload_part separation deadline length t)
workload_part_one_outcome separation deadline length t = is_one _

-- `least_fit`
pub least_fit_one_outcome : (held : List ℕ) (frame ceiling length workload deadline : ℕ) →
    One (λ r. r ≡ fit_of frame held ceiling length workload deadline)
least_fit_one_outcome held frame ceiling length workload deadline = is_one _

-- `supply`
pub supply_one_outcome : (held : List ℕ) (frame width t : ℕ) → One (λ r. r ≡ supplied_of frame held width t)
supply_one_outcome held frame width t = is_one _
