-- Each public operation's contract admits one outcome.
-- Assumes nothing.
use Rattle.std.specs.Prelude.{◌≡◌, ℕ}
use Rattle.answer.specs.Outcome.{One}
use Rattle.answer.specs.Outcome.Properties.{is_one}
use Rattle.plan.specs.declared.Plan.{Plan}
use Rattle.smallest_budget.specs.Smallest.{smallest_of}

-- `smallest_budget`
pub smallest_budget_one_outcome : (plan : Plan) (project : ℕ) → One (λ r. r ≡ smallest_of plan project)
smallest_budget_one_outcome plan project = is_one _
