-- Each public operation's contract admits one outcome.
-- Assumes nothing.
use Rattle.std.specs.Prelude.{◌≡◌, ℕ}
use Rattle.answer.specs.Outcome.{One}
use Rattle.answer.specs.Outcome.Properties.{is_one}
use Rattle.plan.specs.declared.Plan.{Plan}
use Rattle.workload.specs.Workload.{workload}

-- `workload`
pub workload_one_outcome : (plan : Plan) (kind : ℕ) → One (λ r. r ≡ workload plan kind)
workload_one_outcome plan kind = is_one _
