-- Each public operation's contract admits one outcome.
-- Assumes nothing.
use Rattle.std.specs.Prelude.{◌≡◌, ℕ}
use Rattle.answer.specs.Outcome.{One}
use Rattle.answer.specs.Outcome.Properties.{is_one}
use Rattle.plan.specs.declared.Plan.{Plan}
use Rattle.plan.specs.Record.{no_plan}
use Rattle.plan.specs.Order.{sizes, checked}
use Rattle.plan.specs.Open.{checked_open}

-- `Plan::empty`
pub empty_one_outcome : One (λ r. r ≡ no_plan)
empty_one_outcome = is_one _

-- `Plan::sizes`
pub sizes_one_outcome : (self : Plan) → One (λ r. r ≡ sizes self)
sizes_one_outcome self = is_one _

-- `Plan::check`
pub check_one_outcome : (self : Plan) → One (λ r. r ≡ checked self)
check_one_outcome self = is_one _

-- `Plan::check_open`
pub check_open_one_outcome : (self : Plan) (project : ℕ) → One (λ r. r ≡ checked_open self project)
check_open_one_outcome self project = is_one _
