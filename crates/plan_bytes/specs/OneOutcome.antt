-- Each public operation's contract admits one outcome.
-- Assumes nothing.
use Rattle.std.specs.Prelude.{◌≡◌}
use Rattle.answer.specs.Outcome.{One}
use Rattle.answer.specs.Outcome.Properties.{is_one}
use Rattle.plan.specs.declared.Plan.{Plan}
use Rattle.plan_bytes.specs.Parts.{size}

-- `size`
pub size_one_outcome : (plan : Plan) → One (λ r. r ≡ size plan)
size_one_outcome plan = is_one _
