-- Each public operation's contract admits one outcome.
-- Assumes nothing.
use Rattle.std.specs.Prelude.{List, ℕ}
use Rattle.answer.specs.Outcome.{One, Lent}
use Rattle.answer.specs.Outcome.Properties.{leaves_one}
use Rattle.plan.specs.declared.Plan.{Plan}
use Rattle.answer.specs.declared.Written.{Written}
use Rattle.plan_bytes.specs.Writing.{Writes}

-- `write`
pub write_one_outcome : (plan : Plan) (out : List ℕ) → One (λ (o : Lent Written). Writes plan out o.result o.buffer)
write_one_outcome plan out = leaves_one _ _
