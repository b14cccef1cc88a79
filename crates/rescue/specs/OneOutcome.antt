-- Each public operation's contract admits one outcome.
-- Assumes nothing.
use Rattle.std.specs.Prelude.{List, ℕ}
use Rattle.answer.specs.Outcome.{One, Lent}
use Rattle.answer.specs.Outcome.Properties.{leaves_one}
use Rattle.rescue.specs.declared.Rescued.{Rescued}
use Rattle.rescue.specs.Rescue.{Rescues}

-- `rescue`
pub rescue_one_outcome : (bytes list : List ℕ) → One (λ (o : Lent Rescued). Rescues bytes list o.result o.buffer)
rescue_one_outcome bytes list = leaves_one _ _
