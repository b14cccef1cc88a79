-- Each public operation's contract admits one outcome.
-- Assumes nothing.
use Rattle.std.specs.Prelude.{◌≡◌, List, ℕ}
use Rattle.answer.specs.Outcome.{One, Lent}
use Rattle.answer.specs.Outcome.Properties.{is_one, leaves_one}
use Rattle.plan.specs.declared.Plan.{Plan}
use Rattle.answer.specs.declared.Written.{Written}
use Rattle.layout.specs.Cards.{cards_below}
use Rattle.layout.specs.Table.{Tabled}

-- `cards_below`
pub cards_below_one_outcome : (cell frame slice : ℕ) → One (λ r. r ≡ cards_below frame cell slice)
cards_below_one_outcome cell frame slice = is_one _

-- `slot_table`
pub slot_table_one_outcome : (plan : Plan) (out : List ℕ) → One (λ (o : Lent Written). Tabled plan out o.result o.buffer)
slot_table_one_outcome plan out = leaves_one _ _
