-- Each exported function's contract admits one outcome: the number it answers, and what each lent buffer holds then.
-- Assumes nothing.
use Rattle.std.specs.Prelude.{◌≡◌, List, ℕ}
use Rattle.answer.specs.Outcome.{One, Lent}
use Rattle.answer.specs.Outcome.Properties.{is_one, leaves_one}
use Rattle.answer.specs.Word.{told}
use Rattle.plan_calls.specs.Exports.{check_answer, Reads, WritesBytes, WritesSlots}

-- `parchbeetle_check`
pub parchbeetle_check_one_outcome : (plan : List ℕ) → One (λ r. r ≡ told (check_answer plan) 0)
parchbeetle_check_one_outcome plan = is_one _

-- `parchbeetle_read`
pub parchbeetle_read_one_outcome : (bytes plan : List ℕ) → One (λ (o : Lent ℕ). Reads bytes plan o.result o.buffer)
parchbeetle_read_one_outcome bytes plan = leaves_one _ _

-- `parchbeetle_write`
pub parchbeetle_write_one_outcome : (plan out : List ℕ) → One (λ (o : Lent ℕ). WritesBytes plan out o.result o.buffer)
parchbeetle_write_one_outcome plan out = leaves_one _ _

-- `parchbeetle_slot_table`
pub parchbeetle_slot_table_one_outcome : (plan out : List ℕ) → One (λ (o : Lent ℕ). WritesSlots plan out o.result o.buffer)
parchbeetle_slot_table_one_outcome plan out = leaves_one _ _
