-- What each exported function answers, and what the lent buffers hold then.
-- Assumes nothing.
use Rattle.std.specs.Prelude.{ℕ, ◌-◌, List, ◌++◌, length, drop}
use Rattle.answer.specs.declared.Answer.{Answer}
use Rattle.answer.specs.Answer.{◌and_then◌}
use Rattle.plan.specs.Order.{checked}
use Rattle.plan_bytes.specs.Parts.{encoded, size}
use Rattle.plan_bytes.specs.Reading.{read_of}
use Rattle.plan_bytes.specs.Writing.{write_answer}
use Rattle.layout.specs.Table.{table_answer, table_length, table_over}
use Rattle.images.specs.Image.{plan_size, plan_from, plan_image}
use Rattle.images.specs.Lent.{room}
use Rattle.images.specs.Outcome.{Outcome}
pub mod Properties

-- `parchbeetle_check`: 9 for the image, then the record order
unfoldable pub check_answer : List ℕ → Answer
check_answer plan = room plan plan_size and_then checked (plan_from plan)

-- `parchbeetle_read`: the order of reading, then 9 for the lent image
unfoldable pub reads_answer : List ℕ → List ℕ → Answer
reads_answer bytes plan = (read_of bytes).answer and_then room plan plan_size

-- the plan that was read as an image, and "how many bytes it took"
abbrev pub Reads : List ℕ → List ℕ → ℕ → List ℕ → Type 0
Reads bytes plan r after =
    Outcome (reads_answer bytes plan) (read_of bytes).taken (plan_image (read_of bytes).plan ++ drop plan_size plan) plan r after

-- `parchbeetle_write`: 9 for the image, then as writing a plan answers
unfoldable pub writes_answer : List ℕ → List ℕ → Answer
writes_answer plan out = room plan plan_size and_then write_answer (plan_from plan) out

-- the plan's bytes, and their count
abbrev pub WritesBytes : List ℕ → List ℕ → ℕ → List ℕ → Type 0
WritesBytes plan out r after =
    Outcome (writes_answer plan out) (size (plan_from plan)) (encoded (plan_from plan) ++ drop (size (plan_from plan)) out) out r after

-- `parchbeetle_slot_table`: 9 for the image, then as writing a slot table answers
unfoldable pub slots_answer : List ℕ → List ℕ → Answer
slots_answer plan out = room plan plan_size and_then table_answer (plan_from plan) (length out)

-- the slot table, and the count of its bytes
abbrev pub WritesSlots : List ℕ → List ℕ → ℕ → List ℕ → Type 0
WritesSlots plan out r after = Outcome (slots_answer plan out) (table_length (plan_from plan)) (table_over (plan_from plan) out) out r after
