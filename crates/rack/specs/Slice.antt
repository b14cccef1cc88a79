-- Document 01, "Slice", in one call: the row that a state shows goes into a lent row, and the state that follows is handed back. No
-- operation is this: it is what showing and then advancing is held to (document 02 (iv), "equals the old call").
-- Assumes nothing.
use Rattle.std.specs.Prelude.{ℕ, List, length}
use Rattle.answer.specs.declared.Answer.{Answer}
use Rattle.answer.specs.Answer.{◌and_then◌, if_good}
use Rattle.answer.specs.Outcome.{Leaves}
use Rattle.rack.specs.declared.State.{State}
use Rattle.rack.specs.declared.Next.{Next}
use Rattle.rack.specs.State.{next_of}
use Rattle.rack.specs.Form.{ready}
use Rattle.rack.specs.Row.{row_over}
use Rattle.rack.specs.Advance.{advanced}
use Rattle.rack.specs.Show.{room_for}
pub mod Properties

-- "Slice: the record order, 10, 9", with "16, directly after 10"
unfoldable pub slice_answer : State → ℕ → Answer
slice_answer s room = ready s and_then room_for s room

-- what a slice answers and hands back
unfoldable pub slice_of : State → ℕ → Next
slice_of s room = next_of (slice_answer s room) (advanced s) s

-- "Lent buffers keep every byte on a refusal. On success, bytes past those needed keep their value"
unfoldable pub buffer_after : State → List ℕ → List ℕ
buffer_after s bytes = if_good (slice_answer s (length bytes)) (row_over s bytes) bytes

-- a slice's whole outcome: what it hands back, and the lent row as it leaves it
abbrev pub Sliced : State → List ℕ → Next → List ℕ → Type 0
Sliced s bytes next after = Leaves (slice_of s (length bytes)) (buffer_after s bytes) next after
