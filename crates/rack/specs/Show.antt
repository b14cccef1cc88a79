-- Document 02 (iv), "one shows the row and keeps the state", and the refusal 9: the row that a state shows goes into a lent row.
-- Assumes nothing.
use Rattle.std.specs.Prelude.{ℕ, ◌≤◌, List, ltb, length}
use Rattle.answer.specs.declared.Answer.{Answer}
use Rattle.answer.specs.Answer.{bare, refuse, ◌and_then◌, if_good}
use Rattle.answer.specs.Outcome.{Leaves}
use Rattle.rack.specs.declared.State.{State}
use Rattle.rack.specs.Form.{ready, Ready}
use Rattle.rack.specs.Row.{row_over}

-- "9: buffer shorter than needed", for a lent row of that many bytes
unfoldable pub room_for : State → ℕ → Answer
room_for s room = refuse (ltb room s.plan.cards) (bare 9)

-- "showing keeps the slice order with 9", and 11 is "retired": the record order, 10, 16, 9
unfoldable pub show_answer : State → ℕ → Answer
show_answer s room = ready s and_then room_for s room

-- "Lent buffers keep every byte on a refusal. On success, bytes past those needed keep their value"
unfoldable pub buffer_shown : State → List ℕ → List ℕ
buffer_shown s bytes = if_good (show_answer s (length bytes)) (row_over s bytes) bytes

-- a showing's whole outcome: its answer, and the lent row as it leaves it
abbrev pub Shows : State → List ℕ → Answer → List ℕ → Type 0
Shows s bytes answer after = Leaves (show_answer s (length bytes)) (buffer_shown s bytes) answer after

-- ---- what a good answer says

-- none of the record order, 10, 16 and 9
pub record Showable (s : State) (room : ℕ) : Type 0 where
  pub ready : Ready s
  pub enough : s.plan.cards ≤ room
