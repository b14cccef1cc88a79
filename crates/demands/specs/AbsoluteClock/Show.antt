-- Document 02 (iv), "one shows the row and keeps the state", with the refusal 11.
-- Assumes nothing.
use Rattle.std.specs.Prelude.{ℕ, List, ltb, length}
use Rattle.answer.specs.declared.Answer.{Answer}
use Rattle.answer.specs.Answer.{bare, refuse, ◌and_then◌, if_good}
use Rattle.demands.specs.AbsoluteClock.State.{State}
use Rattle.demands.specs.AbsoluteClock.Form.{ready}
use Rattle.demands.specs.AbsoluteClock.Row.{row_over}
use Rattle.demands.specs.AbsoluteClock.Advance.{time_left}

-- "showing keeps the slice order with 9 and 11": the record order, 10, 16, 9, 11
unfoldable pub show_answer : State → ℕ → Answer
show_answer s room = ready s and_then (refuse (ltb room s.plan.cards) (bare 9) and_then time_left s)

-- "Lent buffers keep every byte on a refusal. On success, bytes past those needed keep their value"
unfoldable pub buffer_shown : State → List ℕ → List ℕ
buffer_shown s bytes = if_good (show_answer s (length bytes)) (row_over s bytes) bytes
