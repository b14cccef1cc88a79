-- Document 01, "Starting fresh", and the refusal 8.
-- Assumes nothing.
use Rattle.plan.specs.declared.Plan.{Plan}
use Rattle.answer.specs.declared.Answer.{Answer}
use Rattle.answer.specs.Answer.{◌and_then◌}
use Rattle.plan.specs.Order.{checked}
use Rattle.verdict.specs.Verdict.{admitted}
use Rattle.rack.specs.declared.Next.{Next}
use Rattle.rack.specs.State.{fresh_of, no_state, next_of}
pub mod Properties

-- "Starting fresh and the verdict add 8" to the record order
unfoldable pub start_answer : Plan → Answer
start_answer p = checked p and_then admitted p

-- what a fresh start answers and hands back: "a refused fresh start gives an all-zero state"
unfoldable pub start_of : Plan → Next
start_of p = next_of (start_answer p) (fresh_of p) no_state
