-- Document 01, "Plan bytes" and "Numbers given back when we say no": what writing plan bytes answers, and what the lent buffer holds then.
-- Assumes nothing.
use Rattle.std.specs.Prelude.{ℕ, List, ◌++◌, ltb, length, drop}
use Rattle.plan.specs.declared.Plan.{Plan}
use Rattle.answer.specs.declared.Answer.{Answer}
use Rattle.answer.specs.Answer.{bare, refuse, ◌and_then◌, if_good}
use Rattle.answer.specs.Outcome.{Leaves}
use Rattle.plan.specs.Order.{checked}
use Rattle.answer.specs.declared.Written.{Written}
use Rattle.plan_bytes.specs.Parts.{encoded, size}
pub mod Properties

-- "Writing plan bytes .. adds 9 and not 8"
unfoldable pub write_answer : Plan → List ℕ → Answer
write_answer p out = checked p and_then refuse (ltb (length out) (size p)) (bare 9)

-- "Writers answer with the count of bytes written, 0 on a refusal"
abbrev pub counted : Answer → ℕ → Written
counted a n = record { answer = a; count = if_good a n 0 }

-- what writing answers, and what the buffer `out` holds then: "Lent buffers keep every byte on a refusal. On success, bytes past
-- those needed keep their value"
abbrev pub Writes : Plan → List ℕ → Written → List ℕ → Type 0
Writes p out = Leaves (counted (write_answer p out) (size p)) (if_good (write_answer p out) (encoded p ++ drop (size p) out) out)
