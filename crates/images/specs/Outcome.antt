-- An outcome: the answer as one number, and what the lent buffer holds then.
-- Assumes nothing.
use Rattle.std.specs.Prelude.{ℕ, List}
use Rattle.answer.specs.declared.Answer.{Answer}
use Rattle.answer.specs.Answer.{if_good}
use Rattle.answer.specs.Word.{told}
use Rattle.answer.specs.Outcome.{Leaves}
pub mod Properties

-- the answer with its count, "0 on a refusal"; "Lent buffers keep every byte on a refusal"
abbrev pub Outcome : Answer → ℕ → List ℕ → List ℕ → ℕ → List ℕ → Type 0
Outcome a count new old = Leaves (told a (if_good a count 0)) (if_good a new old)
