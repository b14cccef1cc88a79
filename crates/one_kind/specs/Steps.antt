-- What the code asks on its way to the plan, and its last stage.
-- Assumes nothing.
use Rattle.std.specs.Prelude.{ℕ, ◌*◌, ◌≤◌, ◌≡◌, List, length}
use Rattle.answer.specs.declared.Answer.{Answer}
use Rattle.plan.specs.Record.{no_plan}
use Rattle.one_kind.specs.declared.Built.{Built}
use Rattle.one_kind.specs.Wanted.{kinds_in, separation_in, length_in}
use Rattle.one_kind.specs.Built.{frame_for, finished_answer, built_with, InLimits}
pub mod Properties

-- the kinds of a list are within the limits, and all in its bytes
abbrev pub Listed : ℕ → List ℕ → ℕ → Type 0
Listed cards list kinds = (InLimits cards kinds (separation_in list) (length_in list)) × (kinds ≡ kinds_in list)

-- its divisor, which does not exceed 64
abbrev pub Framed : List ℕ → ℕ → ℕ → Type 0
Framed list kinds frame = (frame ≡ frame_for kinds (separation_in list)) × (frame ≤ 64)

-- a refusal comes with the all-zero plan
abbrev pub refused : Answer → Built
refused a = record { answer = a; plan = no_plan }

-- 19, 7, or the plan
abbrev pub finished_of : ℕ → List ℕ → ℕ → Built
finished_of cards list kinds =
    let T = separation_in list in let C = length_in list in built_with cards kinds T C (finished_answer cards kinds T C)
