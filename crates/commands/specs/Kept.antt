-- A part of a buffer moved to its front, as what is left of the input is.
-- Assumes nothing.
use Rattle.std.specs.Prelude.{ℕ, ◌-◌, Bool, cond, ◌&&◌, List, ◌++◌, leb, length, take, drop}
use Rattle.answer.specs.Outcome.{Leaves}
pub mod Properties

-- whether from..to is a part of it
unfoldable pub within : List ℕ → ℕ → ℕ → Bool
within bytes from to = leb from to && leb to (length bytes)

-- the part in front, and what stood past it there is kept
unfoldable pub in_front : List ℕ → ℕ → ℕ → List ℕ
in_front bytes from to = take (to - from) (drop from bytes) ++ drop (to - from) bytes

-- how many bytes were moved, and what the buffer holds then; where there is no such part, none
abbrev pub Keeps : List ℕ → ℕ → ℕ → ℕ → List ℕ → Type 0
Keeps bytes from to = Leaves (cond (within bytes from to) (to - from) 0) (cond (within bytes from to) (in_front bytes from to) bytes)
