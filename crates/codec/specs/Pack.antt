-- Document 01, "Plan bytes": "Bit-packed, most significant bit first, no gaps". Fields of a list of widths as one number, and back.
-- Assumes nothing.
use Rattle.std.specs.Prelude.{ℕ, ◌+◌, ◌*◌, ◌/◌, ◌%◌, ◌^◌, ◌<◌, List, [], ◌∷◌}
pub mod Properties

-- the bits that fields of these widths take
abbrev pub bits : List ℕ → ℕ
bits [] = 0
bits (w ∷ ws) = w + bits ws

-- "most significant bit first, no gaps": the fields' values as one number
unfoldable pub pack : List ℕ → List ℕ → ℕ
pack [] vs = 0
pack (w ∷ ws) [] = 0
pack (w ∷ ws) (v ∷ vs) = v * 2 ^ bits ws + pack ws vs

-- "most significant bit first, no gaps": the number's fields
unfoldable pub unpack : List ℕ → ℕ → List ℕ
unpack [] n = []
unpack (w ∷ ws) n = n / 2 ^ bits ws % 2 ^ w ∷ unpack ws n

-- a value for each width, and each within it
abbrev pub Fitting : List ℕ → List ℕ → Type 0
Fitting [] [] = Unit {0}
Fitting [] (v ∷ vs) = ⊥
Fitting (w ∷ ws) [] = ⊥
Fitting (w ∷ ws) (v ∷ vs) = (v < 2 ^ w) × Fitting ws vs
