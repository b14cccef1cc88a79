-- A row of places of one width: parts of a list, one after the other, and the same stored into a list.
-- Assumes nothing.
use Rattle.std.specs.Prelude.{ℕ, zero, suc, ◌+◌, ◌*◌, List, [], ◌++◌}
use Rattle.std.proofs.lemmas.List.Edits.{sets}
pub mod Properties

-- the parts 0..n-1, one after the other
unfoldable pub parts_to : ℕ → (ℕ → List ℕ) → List ℕ
parts_to zero f = []
parts_to (suc n) f = parts_to n f ++ f n

-- the parts 0..n-1, each `width` bytes, stored from `start` on
unfoldable pub put_to : ℕ → (ℕ → List ℕ) → ℕ → ℕ → List ℕ → List ℕ
put_to zero f start width l = l
put_to (suc n) f start width l = sets (put_to n f start width l) (start + width * n) (f n)
