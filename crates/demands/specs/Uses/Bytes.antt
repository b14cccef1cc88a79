-- Numbers below 256, seen by computing.
-- Assumes nothing.
use Rattle.std.specs.Prelude.{◌≡◌, Bool, true, ◌&&◌, List, [], ◌∷◌, ℕ, zero, suc, ltb}
use Rattle.std.proofs.Common.{arith, ltb-true}
use Rattle.laws.specs.Tests.{and_left, and_right}
use Rattle.codec.specs.Bytes.{AreBytes}

abbrev pub all_small : List ℕ → Bool
all_small [] = true
all_small (x ∷ l) = ltb x 256 && all_small l

pub are_bytes : (l : List ℕ) → all_small l ≡ true → AreBytes l
are_bytes [] e i = omega arith
are_bytes (x ∷ l) e zero = ltb-true x 256 (and_left (ltb x 256) (all_small l) e)
are_bytes (x ∷ l) e (suc i) = are_bytes l (and_right (ltb x 256) (all_small l) e) i
