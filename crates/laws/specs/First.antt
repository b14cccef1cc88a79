-- The least k in 1..n at which a test holds, or 0 where there is none.
-- Assumes nothing.
use Rattle.std.specs.Prelude.{ℕ, zero, suc, Bool, cond, eqb}
pub mod Properties

unfoldable pub first_to : ℕ → (ℕ → Bool) → ℕ
first_to zero f = 0
first_to (suc n) f = cond (eqb (first_to n f) 0) (cond (f (suc n)) (suc n) 0) (first_to n f)
