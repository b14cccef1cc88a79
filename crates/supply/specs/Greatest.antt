-- The greatest c in 1..n at which a test holds, or 0 where there is none.
-- Assumes nothing.
use Rattle.std.specs.Prelude.{ℕ, zero, suc, Bool, cond}
pub mod Properties

unfoldable pub greatest_to : ℕ → (ℕ → Bool) → ℕ
greatest_to zero f = 0
greatest_to (suc n) f = cond (f (suc n)) (suc n) (greatest_to n f)
