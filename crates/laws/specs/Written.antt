-- A list with f k stored at each k below n, the rest kept.
-- Assumes nothing.
use Rattle.std.specs.Prelude.{ℕ, zero, suc, List, set}
pub mod Properties

unfoldable pub written : {A : Type 0} → ℕ → (ℕ → A) → List A → List A
written zero f l = l
written (suc n) f l = set (written n f l) n (f n)
