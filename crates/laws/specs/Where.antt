-- The sum of f x over those x below n that pass a test.
-- Assumes nothing.
use Rattle.std.specs.Prelude.{ℕ, Bool, cond}
use Rattle.laws.specs.Sum.{sum_to}
pub mod Properties

unfoldable pub sum_where : ℕ → (ℕ → Bool) → (ℕ → ℕ) → ℕ
sum_where n p f = sum_to n (λ x. cond (p x) (f x) 0)
