-- The least, over a = 0..n-1, of f a, and the first a that attains it. Over no a both are 0.
-- Assumes nothing.
use Rattle.std.specs.Prelude.{ℕ, zero, suc, min, cond, ltb}
pub mod Properties

unfoldable pub least_to : ℕ → (ℕ → ℕ) → ℕ
least_to zero f = 0
least_to (suc zero) f = f 0
least_to (suc (suc n)) f = min (least_to (suc n) f) (f (suc n))

-- the first a at which f a is that least
unfoldable pub least_place : ℕ → (ℕ → ℕ) → ℕ
least_place zero f = 0
least_place (suc n) f = cond (ltb (f n) (least_to n f)) n (least_place n f)
