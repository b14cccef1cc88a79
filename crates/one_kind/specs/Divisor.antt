-- Document 02 (vi): "the greatest common divisor of all separations, found by the usual repeated remainder".
-- Assumes nothing.
use Rattle.std.specs.Prelude.{ℕ, zero, suc, ◌%◌, cond, eqb}
pub mod Properties

-- "the usual repeated remainder", taken at most so many times
unfoldable pub repeated : ℕ → ℕ → ℕ → ℕ
repeated zero a b = a
repeated (suc times) a b = cond (eqb b 0) a (repeated times b (a % b))

-- "the greatest common divisor" of two: each remainder is less than the one before, so b times are enough
unfoldable pub divisor : ℕ → ℕ → ℕ
divisor a b = repeated b a b

-- "of all separations": of f x for x = 0..n-1, one after another
unfoldable pub divisor_to : ℕ → (ℕ → ℕ) → ℕ
divisor_to zero f = 0
divisor_to (suc n) f = divisor (divisor_to n f) (f n)
