-- The end of a loop.
-- Assumes nothing.
use Rattle.std.specs.Prelude.{◌≡◌, ℕ, ◌≤◌}
use Rattle.std.proofs.Common.{ap, ◌∙◌, arith}

-- what was built up to i is built up to n, where i is neither below n nor above it
pub stop : {A : Type 0} (f : ℕ → A) (r : A) (i n : ℕ) → r ≡ f i → i ≤ n → n ≤ i → r ≡ f n
stop f r i n p a b = let e : i ≡ n = omega arith in p ∙ ap f e
