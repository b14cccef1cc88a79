-- Ranks without sorting.
-- Assumes nothing.
use Rattle.std.specs.Prelude.{ℕ, ◌≡◌, Bool, true, false, ◌&&◌, ◌||◌, ltb, eqb}
use Rattle.laws.specs.Count.{count_to}
pub mod Properties

-- of the members below n, how many are above i
unfoldable pub rank_in : ℕ → (ℕ → Bool) → (ℕ → ℕ → Bool) → ℕ → ℕ
rank_in n member above i = count_to n (λ j. member j && above j i)

-- whether i is one of the first h of them
unfoldable pub first_in : ℕ → (ℕ → Bool) → (ℕ → ℕ → Bool) → ℕ → ℕ → Bool
first_in n member above h i = member i && ltb (rank_in n member above i) h

-- j is above i by a lower d, or by the same d and a lower number
unfoldable pub sooner : (ℕ → ℕ) → ℕ → ℕ → Bool
sooner d j i = ltb (d j) (d i) || (eqb (d j) (d i) && ltb j i)

-- an order: nothing is above itself, what is above is so onward, and of two one is above the other
pub record Order (above : ℕ → ℕ → Bool) : Type 0 where
  pub never_itself : (i : ℕ) → above i i ≡ false
  pub onward : (i j k : ℕ) → above i j ≡ true → above j k ≡ true → above i k ≡ true
  pub total : (i j : ℕ) → above i j ≡ false → above j i ≡ false → i ≡ j
