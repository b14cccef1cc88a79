-- Laws of `sum_to`.
-- Assumes nothing.
use Rattle.std.specs.Prelude.{◌≡◌, refl, ℕ, zero, suc, ◌+◌, ◌*◌, ◌≤◌, ◌<◌}
use Rattle.std.proofs.Common.{ap₂, add-zero, add-suc, suc-mul, add-one, arith}
use Rattle.laws.specs.Loops.{stop}
use Rattle.laws.specs.Sum.{sum_to}

-- ---- the steps of a loop that adds up

pub sum_none : (f : ℕ → ℕ) → 0 ≡ sum_to 0 f
unfolding sum_to
sum_none f = refl

pub sum_suc : (n : ℕ) (f : ℕ → ℕ) → sum_to (suc n) f ≡ sum_to n f + f n
unfolding sum_to
sum_suc n f = refl

pub sum_more : (n : ℕ) (f : ℕ → ℕ) → sum_to (n + 1) f ≡ sum_to n f + f n
sum_more n f = rw add-one (sum_suc n f)

pub sum_again : (s i : ℕ) (f : ℕ → ℕ) (v : ℕ) → s ≡ sum_to i f → v ≡ f i → s + v ≡ sum_to (i + 1) f
sum_again s i f v p q = rw (sum_more i f, p, q)

pub sum_stop : (s i n : ℕ) (f : ℕ → ℕ) → s ≡ sum_to i f → i ≤ n → n ≤ i → s ≡ sum_to n f
sum_stop s i n f = stop (λ (k : ℕ). sum_to k f) s i n

-- ---- order and equality, term by term

pub sum_le : (n : ℕ) (f g : ℕ → ℕ) → ((x : ℕ) → x < n → f x ≤ g x) → sum_to n f ≤ sum_to n g
unfolding sum_to
sum_le zero f g h = omega arith
sum_le (suc n) f g h = omega (arith, sum_le n f g (λ x l. h x (omega arith)), h n (omega arith))

pub sum_cong : (n : ℕ) (f g : ℕ → ℕ) → ((x : ℕ) → x < n → f x ≡ g x) → sum_to n f ≡ sum_to n g
unfolding sum_to
sum_cong zero f g h = refl
sum_cong (suc n) f g h = ap₂ ◌+◌ (sum_cong n f g (λ x l. h x (omega arith))) (h n (omega arith))

pub sum_bound : (n m : ℕ) (f : ℕ → ℕ) → ((x : ℕ) → x < n → f x ≤ m) → sum_to n f ≤ n * m
unfolding sum_to
sum_bound zero m f h = omega arith
sum_bound (suc n) m f h = rw suc-mul (omega (arith, sum_bound n m f (λ x l. h x (omega arith)), h n (omega arith)))

-- ---- sums of sums, and sums cut in two

pub sum_add : (n : ℕ) (f g : ℕ → ℕ) → sum_to n (λ x. f x + g x) ≡ sum_to n f + sum_to n g
unfolding sum_to
sum_add zero f g = refl
sum_add (suc n) f g = omega (arith, sum_add n f g)

pub sum_split : (m n : ℕ) (f : ℕ → ℕ) → sum_to (m + n) f ≡ sum_to m f + sum_to n (λ x. f (m + x))
unfolding sum_to
sum_split m zero f = rw (add-zero m, add-zero (sum_to m f)) refl
sum_split m (suc n) f = rw (add-suc m n) (omega (arith, sum_split m n f))

pub sum_zero : (n : ℕ) (f : ℕ → ℕ) → ((x : ℕ) → x < n → f x ≡ 0) → sum_to n f ≡ 0
unfolding sum_to
sum_zero zero f h = refl
sum_zero (suc n) f h = omega (arith, sum_zero n f (λ x l. h x (omega arith)), h n (omega arith))
