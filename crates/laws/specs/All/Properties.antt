-- Laws of `all_to`.
-- Assumes nothing.
use Rattle.std.specs.Prelude.{◌≡◌, refl, Bool, true, false, ◌&&◌, ℕ, zero, suc, ◌+◌, ◌≤◌, ◌<◌}
use Rattle.std.proofs.Common.{sym, ap, ◌∙◌, add-one, arith}
use Rattle.std.proofs.Math.Decide.{dec_lt}
use Rattle.laws.specs.Loops.{stop}
use Rattle.laws.specs.All.{all_to}
use Rattle.laws.specs.Tests.{and_left, and_right}

-- ---- the steps of a loop that tests them all

pub all_none : (f : ℕ → Bool) → true ≡ all_to 0 f
unfolding all_to
all_none f = refl

pub all_more : (i : ℕ) (f : ℕ → Bool) → true ≡ all_to i f → f i ≡ true → true ≡ all_to (i + 1) f
unfolding all_to
all_more i f e t = rw (add-one i, ← e, t)

pub all_stop : (b : Bool) (i n : ℕ) (f : ℕ → Bool) → b ≡ all_to i f → i ≤ n → n ≤ i → b ≡ all_to n f
all_stop b i n f = stop (λ (k : ℕ). all_to k f) b i n

-- the whole answer so far, carried along
pub all_again : (b r : Bool) (i : ℕ) (f : ℕ → Bool) → b ≡ all_to i f → r ≡ (b && f i) → r ≡ all_to (i + 1) f
unfolding all_to
all_again b r i f p q = rw (add-one i) (q ∙ rw p)

-- one that fails settles it
pub all_fails : (n i : ℕ) (f : ℕ → Bool) → f i ≡ false → i < n → false ≡ all_to n f
unfolding all_to
all_fails zero i f t l = absurd (omega arith)
all_fails (suc n) i f t l = elim (dec_lt i n) [ yes q ↦ rw (← (all_fails n i f t q)) | no q ↦ here (omega arith) (all_to n f) ]
  where
    here : i ≡ n → (b : Bool) → false ≡ (b && f n)
    here e true = sym t ∙ ap f e
    here e false = refl

-- ---- what it says

pub all_at : (n : ℕ) (f : ℕ → Bool) → all_to n f ≡ true → (i : ℕ) → i < n → f i ≡ true
unfolding all_to
all_at zero f e i l = absurd (omega arith)
all_at (suc n) f e i l = elim (dec_lt i n) [ yes q ↦ all_at n f (and_left (all_to n f) (f n) e) i q | no q ↦ here (omega arith) ]
  where
    here : i ≡ n → f i ≡ true
    here q = ap f q ∙ and_right (all_to n f) (f n) e

pub all_of : (n : ℕ) (f : ℕ → Bool) → ((i : ℕ) → i < n → f i ≡ true) → all_to n f ≡ true
unfolding all_to
all_of zero f h = refl
all_of (suc n) f h = rw (all_of n f (λ i l. h i (omega arith)), h n (omega arith))
