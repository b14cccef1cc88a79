-- What only grows: the least of what grows, a count over more places, and the first place at which a test holds that stays.
-- Assumes nothing.
use Rattle.std.specs.Prelude.{◌≡◌, Bool, true, false, ℕ, zero, suc, ◌+◌, ◌-◌, ◌≤◌, ◌<◌}
use Rattle.std.proofs.Common.{sym, ap, ◌∙◌, true≢false, arith}
use Rattle.std.proofs.Math.Decide.{dec_lt}
use Rattle.laws.specs.Count.{count_to}
use Rattle.laws.specs.Count.Properties.{count_split}
use Rattle.laws.specs.Least.{least_to}
use Rattle.laws.specs.Least.Properties.{least_le, least_at}
use Rattle.laws.specs.First.{first_to}
use Rattle.laws.specs.First.Properties.{first_le, first_holds}

-- a test that stays: where it holds at a place it holds at every later one
abbrev pub Stays : (ℕ → Bool) → Type 0
Stays f = (a b : ℕ) → a ≤ b → f a ≡ true → f b ≡ true

-- the least, term by term
pub least_le_least : (n : ℕ) (f g : ℕ → ℕ) → ((a : ℕ) → a < n → f a ≤ g a) → least_to n f ≤ least_to n g
unfolding least_to
least_le_least zero f g h = omega arith
least_le_least (suc n) f g h =
    let t = least_at (suc n) g (omega arith) in omega (arith, t.2, least_le (suc n) f t.0 t.1, h t.0 t.1)

-- more places count no less
pub count_more : (m n : ℕ) (f : ℕ → Bool) → m ≤ n → count_to m f ≤ count_to n f
count_more m n f l =
    let e : n ≡ m + (n - m) = omega arith in omega (arith, ap (λ (k : ℕ). count_to k f) e, count_split m (n - m) f)

-- where a test that stays fails, it has held nowhere before
pub first_not_yet : (n : ℕ) (f : ℕ → Bool) → Stays f → f n ≡ false → 0 ≡ first_to n f
first_not_yet n f stays e =
    elim (dec_lt 0 (first_to n f)) [
      | yes p ↦ absurd (true≢false (sym (stays (first_to n f) n (first_le n f) (first_holds n f p)) ∙ e))
      | no p ↦ omega arith
    ]
