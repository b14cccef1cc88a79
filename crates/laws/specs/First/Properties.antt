-- Laws of `first_to`: the test holds at it, and at nothing below it.
-- Assumes nothing.
use Rattle.std.specs.Prelude.{◌≡◌, refl, Bool, true, false, cond, ℕ, zero, suc, ◌+◌, ◌≤◌, ◌<◌, eqb}
use Rattle.std.proofs.Common.{sym, ap, ◌∙◌, true≢false, add-one, arith, eq-eqb, ne_eqb}
use Rattle.std.proofs.Math.Decide.{dec_le, dec_lt}
use Rattle.laws.specs.First.{first_to}

pub first_none : (f : ℕ → Bool) → 0 ≡ first_to 0 f
unfolding first_to
first_none f = refl

first_suc : (n : ℕ) (f : ℕ → Bool) → first_to (suc n) f ≡ cond (eqb (first_to n f) 0) (cond (f (suc n)) (suc n) 0) (first_to n f)
unfolding first_to
first_suc n f = refl

pub first_kept : (n : ℕ) (f : ℕ → Bool) → 0 < first_to n f → first_to (suc n) f ≡ first_to n f
first_kept n f p = rw (first_suc n f, ne_eqb (first_to n f) 0 (λ e. omega arith))

pub first_next : (n : ℕ) (f : ℕ → Bool) → 0 ≡ first_to n f → first_to (suc n) f ≡ cond (f (suc n)) (suc n) 0
first_next n f e = rw (first_suc n f, eq-eqb (first_to n f) 0 (sym e))

-- ---- the steps of a loop that looks for it

-- none so far, and the test fails at the next
pub first_on : (i : ℕ) (f : ℕ → Bool) → 0 ≡ first_to i f → f (i + 1) ≡ false → 0 ≡ first_to (i + 1) f
first_on i f e t = rw add-one (sym (first_next i f e ∙ rw (rw add-one at t)))

-- none so far, and the test holds at the next: that is it, whatever comes after
pub first_here : (n i : ℕ) (f : ℕ → Bool) → 0 ≡ first_to i f → f (i + 1) ≡ true → i < n → i + 1 ≡ first_to n f
first_here zero i f e t l = absurd (omega arith)
first_here (suc n) i f e t l =
    elim (dec_lt i n) [
      | yes q ↦ first_here n i f e t q ∙ sym (first_kept n f (omega (arith, first_here n i f e t q)))
      | no q ↦ here (omega arith)
    ]
  where
    here : i ≡ n → i + 1 ≡ first_to (suc n) f
    here q = rw (← q) (add-one i ∙ sym (first_next i f e ∙ rw (rw add-one at t)))

-- ---- what it is

pub first_le : (n : ℕ) (f : ℕ → Bool) → first_to n f ≤ n
unfolding first_to
first_le zero f = omega arith
first_le (suc n) f = go (eqb (first_to n f) 0) (f (suc n)) (first_le n f)
  where
    go : (a b : Bool) → first_to n f ≤ n → cond a (cond b (suc n) 0) (first_to n f) ≤ suc n
    go true true h = omega arith
    go true false h = omega arith
    go false b h = omega arith

-- the test holds at it
pub first_holds : (n : ℕ) (f : ℕ → Bool) → 0 < first_to n f → f (first_to n f) ≡ true
first_holds zero f p = absurd (omega (arith, first_none f))
first_holds (suc n) f p =
    elim (dec_lt 0 (first_to n f)) [ yes q ↦ rw (first_kept n f q) (first_holds n f q) | no q ↦ here (omega arith) (f (suc n)) refl ]
  where
    here : 0 ≡ first_to n f → (b : Bool) → f (suc n) ≡ b → f (first_to (suc n) f) ≡ true
    here e true t = rw (first_next n f e, t, t)
    here e false t = let z : first_to (suc n) f ≡ 0 = first_next n f e ∙ rw t in absurd (omega arith)

-- where there is none, it holds nowhere
pub first_zero : (n : ℕ) (f : ℕ → Bool) → 0 ≡ first_to n f → (k : ℕ) → 0 < k → k ≤ n → f k ≡ false
first_zero zero f e k p l = absurd (omega arith)
first_zero (suc n) f e k p l =
    elim (dec_lt 0 (first_to n f)) [
      | yes q ↦ absurd (omega (arith, first_kept n f q))
      | no q ↦ go (omega arith) (λ h m. first_zero n f h k p m) (f (suc n)) refl
    ]
  where
    go : 0 ≡ first_to n f → (0 ≡ first_to n f → k ≤ n → f k ≡ false) → (b : Bool) → f (suc n) ≡ b → f k ≡ false
    go h rec true t = let z : first_to (suc n) f ≡ suc n = first_next n f h ∙ rw t in absurd (omega arith)
    go h rec false t = elim (dec_le k n) [ yes m ↦ rec h m | no m ↦ ap f (let z : k ≡ suc n = omega arith in z) ∙ t ]

-- and at nothing below it
pub first_least : (n : ℕ) (f : ℕ → Bool) (k : ℕ) → 0 < k → k < first_to n f → f k ≡ false
first_least zero f k p l = absurd (omega (arith, first_none f))
first_least (suc n) f k p l =
    elim (dec_lt 0 (first_to n f)) [
      | yes q ↦ first_least n f k p (rw (first_kept n f q) at l)
      | no q ↦ first_zero n f (omega arith) k p (omega (arith, first_le (suc n) f))
    ]

-- one that holds settles that there is one
pub first_some : (n : ℕ) (f : ℕ → Bool) (k : ℕ) → 0 < k → k ≤ n → f k ≡ true → 0 < first_to n f
first_some n f k p l t =
    elim (dec_lt 0 (first_to n f)) [ yes q ↦ q | no q ↦ absurd (true≢false (sym t ∙ first_zero n f (omega arith) k p l)) ]

-- ---- two tests, and one more place

pub first_cong : (n : ℕ) (f g : ℕ → Bool) → ((k : ℕ) → 0 < k → k ≤ n → f k ≡ g k) → first_to n f ≡ first_to n g
unfolding first_to
first_cong zero f g h = refl
first_cong (suc n) f g h = rw (first_cong n f g (λ k p l. h k p (omega arith)), h (suc n) (omega arith) (omega arith))

-- one at which the test fails is passed over
pub first_skip : (n : ℕ) (f : ℕ → Bool) → f (suc n) ≡ false → first_to (suc n) f ≡ first_to n f
first_skip n f e = elim (dec_lt 0 (first_to n f)) [ yes p ↦ first_kept n f p | no p ↦ first_next n f (omega arith) ∙ rw e (omega arith) ]

-- the first at which it holds
pub first_new : (n : ℕ) (f : ℕ → Bool) → f (suc n) ≡ true → ((k : ℕ) → 0 < k → k ≤ n → f k ≡ true → ⊥) → first_to (suc n) f ≡ suc n
first_new n f e h =
    elim (dec_lt 0 (first_to n f)) [
      | yes p ↦ absurd (h (first_to n f) p (first_le n f) (first_holds n f p))
      | no p ↦ first_next n f (omega arith) ∙ rw e
    ]
