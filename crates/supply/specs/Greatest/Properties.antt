-- Laws of `greatest_to`: the test holds at it, and at nothing above it.
-- Assumes nothing.
use Rattle.std.specs.Prelude.{◌≡◌, refl, Bool, true, false, cond, ℕ, zero, suc, ◌≤◌, ◌<◌}
use Rattle.std.proofs.Common.{sym, ap, ◌∙◌, true≢false, arith}
use Rattle.std.proofs.Math.Decide.{dec_le, dec_lt}
use Rattle.supply.specs.Greatest.{greatest_to}

pub greatest_le : (n : ℕ) (f : ℕ → Bool) → greatest_to n f ≤ n
unfolding greatest_to
greatest_le zero f = omega arith
greatest_le (suc n) f = go (f (suc n)) (greatest_le n f)
  where
    go : (b : Bool) → greatest_to n f ≤ n → cond b (suc n) (greatest_to n f) ≤ suc n
    go true h = omega arith
    go false h = omega arith

-- the test holds at it
pub greatest_holds : (n : ℕ) (f : ℕ → Bool) → 0 < greatest_to n f → f (greatest_to n f) ≡ true
unfolding greatest_to
greatest_holds zero f p = absurd (omega arith)
greatest_holds (suc n) f p = go (f (suc n)) refl (greatest_holds n f) p
  where
    go : (b : Bool) → f (suc n) ≡ b → (0 < greatest_to n f → f (greatest_to n f) ≡ true) → 0 < cond b (suc n) (greatest_to n f) →
        f (cond b (suc n) (greatest_to n f)) ≡ true
    go true e h q = e
    go false e h q = h q

-- and at nothing above it
pub greatest_above : (n : ℕ) (f : ℕ → Bool) (c : ℕ) → greatest_to n f < c → c ≤ n → f c ≡ false
unfolding greatest_to
greatest_above zero f c l m = absurd (omega arith)
greatest_above (suc n) f c l m = go (f (suc n)) refl (greatest_above n f c) l
  where
    go : (b : Bool) → f (suc n) ≡ b → (greatest_to n f < c → c ≤ n → f c ≡ false) → cond b (suc n) (greatest_to n f) < c → f c ≡ false
    go true e h q = absurd (omega arith)
    go false e h q = elim (dec_le c n) [ yes s ↦ h q s | no s ↦ ap f (let z : c ≡ suc n = omega arith in z) ∙ e ]

-- nothing else is
pub greatest_only : (n : ℕ) (f : ℕ → Bool) (c : ℕ) → c ≤ n → (0 < c → f c ≡ true) → ((d : ℕ) → c < d → d ≤ n → f d ≡ false) →
    c ≡ greatest_to n f
greatest_only n f c l t h =
    elim (dec_lt c (greatest_to n f)) [
      | yes q ↦
          absurd (true≢false (sym (greatest_holds n f (omega arith)) ∙ h (greatest_to n f) q (greatest_le n f)))
      | no q ↦ elim (dec_lt (greatest_to n f) c) [
        | yes m ↦ absurd (true≢false (sym (t (omega arith)) ∙ greatest_above n f c m l))
        | no m ↦ omega arith
      ]
    ]
