-- Laws of the divisor: it divides both, whatever divides both divides it, and so of all of them.
-- Assumes nothing.
use Rattle.std.specs.Prelude.{◌≡◌, refl, ℕ, zero, suc, ◌+◌, ◌%◌, ◌≤◌, ◌<◌}
use Rattle.std.proofs.Common.{sym, ◌∙◌, mod-lt, add-one, arith, eq-eqb, ne_eqb}
use Rattle.std.specs.Int.{◌∣◌}
use Rattle.std.proofs.Math.Nat.{dvd_refl, dvd-zero, dvd_trans, dvd-mod_iff, pos_of_dvd_of_pos}
use Rattle.std.proofs.Math.Decide.{dec_lt, ℕ_discrete}
use Rattle.laws.specs.Loops.{stop}
use Rattle.one_kind.specs.Divisor.{repeated, divisor, divisor_to}

-- ---- the remainder again

-- nothing is left to divide by
repeated_end : (n a b : ℕ) → b ≡ 0 → repeated n a b ≡ a
unfolding repeated
repeated_end zero a b e = refl
repeated_end (suc n) a b e = rw (eq-eqb b 0 e)

repeated_next : (n a b : ℕ) → (b ≡ 0 → ⊥) → repeated (suc n) a b ≡ repeated n b (a % b)
unfolding repeated
repeated_next n a b z = rw (ne_eqb b 0 z)

falls : (a b : ℕ) → (b ≡ 0 → ⊥) → a % b < b
falls a b z = mod-lt a (omega arith)

-- enough times are enough
repeated_enough : (n k a b : ℕ) → b ≤ n → b ≤ k → repeated n a b ≡ repeated k a b
repeated_enough zero k a b p q = repeated_end 0 a b (omega arith) ∙ sym (repeated_end k a b (omega arith))
repeated_enough (suc n) zero a b p q = repeated_end (suc n) a b (omega arith) ∙ sym (repeated_end 0 a b (omega arith))
repeated_enough (suc n) (suc k) a b p q =
    elim (ℕ_discrete b 0) [
      | yes e ↦ repeated_end (suc n) a b e ∙ sym (repeated_end (suc k) a b e)
      | no z ↦
          repeated_next n a b z ∙ repeated_enough n k b (a % b) (omega (arith, falls a b z)) (omega (arith, falls a b z))
          ∙ sym (repeated_next k a b z)
    ]

-- ---- the steps of the recursion

pub divisor_end : (a b : ℕ) → b ≡ 0 → a ≡ divisor a b
unfolding divisor
divisor_end a b e = sym (repeated_end b a b e)

pub divisor_next : (a b r : ℕ) → (b ≡ 0 → ⊥) → r ≡ divisor b (a % b) → r ≡ divisor a b
unfolding divisor
divisor_next a zero r z e = absurd (z refl)
divisor_next a (suc b) r z e =
    e ∙ repeated_enough (a % suc b) b (suc b) (a % suc b) (omega arith) (omega (arith, falls a (suc b) z))
    ∙ sym (repeated_next b a (suc b) z)

-- ---- of two

repeated_divides : (n a b : ℕ) → b ≤ n → (repeated n a b ∣ a) × (repeated n a b ∣ b)
repeated_divides zero a b p =
    let e : b ≡ 0 = omega arith in
    rw (repeated_end 0 a b e, e) (dvd_refl a, dvd-zero a)
repeated_divides (suc n) a b p =
    elim (ℕ_discrete b 0) [
      | yes e ↦ rw (repeated_end (suc n) a b e, e) (dvd_refl a, dvd-zero a)
      | no z ↦
          let d = repeated n b (a % b) in
          let both = repeated_divides n b (a % b) (omega (arith, falls a b z)) in
          rw (repeated_next n a b z) ((dvd-mod_iff d both.0).0 both.1, both.0)
    ]

repeated_greatest : (n a b d : ℕ) → d ∣ a → d ∣ b → d ∣ repeated n a b
unfolding repeated
repeated_greatest zero a b d p q = p
repeated_greatest (suc n) a b d p q =
    elim (ℕ_discrete b 0) [
      | yes e ↦ rw (eq-eqb b 0 e) p
      | no z ↦ rw (ne_eqb b 0 z) (repeated_greatest n b (a % b) d q ((dvd-mod_iff d q).1 p))
    ]

pub divisor_left : (a b : ℕ) → divisor a b ∣ a
unfolding divisor
divisor_left a b = (repeated_divides b a b (omega arith)).0

pub divisor_right : (a b : ℕ) → divisor a b ∣ b
unfolding divisor
divisor_right a b = (repeated_divides b a b (omega arith)).1

pub divisor_greatest : (a b d : ℕ) → d ∣ a → d ∣ b → d ∣ divisor a b
unfolding divisor
divisor_greatest a b d = repeated_greatest b a b d

-- ---- the steps of a loop over all of them

pub divisor_none : (f : ℕ → ℕ) → 0 ≡ divisor_to 0 f
unfolding divisor_to
divisor_none f = refl

pub divisor_again : (s i : ℕ) (f : ℕ → ℕ) (v r : ℕ) → s ≡ divisor_to i f → v ≡ f i → r ≡ divisor s v → r ≡ divisor_to (i + 1) f
unfolding divisor_to
divisor_again s i f v r p q e = rw (add-one i, ← p, ← q) e

pub divisor_stop : (s i n : ℕ) (f : ℕ → ℕ) → s ≡ divisor_to i f → i ≤ n → n ≤ i → s ≡ divisor_to n f
divisor_stop s i n f = stop (λ (k : ℕ). divisor_to k f) s i n

-- ---- of all of them

-- it divides every one
pub divides_each : (n : ℕ) (f : ℕ → ℕ) (i : ℕ) → i < n → divisor_to n f ∣ f i
unfolding divisor_to
divides_each zero f i l = absurd (omega arith)
divides_each (suc n) f i l =
    elim (dec_lt i n) [
      | yes q ↦ dvd_trans (divisor (divisor_to n f) (f n)) (divisor_left (divisor_to n f) (f n)) (divides_each n f i q)
      | no q ↦ let e : i ≡ n = omega arith in rw e (divisor_right (divisor_to n f) (f n))
    ]

-- and whatever divides every one divides it
pub divides_greatest : (n : ℕ) (f : ℕ → ℕ) (d : ℕ) → ((i : ℕ) → i < n → d ∣ f i) → d ∣ divisor_to n f
unfolding divisor_to
divides_greatest zero f d h = dvd-zero d
divides_greatest (suc n) f d h =
    divisor_greatest (divisor_to n f) (f n) d (divides_greatest n f d (λ i l. h i (omega arith))) (h n (omega arith))

-- it is not 0 where one of them is not
pub divisor_some : (n : ℕ) (f : ℕ → ℕ) (i : ℕ) → i < n → 0 < f i → 0 < divisor_to n f
divisor_some n f i l p = pos_of_dvd_of_pos (divides_each n f i l) p
