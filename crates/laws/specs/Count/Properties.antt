-- Laws of `count_to`.
-- Assumes nothing.
use Rattle.std.specs.Prelude.{◌≡◌, refl, Bool, true, false, cond, ◌&&◌, ℕ, zero, suc, ◌+◌, ◌-◌, ◌≤◌, ◌<◌, min, leb, ltb}
use Rattle.std.proofs.Common.{sym, ap, ◌∙◌, add-zero, add-suc, add-one, arith, lt-ltb, le-ltb, le-leb}
use Rattle.std.proofs.lemmas.Bool.{false≢true, lt-leb}
use Rattle.std.proofs.Math.Decide.{dec_lt}
use Rattle.laws.specs.Loops.{stop}
use Rattle.laws.specs.Sum.{sum_to}
use Rattle.laws.specs.Count.{count_to}

pub count_none : (f : ℕ → Bool) → 0 ≡ count_to 0 f
unfolding count_to
count_none f = refl

pub count_suc : (n : ℕ) (f : ℕ → Bool) → count_to (suc n) f ≡ count_to n f + cond (f n) 1 0
unfolding count_to
count_suc n f = refl

pub count_yes : (s i : ℕ) (f : ℕ → Bool) → s ≡ count_to i f → f i ≡ true → s + 1 ≡ count_to (i + 1) f
count_yes s i f e t = rw (add-one i, count_suc i f, t, e)

pub count_no : (s i : ℕ) (f : ℕ → Bool) → s ≡ count_to i f → f i ≡ false → s ≡ count_to (i + 1) f
count_no s i f e t = rw (add-one i, count_suc i f, t, e) (omega arith)

pub count_stop : (s i n : ℕ) (f : ℕ → Bool) → s ≡ count_to i f → i ≤ n → n ≤ i → s ≡ count_to n f
count_stop s i n f = stop (λ (k : ℕ). count_to k f) s i n

one_at_most : (b : Bool) → cond b 1 0 ≤ 1
one_at_most true = omega arith
one_at_most false = omega arith

pub count_le : (n : ℕ) (f : ℕ → Bool) → count_to n f ≤ n
unfolding count_to
count_le zero f = omega arith
count_le (suc n) f = omega (arith, count_le n f, one_at_most (f n))

-- ---- two counts compared, and counts of none, one and two parts

pub count_le_count : (n : ℕ) (f g : ℕ → Bool) → ((x : ℕ) → x < n → f x ≡ true → g x ≡ true) → count_to n f ≤ count_to n g
unfolding count_to
count_le_count zero f g h = omega arith
count_le_count (suc n) f g h = go (f n) (g n) (h n (omega arith)) (count_le_count n f g (λ x l. h x (omega arith)))
  where
    go : (a b : Bool) → (a ≡ true → b ≡ true) → count_to n f ≤ count_to n g → count_to n f + cond a 1 0 ≤ count_to n g + cond b 1 0
    go true true e l = omega arith
    go true false e l = absurd (false≢true (e refl))
    go false true e l = omega arith
    go false false e l = omega arith

pub count_cong : (n : ℕ) (f g : ℕ → Bool) → ((x : ℕ) → x < n → f x ≡ g x) → count_to n f ≡ count_to n g
count_cong n f g h =
    omega (arith, count_le_count n f g (λ x l e. sym (h x l) ∙ e), count_le_count n g f (λ x l e. h x l ∙ e))

-- true at an x more
pub count_lt_count : (n : ℕ) (f g : ℕ → Bool) (x : ℕ) → x < n → f x ≡ false → g x ≡ true → ((y : ℕ) → y < n → f y ≡ true → g y ≡ true) →
    count_to n f < count_to n g
unfolding count_to
count_lt_count zero f g x l p q h = absurd (omega arith)
count_lt_count (suc n) f g x l p q h =
    elim (dec_lt x n) [
      | yes s ↦ later (f n) (g n) (h n (omega arith)) (count_lt_count n f g x s p q (λ y m. h y (omega arith)))
      | no s ↦ here (omega arith)
    ]
  where
    later : (a b : Bool) → (a ≡ true → b ≡ true) → count_to n f < count_to n g → count_to n f + cond a 1 0 < count_to n g + cond b 1 0
    later true true e r = omega arith
    later true false e r = absurd (false≢true (e refl))
    later false true e r = omega arith
    later false false e r = omega arith

    here : x ≡ n → count_to n f + cond (f n) 1 0 < count_to n g + cond (g n) 1 0
    here e = rw (rw e at p, rw e at q) (omega (arith, count_le_count n f g (λ y m. h y (omega arith))))

pub count_some : (n : ℕ) (f : ℕ → Bool) (x : ℕ) → x < n → f x ≡ true → 0 < count_to n f
count_some n f x l e = omega (arith, count_lt_count n (λ y. false) f x l refl e (λ y m t. absurd (false≢true t)))

-- where it counts more, it is true at an x at which the other is not
pub count_extra : (n : ℕ) (f g : ℕ → Bool) → count_to n g < count_to n f → (x : ℕ) × (x < n) × (f x ≡ true) × (g x ≡ false)
unfolding count_to
count_extra zero f g l = absurd (omega arith)
count_extra (suc n) f g l = go (f n) (g n) refl refl (count_extra n f g) l
  where
    Found : ℕ → Type 0
    Found k = (x : ℕ) × (x < k) × (f x ≡ true) × (g x ≡ false)

    up : Found n → Found (suc n)
    up t = (t.0, omega (arith, t.1), t.2, t.3)

    go : (a b : Bool) →
        f n ≡ a →
        g n ≡ b →
        (count_to n g < count_to n f → Found n) →
        count_to n g + cond b 1 0 < count_to n f + cond a 1 0 →
        Found (suc n)
    go true true p q r s = up (r (omega arith))
    go true false p q r s = (n, omega arith, p, q)
    go false true p q r s = up (r (omega arith))
    go false false p q r s = up (r (omega arith))

pub count_never : (n : ℕ) (f : ℕ → Bool) → ((x : ℕ) → x < n → f x ≡ false) → count_to n f ≡ 0
unfolding count_to
count_never zero f h = refl
count_never (suc n) f h = rw (count_never n f (λ x l. h x (omega arith)), h n (omega arith))

-- true at no two
pub count_one : (n : ℕ) (f : ℕ → Bool) → ((x y : ℕ) → x < n → y < n → f x ≡ true → f y ≡ true → x ≡ y) → count_to n f ≤ 1
unfolding count_to
count_one zero f h = omega arith
count_one (suc n) f h = go (f n) refl (count_one n f (λ x y l m. h x y (omega arith) (omega arith)))
  where
    off : f n ≡ true → (x : ℕ) → x < n → (b : Bool) → f x ≡ b → f x ≡ false
    off e x l true t = absurd (omega (arith, h x n (omega arith) (omega arith) t e))
    off e x l false t = t

    go : (b : Bool) → f n ≡ b → count_to n f ≤ 1 → count_to n f + cond b 1 0 ≤ 1
    go true e r = omega (arith, count_never n f (λ x l. off e x l (f x) refl))
    go false e r = omega arith

-- a test in two parts
pub count_parts : (n : ℕ) (f g h : ℕ → Bool) → ((x : ℕ) → x < n → cond (h x) 1 0 ≡ cond (f x) 1 0 + cond (g x) 1 0) →
    count_to n h ≡ count_to n f + count_to n g
unfolding count_to
count_parts zero f g h e = refl
count_parts (suc n) f g h e = omega (arith, count_parts n f g h (λ x l. e x (omega arith)), e n (omega arith))

-- a count cut in two
pub count_split : (m n : ℕ) (f : ℕ → Bool) → count_to (m + n) f ≡ count_to m f + count_to n (λ x. f (m + x))
unfolding count_to
count_split m zero f = rw (add-zero m, add-zero (count_to m f)) refl
count_split m (suc n) f = rw (add-suc m n) (omega (arith, count_split m n f))

-- a count is the sum of its ones
pub count_sum : (n : ℕ) (f : ℕ → Bool) → count_to n f ≡ sum_to n (λ x. cond (f x) 1 0)
unfolding count_to sum_to
count_sum zero f = refl
count_sum (suc n) f = ap (λ (k : ℕ). k + cond (f n) 1 0) (count_sum n f)

-- ---- the numbers from a on and below b

pub between_yes : (a b x : ℕ) → a ≤ x → x < b → (leb a x && ltb x b) ≡ true
between_yes a b x p q = rw (le-leb a x p, lt-ltb x b q)

pub between_low : (a b x : ℕ) → x < a → (leb a x && ltb x b) ≡ false
between_low a b x p = rw (lt-leb a x p)

pub between_high : (a b x : ℕ) → b ≤ x → (leb a x && ltb x b) ≡ false
between_high a b x p = rw (le-ltb x b p) (go (leb a x))
  where
    go : (t : Bool) → (t && false) ≡ false
    go true = refl
    go false = refl

-- of the numbers below n, those from a on and below b
pub count_between : (n a b : ℕ) → a ≤ b → count_to n (λ x. leb a x && ltb x b) ≡ min n b - min n a
unfolding count_to
count_between zero a b p = omega arith
count_between (suc n) a b p =
    elim (dec_lt n a) [
      | yes q ↦ rw (between_low a b n q) (omega (arith, count_between n a b p))
      | no q ↦ elim (dec_lt n b) [
        | yes r ↦ rw (between_yes a b n (omega arith) r) (omega (arith, count_between n a b p))
        | no r ↦ rw (between_high a b n (omega arith)) (omega (arith, count_between n a b p))
      ]
    ]
