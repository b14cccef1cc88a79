-- Laws of `least_to`: it is a lower bound, and it is attained. Of `least_place`: it is attained there, and nowhere before.
-- Assumes nothing.
use Rattle.std.specs.Prelude.{◌≡◌, refl, ℕ, zero, suc, ◌+◌, ◌-◌, ◌≤◌, ◌<◌, min}
use Rattle.std.proofs.Common.{sym, ap, ap₂, ◌∙◌, add-one, arith, lt-ltb, le-ltb}
use Rattle.std.proofs.Math.Decide.{dec_le, dec_lt}
use Rattle.laws.specs.Least.{least_to, least_place}

pub least_suc : (n : ℕ) (f : ℕ → ℕ) → 0 < n → least_to (suc n) f ≡ min (least_to n f) (f n)
unfolding least_to
least_suc zero f p = absurd (omega arith)
least_suc (suc n) f p = refl

pub least_again : (m i : ℕ) (f : ℕ → ℕ) (v : ℕ) → 0 < i → m ≡ least_to i f → v ≡ f i → min m v ≡ least_to (i + 1) f
least_again m i f v p e q = rw (add-one i, least_suc i f p, e, q)

-- it is a lower bound
pub least_le : (n : ℕ) (f : ℕ → ℕ) (a : ℕ) → a < n → least_to n f ≤ f a
unfolding least_to
least_le zero f a l = absurd (omega arith)
least_le (suc zero) f a l = let e : a ≡ 0 = omega arith in rw e (omega arith)
least_le (suc (suc n)) f a l = elim (dec_lt a (suc n)) [ yes q ↦ omega (arith, least_le (suc n) f a q) | no q ↦ at (omega arith) ]
  where
    at : a ≡ suc n → min (least_to (suc n) f) (f (suc n)) ≤ f a
    at e = rw e (omega arith)

-- it is attained
pub least_at : (n : ℕ) (f : ℕ → ℕ) → 0 < n → (a : ℕ) × (a < n) × (least_to n f ≡ f a)
unfolding least_to
least_at zero f p = absurd (omega arith)
least_at (suc zero) f p = (0, omega arith, refl)
least_at (suc (suc n)) f p = go (least_at (suc n) f (omega arith))
  where
    go : ((a : ℕ) × (a < suc n) × (least_to (suc n) f ≡ f a)) → (a : ℕ) × (a < suc (suc n)) × (min (least_to (suc n) f) (f (suc n)) ≡ f a)
    go t =
        elim (dec_le (least_to (suc n) f) (f (suc n))) [
          | yes q ↦ (t.0, omega (arith, t.1), omega (arith, t.2))
          | no q ↦ (suc n, omega arith, omega arith)
        ]

pub least_cong : (n : ℕ) (f g : ℕ → ℕ) → ((a : ℕ) → a < n → f a ≡ g a) → least_to n f ≡ least_to n g
unfolding least_to
least_cong zero f g h = refl
least_cong (suc zero) f g h = h 0 (omega arith)
least_cong (suc (suc n)) f g h = ap₂ min (least_cong (suc n) f g (λ a l. h a (omega arith))) (h (suc n) (omega arith))

-- the same more in each is the same more in the least
pub least_shift : (n c : ℕ) (f : ℕ → ℕ) → 0 < n → least_to n (λ a. c + f a) ≡ c + least_to n f
least_shift n c f p =
    let s = least_at n (λ a. c + f a) p in
    let t = least_at n f p in
    omega (arith, s.2, t.2, least_le n (λ a. c + f a) t.0 t.1, least_le n f s.0 s.1)

-- ---- the first place that attains it

-- a value below all before it is first attained here
pub place_here : (n : ℕ) (f : ℕ → ℕ) → f n < least_to n f → least_place (suc n) f ≡ n
unfolding least_place
place_here n f l = rw (lt-ltb (f n) (least_to n f) l)

-- any other leaves the place as it was
pub place_kept : (n : ℕ) (f : ℕ → ℕ) → least_to n f ≤ f n → least_place (suc n) f ≡ least_place n f
unfolding least_place
place_kept n f l = rw (le-ltb (f n) (least_to n f) l)

place_most : (n : ℕ) (f : ℕ → ℕ) → least_place n f ≤ n - 1
unfolding least_place
place_most zero f = omega arith
place_most (suc n) f =
    elim (dec_lt (f n) (least_to n f)) [
      | yes q ↦ omega (arith, place_here n f q)
      | no q ↦ omega (arith, place_kept n f (omega arith), place_most n f)
    ]

-- it is one of the places
pub place_below : (n : ℕ) (f : ℕ → ℕ) → 0 < n → least_place n f < n
place_below n f p = omega (arith, place_most n f)

-- the least is attained there
pub place_attained : (n : ℕ) (f : ℕ → ℕ) → 0 < n → f (least_place n f) ≡ least_to n f
unfolding least_to
place_attained zero f p = absurd (omega arith)
place_attained (suc zero) f p = ap f (let e : least_place 1 f ≡ 0 = omega (arith, place_most 1 f) in e)
place_attained (suc (suc n)) f p =
    let s = least_suc (suc n) f (omega arith) in
    elim (dec_lt (f (suc n)) (least_to (suc n) f)) [
      | yes q ↦ ap f (place_here (suc n) f q) ∙ (let e : f (suc n) ≡ least_to (suc (suc n)) f = omega arith in e)
      | no q ↦ ap f (place_kept (suc n) f (omega arith)) ∙ place_attained (suc n) f (omega arith)
          ∙ (let e : least_to (suc n) f ≡ least_to (suc (suc n)) f = omega arith in e)
    ]

-- and at no place before it
pub place_first : (n : ℕ) (f : ℕ → ℕ) (a : ℕ) → a < least_place n f → least_to n f < f a
place_first zero f a l = absurd (omega (arith, place_most 0 f))
place_first (suc zero) f a l = absurd (omega (arith, place_most 1 f))
place_first (suc (suc n)) f a l =
    let s = least_suc (suc n) f (omega arith) in
    elim (dec_lt (f (suc n)) (least_to (suc n) f)) [
      | yes q ↦ omega (arith, least_le (suc n) f a (omega (arith, place_here (suc n) f q)))
      | no q ↦ omega (arith, place_first (suc n) f a (omega (arith, place_kept (suc n) f (omega arith))))
    ]

-- nothing else is
pub place_only : (n : ℕ) (f : ℕ → ℕ) (a : ℕ) → a < n → f a ≡ least_to n f → ((b : ℕ) → b < a → least_to n f < f b) → a ≡ least_place n f
place_only n f a l e h =
    elim (dec_lt a (least_place n f)) [
      | yes q ↦ absurd (omega (arith, place_first n f a q))
      | no q ↦ elim (dec_lt (least_place n f) a) [
        | yes m ↦ absurd (omega (arith, h (least_place n f) m, place_attained n f (omega arith)))
        | no m ↦ omega arith
      ]
    ]

-- the same more in each leaves it where it was
pub place_shift : (n c : ℕ) (f : ℕ → ℕ) → 0 < n → least_place n (λ a. c + f a) ≡ least_place n f
place_shift n c f p =
    sym (place_only n (λ a. c + f a) (least_place n f) (place_below n f p) (omega (arith, place_attained n f p, least_shift n c f p))
    (λ b l. omega (arith, place_first n f b l, least_shift n c f p)))
