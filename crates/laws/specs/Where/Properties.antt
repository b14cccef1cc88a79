-- Laws of `sum_where`: order, term by term.
-- Assumes nothing.
use Rattle.std.specs.Prelude.{◌≡◌, refl, Bool, true, false, cond, ℕ, zero, suc, ◌+◌, ◌≤◌, ◌<◌}
use Rattle.std.proofs.lemmas.Bool.{false≢true}
use Rattle.std.proofs.Common.{arith}
use Rattle.laws.specs.Sum.{sum_to}
use Rattle.laws.specs.Sum.Properties.{sum_le}
use Rattle.laws.specs.Count.{count_to}
use Rattle.laws.specs.Where.{sum_where}

pub where_le : (n : ℕ) (p : ℕ → Bool) (f g : ℕ → ℕ) → ((x : ℕ) → x < n → p x ≡ true → f x ≤ g x) → sum_where n p f ≤ sum_where n p g
unfolding sum_where
where_le n p f g h = sum_le n (λ x. cond (p x) (f x) 0) (λ x. cond (p x) (g x) 0) (λ x l. go x (p x) (h x l))
  where
    go : (x : ℕ) (b : Bool) → (b ≡ true → f x ≤ g x) → cond b (f x) 0 ≤ cond b (g x) 0
    go x true r = r refl
    go x false r = omega arith

-- where a term falls at each x that passes q, the sum falls by their count
pub where_falls : (n : ℕ) (p q : ℕ → Bool) (f g : ℕ → ℕ) → ((x : ℕ) → x < n → q x ≡ true → p x ≡ true) →
    ((x : ℕ) → x < n → p x ≡ true → f x + cond (q x) 1 0 ≤ g x) → sum_where n p f + count_to n q ≤ sum_where n p g
unfolding sum_where sum_to count_to
where_falls zero p q f g e h = omega arith
where_falls (suc n) p q f g e h =
    omega (
      arith,
      where_falls n p q f g (λ x l. e x (omega arith)) (λ x l. h x (omega arith)),
      go (p n) (q n) (e n (omega arith)) (h n (omega arith)),
    )
  where
    go : (a b : Bool) → (b ≡ true → a ≡ true) → (a ≡ true → f n + cond b 1 0 ≤ g n) → cond a (f n) 0 + cond b 1 0 ≤ cond a (g n) 0
    go true b u r = r refl
    go false true u r = absurd (false≢true (u refl))
    go false false u r = omega arith
