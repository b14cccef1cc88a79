-- A function that turns, with a period: the least over one period is the same wherever it begins.
-- Assumes nothing.
use Rattle.std.specs.Prelude.{◌≡◌, refl, ℕ, zero, suc, ◌+◌, ◌*◌, ◌/◌, ◌%◌, ◌≤◌, ◌<◌}
use Rattle.std.proofs.Common.{ap, ◌∙◌, add_assoc, add-zero, suc-mul, zero-mul, div-add-mod', mod-lt, arith}
use Rattle.laws.specs.Least.{least_to}
use Rattle.laws.specs.Least.Properties.{least_le, least_at}
use Rattle.supply.specs.Supply.{Periodic}

module _ (n : ℕ) (f : ℕ → ℕ) (turn : Periodic n f) where
  -- any number of periods later
  turns : (a m : ℕ) → f (a + m * n) ≡ f a
  turns a zero = rw (zero-mul n, add-zero a)
  turns a (suc m) = rw (suc-mul m n, ← (add_assoc a (m * n) n), turn (a + m * n)) (turns a m)

  -- the least over one period is at most what stands anywhere
  least_anywhere : 0 < n → (a : ℕ) → least_to n f ≤ f a
  least_anywhere some a =
      let e : a ≡ a % n + a / n * n = omega (arith, div-add-mod' a n) in
      omega (arith, ap f e, turns (a % n) (a / n), least_le n f (a % n) (mod-lt a some))

-- the least over one period from place c on
pub least_turned : (n c : ℕ) (f : ℕ → ℕ) → Periodic n f → least_to n (λ a. f (a + c)) ≡ least_to n f
unfolding least_to
least_turned zero c f turn = refl
least_turned (suc m) c f turn =
    let s = least_at (suc m) (λ a. f (a + c)) (omega arith) in
    let t = least_at (suc m) f (omega arith) in
    omega (
      arith,
      s.2,
      t.2,
      least_anywhere (suc m) f turn (omega arith) (s.0 + c),
      least_anywhere (suc m) (λ a. f (a + c)) later (omega arith) (t.0 + c * m),
      back t.0,
    )
  where
    later : Periodic (suc m) (λ a. f (a + c))
    later a = ap f (let e : a + suc m + c ≡ a + c + suc m = omega arith in e) ∙ turn (a + c)

    back : (a : ℕ) → f (a + c * m + c) ≡ f a
    back a = ap f (let e : a + c * m + c ≡ a + c * suc m = omega arith in e) ∙ turns (suc m) f turn a c
