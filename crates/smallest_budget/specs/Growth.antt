-- A greater budget holds at least as many cards at every slice, so it supplies no less, and never takes a fit away.
-- Assumes nothing.
use Rattle.std.specs.Prelude.{◌≡◌, true}
use Prim.Native.Nat.{ℕ, ◌+◌, ◌*◌, ◌%◌, ◌≤◌, ◌<◌, min}
use Rattle.std.proofs.Common.{arith}
use Rattle.std.proofs.Math.Dec.{eqb}
use borrow.Author.Tests.{le-leb, leb-true}
use Rattle.laws.specs.Sum.Properties.{sum_le}
use Rattle.layout.specs.Cards.{held_from}
use Rattle.supply.specs.Supply.{window, supply}
use Rattle.supply.specs.Fit.{fits_at, least_width}
use Rattle.supply.proofs.Laws.Fit.{width_most, width_fits, width_some}
use Rattle.smallest_budget.specs.Staying.{least_le_least, count_more}

-- ---- more cards at every slice, more supply

module _ (h g : ℕ → ℕ) (more : (s : ℕ) → h s ≤ g s) where
  window_grows : (k a t : ℕ) → window k h a t ≤ window k g a t
  unfolding window
  window_grows k a t = sum_le t (λ x. min k (h (a + x))) (λ x. min k (g (a + x))) (λ x l. omega (arith, more (a + x)))

  pub supply_grows : (frame k t : ℕ) → supply frame h k t ≤ supply frame g k t
  unfolding supply
  supply_grows frame k t = least_le_least frame (λ a. window k h a t) (λ a. window k g a t) (λ a l. window_grows k a t)

-- ---- a greater budget, from the same first cell

module _ (first small large frame : ℕ) (l : small ≤ large) where
  pub run_grows : (s : ℕ) → held_from first small frame s ≤ held_from first large frame s
  unfolding held_from
  run_grows s = count_more small large (λ y. eqb ((first + y) % frame) (s % frame)) l

  pub budget_grows : (k t : ℕ) → supply frame (held_from first small frame) k t ≤ supply frame (held_from first large frame) k t
  budget_grows = supply_grows (held_from first small frame) (held_from first large frame) run_grows frame

  module _ (C W D : ℕ) where
    -- a fit at k is a fit at k still
    pub fit_kept : (k : ℕ) → fits_at frame (held_from first small frame) C W D k ≡ true →
        fits_at frame (held_from first large frame) C W D k ≡ true
    unfolding fits_at
    fit_kept k e =
        le-leb (k * C + W) (supply frame (held_from first large frame) k D)
        (omega (arith, leb-true (k * C + W) (supply frame (held_from first small frame) k D) e, budget_grows k D))

    -- and where some k fits, some k fits still
    pub width_kept : (q : ℕ) → 0 < least_width frame (held_from first small frame) C W D q →
        0 < least_width frame (held_from first large frame) C W D q
    width_kept q p =
        let k = least_width frame (held_from first small frame) C W D q in
        width_some frame (held_from first large frame) C W D q k p (width_most frame (held_from first small frame) C W D q)
        (omega (arith, width_fits frame (held_from first small frame) C W D q p, budget_grows k D))
