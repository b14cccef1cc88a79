-- Laws of the cards from now on: windows over them, and that they give the supply, now and one slice later.
-- Assumes nothing.
use Rattle.std.specs.Prelude.{◌≡◌, ℕ, suc, ◌+◌, min}
use Rattle.std.proofs.Common.{sym, ap, ◌∙◌, add_assoc}
use Rattle.laws.specs.Sum.Properties.{sum_cong}
use Rattle.supply.specs.Supply.{window}
use Rattle.supply.proofs.Laws.Supply.{window_first}
use Rattle.analysis.specs.Setup.{Setup}
use Rattle.analysis.specs.Moment.{Moment, Supplied}

-- the same cards, counted from another start
pub window_same : (k : ℕ) (g h : ℕ → ℕ) (a b t : ℕ) → ((x : ℕ) → g (a + x) ≡ h (b + x)) → window k g a t ≡ window k h b t
unfolding window
window_same k g h a b t e = sum_cong t (λ x. min k (g (a + x))) (λ x. min k (h (b + x))) (λ x l. ap (min k) (e x))

module _ (before after : Moment) where
  -- ---- a slice later

  module _ (gone : (x : ℕ) → after.cards x ≡ before.cards (1 + x)) where
    -- every start is one slice nearer
    pub window_later : (k a t : ℕ) → window k after.cards a t ≡ window k before.cards (1 + a) t
    window_later k a t =
        window_same k after.cards before.cards a (1 + a) t (λ x. gone (a + x) ∙ ap before.cards (sym (add_assoc 1 a x)))

    -- this slice's cards, and the window from the next on
    pub window_now : (k t : ℕ) → window k before.cards 0 (suc t) ≡ min k (before.cards 0) + window k after.cards 0 t
    window_now k t = window_first k before.cards 0 t ∙ ap (λ (n : ℕ). min k (before.cards 0) + n) (sym (window_later k 0 t))

    pub supplied_later : (S : Setup) → Supplied S before → Supplied S after
    supplied_later S h start k t = rw (window_later k start t) (h (1 + start) k t)

  -- ---- at the same slice

  module _ (same : (x : ℕ) → after.cards x ≡ before.cards x) where
    pub window_kept : (k a t : ℕ) → window k after.cards a t ≡ window k before.cards a t
    window_kept k a t = window_same k after.cards before.cards a a t (λ x. same (a + x))

    pub supplied_kept : (S : Setup) → Supplied S before → Supplied S after
    supplied_kept S h start k t = rw (window_kept k start t) (h start k t)
