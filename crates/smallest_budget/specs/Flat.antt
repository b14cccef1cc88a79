-- With a budget of qF a project holds q cards at every slice, whatever its first cell: every start sees the same, and no slice is worse
-- than slice 0.
-- Assumes nothing.
use Rattle.std.specs.Prelude.{◌≡◌}
use Rattle.std.proofs.Math.Path.{sym, ap}
use Rattle.std.proofs.Common.{◌∙◌, le-div_iff_mul-le, arith}
use Prim.Native.Nat.{ℕ, ◌+◌, ◌*◌, ◌<◌, min}
use Rattle.laws.specs.Sum.Properties.{sum_cong}
use Rattle.layout.specs.Cards.{held_from}
use Rattle.layout.specs.Cards.Properties.{run_least, run_ceiling}
use Rattle.supply.specs.Supply.{window, supply}
use Rattle.supply.proofs.Laws.Supply.{supply_attained, bad_only}
use Rattle.supply.specs.Fit.{named_width, named_slice}

run_flat : (first q frame s : ℕ) → 0 < frame → held_from first (q * frame) frame s ≡ q
run_flat first q frame s some =
    let whole = (le-div_iff_mul-le {k = frame} {x = q} {y = q * frame} some).1 (omega arith) in
    omega (arith, run_least first (q * frame) frame s some, run_ceiling first (q * frame) frame s some q (omega arith))

module _ (first q frame : ℕ) (some : 0 < frame) where
  abbrev all : ℕ → ℕ
  all = held_from first (q * frame) frame

  window_flat : (k a b t : ℕ) → window k all a t ≡ window k all b t
  unfolding window
  window_flat k a b t =
      sum_cong t (λ x. min k (all (a + x))) (λ x. min k (all (b + x)))
      (λ x l. ap (λ (n : ℕ). min k n) (run_flat first q frame (a + x) some ∙ sym (run_flat first q frame (b + x) some)))

  -- every start sees the supply
  pub supply_flat : (k a t : ℕ) → window k all a t ≡ supply frame all k t
  supply_flat k a t = let s = supply_attained frame all some k t in window_flat k a s.0 t ∙ sym s.2

  -- so the earliest that does is 0
  pub slice_flat : (C W D ceiling : ℕ) → named_slice frame all C W D ceiling ≡ 0
  unfolding named_slice
  slice_flat C W D ceiling =
      let k = named_width frame all C W D ceiling in
      sym (bad_only frame all some k D 0 some (supply_flat k 0 D) (λ b l. absurd (omega arith)))
