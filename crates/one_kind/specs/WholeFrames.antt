-- The supply of a project that holds at most one card at a slice, over whole frames: its budget for each of them.
-- Assumes nothing.
use Rattle.std.specs.Prelude.{◌≡◌}
use Rattle.std.proofs.Common.{ap, ◌∙◌, one-mul, mul_comm, mul_right_comm, mul-le-mul_right, le_of_mul-le-mul_right, arith}
use Prim.Native.Nat.{ℕ, ◌+◌, ◌*◌, ◌/◌, ◌≤◌, ◌<◌, min, ◌∣◌}
use Rattle.std.proofs.Math.Nat.{div-mul_cancel, mod-eq-zero_of_dvd}
use Rattle.laws.specs.Sum.Properties.{sum_cong}
use Rattle.layout.specs.Cards.{held_from}
use Rattle.layout.specs.Cards.Properties.{run_period, run_ceiling, run_frame}
use Rattle.supply.specs.Supply.{window, supply}
use Rattle.supply.proofs.Laws.Supply.{supply_none, supply_whole}

module _ (first b F : ℕ) (some : 0 < F) (most : b ≤ F) where
  one_card : (s : ℕ) → held_from first b F s ≤ 1
  one_card s = run_ceiling first b F s some 1 (omega (arith, one-mul F))

  -- one frame supplies the budget
  one_frame : window 1 (held_from first b F) 0 F ≡ b
  unfolding window
  one_frame =
      sum_cong F (λ x. min 1 (held_from first b F (0 + x))) (λ x. held_from first b F (0 + x)) (λ x l. omega (arith, one_card (0 + x)))
      ∙ run_frame first b F 0 some

  -- so do all of a separation that the frame divides
  pub whole_supply : (T : ℕ) → F ∣ T → supply F (held_from first b F) 1 T ≡ T / F * b
  whole_supply T d =
      supply_whole F (held_from first b F) (run_period first b F) some 1 T
      ∙ rw (one_frame, mod-eq-zero_of_dvd F d, supply_none F (held_from first b F) some 1) (omega arith)

-- ---- a unit of length C fits in them where FC is at most bT

module _ (F T C b : ℕ) (some : 0 < F) (d : F ∣ T) where
  both : (T / F * b) * F ≡ b * T
  both = mul_right_comm (T / F) b F ∙ ap (λ (x : ℕ). x * b) (div-mul_cancel F d) ∙ mul_comm T b

  pub room-enough : F * C ≤ b * T → C ≤ T / F * b
  room-enough l = le_of_mul-le-mul_right {k = F} (rw (both, mul_comm C F) l) some

  pub enough_room : C ≤ T / F * b → F * C ≤ b * T
  enough_room l = rw (← both, mul_comm F C) (mul-le-mul_right F l)
