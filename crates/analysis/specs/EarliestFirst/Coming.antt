-- The units of a kind still to come: its part of the workload has room for what is left of a unit and for all that can be due in time.
-- Every division of the proof stands here.
-- Assumes nothing.
use Rattle.std.specs.Prelude.{◌≡◌, ℕ, ◌+◌, ◌-◌, ◌*◌, ◌/◌, ◌≤◌, ◌<◌}
use Rattle.std.proofs.Math.Decide.{dec_le}
use Rattle.std.proofs.Common.{div-mul-le_self, le-div_iff_mul-le, mul-le-mul_left, mul_comm}
use Rattle.std.proofs.Math.Nat.{add-div_right, div-eq_of_lt, zero-div}
use native.Mathlib.Omega.{arith}
use Rattle.supply.specs.Workload.{workload_part}
use Rattle.supply.specs.Workload.Properties.{part_covers}

-- how many units of a kind, the first within its reach in w slices or later, can be due within t slices
unfoldable pub coming : (separation reach t w : ℕ) → ℕ
coming separation reach t w = (t + separation - (w + reach)) / separation

div_mono : (T a b : ℕ) → 0 < T → a ≤ b → a / T ≤ b / T
div_mono T a b p l = (le-div_iff_mul-le {x = a / T} {y = b} p).1 (omega (arith, div-mul-le_self a T))

-- ---- a slice brings no more of them

pub coming_slice : (T R t w : ℕ) → 0 < T → 0 < t → coming T R (t - 1) (w - 1) ≤ coming T R t w
unfolding coming
coming_slice T R t w p q = div_mono T (t - 1 + T - (w - 1 + R)) (t + T - (w + R)) p (omega arith)

-- ---- a release of one that is due in u slices, after which the next is a separation later

module _ (T R t u next : ℕ) (after : next + R ≡ u + T) where
  -- takes one of them, if it is due in time
  pub coming_release : (w : ℕ) → 0 < T → w + R ≤ u → u ≤ t → coming T R t next + 1 ≤ coming T R t w
  unfolding coming
  coming_release w p l q =
      let a : t + T - (next + R) ≡ t - u = omega arith in
      let b : (t - u + T) / T ≡ (t - u) / T + 1 = add-div_right (t - u) p in
      rw (a, ← b) (div_mono T (t - u + T) (t + T - (w + R)) p (omega arith))

  -- and leaves none that is, if it is not
  pub coming_late : t < u → coming T R t next ≡ 0
  unfolding coming
  coming_late l = let a : t + T - (next + R) ≡ 0 = omega arith in rw a (zero-div T)

-- ---- what a window of t slices can bring

-- where l is left, due in y of them, and the next comes a separation after the last
pub part_left : (T D R C t w l y : ℕ) → 0 < T → l ≤ C → l ≤ y → w + R ≡ y + T → y ≤ t → l + C * coming T R t w ≤ workload_part T D C t
unfolding coming
part_left T D R C t w l y a b c d e =
    let h : t + T - (w + R) ≡ t - y = omega arith in
    rw h (omega (arith, part_covers T D C t y a e, mul_comm C ((t - y) / T)))

-- where nothing is left
pub part_coming : (T D R C t w : ℕ) → 1 ≤ C → C ≤ R → R ≤ T → C * coming T R t w ≤ workload_part T D C t
unfolding coming
part_coming T D R C t w a b c =
    elim (dec_le R t) [ yes p ↦ omega (arith, sooner, some p) | no p ↦ omega (arith, sooner, none (omega arith)) ]
  where
    positive : 0 < T
    positive = omega arith

    sooner : C * ((t + T - (w + R)) / T) ≤ C * ((t + T - R) / T)
    sooner = mul-le-mul_left C (div_mono T (t + T - (w + R)) (t + T - R) positive (omega arith))

    some : R ≤ t → C * ((t + T - R) / T) ≤ workload_part T D C t
    some p =
        let e : t + T - R ≡ t - R + T = omega arith in
        rw (e, add-div_right (t - R) positive) (omega (arith, part_covers T D C t R positive p, mul_comm C ((t - R) / T)))

    none : t < R → C * ((t + T - R) / T) ≤ 0
    none p = let e : (t + T - R) / T ≡ 0 = div-eq_of_lt (omega arith) in rw e (omega arith)
