-- Laws of a kind's part of the workload: document 001's equation 5 gives the same, it is no more than the time there is, and it is
-- enough for every unit that can get in the way.
-- Assumes nothing.
use Rattle.std.specs.Prelude.{◌≡◌, refl, ℕ, ◌+◌, ◌-◌, ◌*◌, ◌/◌, ◌%◌, ◌≤◌, ◌<◌, min}
use Rattle.std.proofs.Common.{div-add-mod', div-mul-le_self, le-div_iff_mul-le, div-lt_iff_lt-mul, mul-le-mul_left, mul-le-mul_right}
use Rattle.std.proofs.Common.{zero-mul, mod-lt, arith}
use Rattle.std.proofs.Math.Nat.{suc-mul, div-zero, mod-zero}
use Rattle.std.proofs.Math.Decide.{dec_lt}
use Rattle.supply.specs.Workload.{whole_units, workload_part}

-- ---- the two equations

-- a separation of 0 has no whole units
part_none : (D C t : ℕ) → workload_part 0 D C t ≡ min C t
unfolding workload_part
part_none D C t = rw (div-zero _, zero-mul C) (omega arith)

module _ (T D C t : ℕ) (some : 0 < T) where
  whole : t / T * T + t % T ≡ t
  whole = div-add-mod' t T

  rest : t % T < T
  rest = mod-lt t some

  -- the last unit is whole exactly where the time after the others has room for its deadline
  units_fewer : t % T < D → whole_units T D t ≡ t / T
  units_fewer l =
      let low : t / T ≤ whole_units T D t = (le-div_iff_mul-le some).1 (omega (arith, whole)) in
      let high : whole_units T D t < t / T + 1 = (div-lt_iff_lt-mul some).1 (omega (arith, whole, rest, suc-mul (t / T) T)) in
      omega arith

  units_more : D ≤ t % T → whole_units T D t ≡ t / T + 1
  units_more l =
      let next = suc-mul (t / T) T in
      let low : t / T + 1 ≤ whole_units T D t = (le-div_iff_mul-le some).1 (omega (arith, whole)) in
      let high : whole_units T D t < t / T + 2 = (div-lt_iff_lt-mul some).1 (omega (arith, whole, rest, suc-mul (t / T + 1) T)) in
      omega arith

  part_fewer : t % T < D → workload_part T D C t ≡ t / T * C + min C (t % T)
  unfolding workload_part
  part_fewer l = rw (units_fewer l) (omega (arith, whole))

  part_more : D ≤ t % T → workload_part T D C t ≡ t / T * C + C
  unfolding workload_part
  part_more l = rw (units_more l) (omega (arith, whole, rest, suc-mul (t / T) T, suc-mul (t / T) C))

-- "For C <= D <= T the value is the same": document 001's equation 5, "floor(Di/Tj)Cj + min(Cj, Di mod Tj)", here at every t, and with
-- no word on T, since a deadline beyond it counts as T
pub part_by_five_law : (T D C t : ℕ) → C ≤ D → workload_part T D C t ≡ t / T * C + min C (t % T)
part_by_five_law T D C t l =
    elim (dec_lt 0 T) [
      | yes p ↦ elim (dec_lt (t % T) D) [ yes q ↦ part_fewer T D C t p q | no q ↦ omega (arith, part_more T D C t p (omega arith)) ]
      | no p ↦ none (omega arith)
    ]
  where
    none : T ≡ 0 → workload_part T D C t ≡ t / T * C + min C (t % T)
    none e = rw (e, div-zero t, mod-zero t, zero-mul C, part_none D C t) (omega arith)

-- and that is never more, whatever the length
part_no_less : (T D C t : ℕ) → 0 < T → t / T * C + min C (t % T) ≤ workload_part T D C t
part_no_less T D C t p =
    elim (dec_lt (t % T) D) [ yes q ↦ omega (arith, part_fewer T D C t p q) | no q ↦ omega (arith, part_more T D C t p (omega arith)) ]

-- ---- what it bounds

-- a kind cannot run for longer than there is time
pub part_most : (T D C z : ℕ) → C ≤ D → C ≤ T → workload_part T D C z ≤ z
part_most T D C z d l = omega (arith, part_by_five_law T D C z d, mul-le-mul_left (z / T) l, div-add-mod' z T)

-- the unit at hand with at most y slices left to its deadline, and every later one whose deadline is in time
pub part_covers : (T D C z y : ℕ) → 0 < T → y ≤ z → min C y + (z - y) / T * C ≤ workload_part T D C z
part_covers T D C z y some l =
    let n = (z - y) / T in
    let room : n * T ≤ z - y = div-mul-le_self (z - y) T in
    let most : n ≤ z / T = (le-div_iff_mul-le some).1 (omega arith) in
    let five = part_no_less T D C z some in
    elim (dec_lt n (z / T)) [ yes q ↦ omega (arith, suc-mul n C, mul-le-mul_right C q) | no q ↦ omega (arith, same (omega arith)) ]
  where
    same : (z - y) / T ≡ z / T → min C y + (z - y) / T * C ≤ z / T * C + min C (z % T)
    same e = rw e (omega (arith, rw e at (div-mul-le_self (z - y) T), div-add-mod' z T))

-- ---- the code's way to it

-- the whole units are at most one for each slice, and one more
units_room : (T D t : ℕ) → 0 < T → t ≤ 65535 → whole_units T D t ≤ 65536
units_room T D t some l =
    let room : t + (T - D) < (t + 2) * T = omega (arith, suc-mul (t + 1) T, suc-mul t T, mul-le-mul_left t some) in
    let most : whole_units T D t < t + 2 = (div-lt_iff_lt-mul some).1 room in
    omega arith

pub units_of : (T D t x : ℕ) → 0 < T → t ≤ 65535 → x ≡ T - D → ((t + x) / T ≡ whole_units T D t) × ((t + x) / T ≤ 65536)
units_of T D t x some l e = rw e (refl, units_room T D t some l)

pub part_without : (T D C t r : ℕ) → T ≡ 0 → r ≡ min C t → r ≡ workload_part T D C t
part_without T D C t r e q = rw (e, part_none D C t) q

pub part_of : (T D C t n x y m w : ℕ) → n ≡ whole_units T D t → x ≡ n * T → y ≡ t - x → m ≡ min C y → w ≡ n * C →
    w + m ≡ workload_part T D C t
unfolding workload_part
part_of T D C t n x y m w d e f g h = rw (h, g, f, e, d) (omega arith)
