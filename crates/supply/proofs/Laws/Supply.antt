-- Laws of the supply: what a window holds, how whole frames count, and that the supply is there at every start; and of the bad slice.
-- Assumes nothing.
use Rattle.std.specs.Prelude.{◌≡◌, refl}
use Rattle.std.proofs.Common.{sym, ◌∙◌, add_assoc, add_comm, add-zero, zero-add, mul_comm, suc-mul, zero-mul, div-add-mod', mod-lt, add-one}
use Rattle.std.proofs.Common.{one-add}
use Rattle.std.proofs.Math.Path.{ap, fun_ext}
use Prim.Native.Nat.{ℕ, zero, suc, ◌+◌, ◌-◌, ◌*◌, ◌/◌, ◌%◌, ◌≤◌, ◌<◌, min}
use native.Mathlib.Omega.{arith}
use Rattle.laws.specs.Sum.{sum_to}
use Rattle.laws.specs.Sum.Properties.{sum_none, sum_more, sum_cong, sum_bound, sum_split}
use Rattle.laws.specs.Least.{least_to, least_place}
use Rattle.laws.specs.Least.Properties.{least_le, least_at, least_shift, place_below, place_attained, place_first, place_only, place_shift}
use Rattle.supply.specs.Supply.{Periodic, window, supply, bad_slice}

-- ---- a window

pub window_none : (k : ℕ) (h : ℕ → ℕ) (a : ℕ) → window k h a 0 ≡ 0
unfolding window
window_none k h a = sym (sum_none (λ x. min k (h (a + x))))

-- one slice more at the end
pub window_more : (k : ℕ) (h : ℕ → ℕ) (a t : ℕ) → window k h a (t + 1) ≡ window k h a t + min k (h (a + t))
unfolding window
window_more k h a t = sum_more t (λ x. min k (h (a + x)))

-- cut in two
pub window_split : (k : ℕ) (h : ℕ → ℕ) (a t u : ℕ) → window k h a (t + u) ≡ window k h a t + window k h (a + t) u
unfolding window
window_split k h a t u =
    rw (sum_split t u (λ x. min k (h (a + x)))) (ap (λ (n : ℕ). sum_to t (λ x. min k (h (a + x))) + n)
    (sum_cong u (λ x. min k (h (a + (t + x)))) (λ x. min k (h (a + t + x))) (λ x l. rw (add_assoc a t x))))

-- one slice less at the front
pub window_first : (k : ℕ) (h : ℕ → ℕ) (a t : ℕ) → window k h a (suc t) ≡ min k (h a) + window k h (a + 1) t
window_first k h a t = rw (← (one-add t), window_split k h a 1 t) (ap (λ (n : ℕ). n + window k h (a + 1) t) one)
  where
    one : window k h a 1 ≡ min k (h a)
    one = rw (window_more k h a 0, window_none k h a, add-zero a) (zero-add (min k (h a)))

-- at most k cards a slice
pub window_most : (k : ℕ) (h : ℕ → ℕ) (a t : ℕ) → window k h a t ≤ k * t
unfolding window
window_most k h a t = rw (mul_comm k t) (sum_bound t k (λ x. min k (h (a + x))) (λ x l. omega arith))

pub window_monotone : (k : ℕ) (h : ℕ → ℕ) (a t u : ℕ) → t ≤ u → window k h a t ≤ window k h a u
window_monotone k h a t u l = rw (let e : u ≡ t + (u - t) = omega arith in e, window_split k h a t (u - t)) (omega arith)

-- ---- whole frames

module _ (frame : ℕ) (h : ℕ → ℕ) (turn : Periodic frame h) where
  -- a start one frame later sees the same
  pub window_turn : (k a t : ℕ) → window k h (a + frame) t ≡ window k h a t
  unfolding window
  window_turn k a t =
      sum_cong t (λ x. min k (h (a + frame + x))) (λ x. min k (h (a + x)))
      (λ x l. ap (λ (n : ℕ). min k n) (rw (let e : a + frame + x ≡ a + x + frame = omega arith in e) (turn (a + x))))

  -- so does one any number of frames later
  window_turns : (k a t n : ℕ) → window k h (a + n * frame) t ≡ window k h a t
  window_turns k a t zero = rw (zero-mul frame, add-zero a)
  window_turns k a t (suc n) =
      rw (suc-mul n frame, ← (add_assoc a (n * frame) frame), window_turn k (a + n * frame) t) (window_turns k a t n)

  pub window_mod : (k a t : ℕ) → window k h a t ≡ window k h (a % frame) t
  window_mod k a t =
      ap (λ (b : ℕ). window k h b t) (let e : a ≡ a % frame + a / frame * frame = omega (arith, div-add-mod' a frame) in e)
      ∙ window_turns k (a % frame) t (a / frame)

  -- one frame's sum is the same from every start
  pub window_frame : (k a : ℕ) → window k h a frame ≡ window k h 0 frame
  window_frame k zero = refl
  window_frame k (suc a) = step (window_frame k a)
    where
      step : window k h a frame ≡ window k h 0 frame → window k h (suc a) frame ≡ window k h 0 frame
      step ih =
          omega (arith, rw (add_comm frame 1, window_split k h a 1 frame, add-one a) at (window_split k h a frame 1), window_turn k a 1)

  -- the whole frames in t are counted by one frame's sum
  pub window_frames : (k a n r : ℕ) → window k h a (n * frame + r) ≡ n * window k h 0 frame + window k h a r
  window_frames k a zero r = rw (zero-mul frame, zero-mul (window k h 0 frame), zero-add r, zero-add (window k h a r))
  window_frames k a (suc n) r =
      rw (
        let e : suc n * frame + r ≡ frame + (n * frame + r) = rw (suc-mul n frame) (omega arith) in e,
        window_split k h a frame (n * frame + r),
        suc-mul n (window k h 0 frame),
      )
      (omega (arith, window_frame k a, window_turn k a (n * frame + r), window_frames k a n r))

  pub window_whole : (k a t : ℕ) → window k h a t ≡ t / frame * window k h 0 frame + window k h a (t % frame)
  window_whole k a t = ap (window k h a) (sym (div-add-mod' t frame)) ∙ window_frames k a (t / frame) (t % frame)

-- ---- the supply

module _ (frame : ℕ) (h : ℕ → ℕ) (some : 0 < frame) where
  -- it is what one of the starts sees
  pub supply_attained : (k t : ℕ) → (a : ℕ) × (a < frame) × (supply frame h k t ≡ window k h a t)
  unfolding supply
  supply_attained k t = least_at frame (λ a. window k h a t) some

  -- "S(k,0) is 0"
  pub supply_none : (k : ℕ) → supply frame h k 0 ≡ 0
  supply_none k = let s = supply_attained k 0 in omega (arith, s.2, window_none k h s.0)

  -- at most k cards a slice
  pub supply_most : (k t : ℕ) → supply frame h k t ≤ k * t
  supply_most k t = let s = supply_attained k t in omega (arith, s.2, window_most k h s.0 t)

  -- a longer stretch holds no less
  pub supply_monotone : (k t u : ℕ) → t ≤ u → supply frame h k t ≤ supply frame h k u
  unfolding supply
  supply_monotone k t u l =
      let s = supply_attained k u in
      omega (arith, s.2, window_monotone k h s.0 t u l, least_le frame (λ a. window k h a t) s.0 s.1)

module _ (frame : ℕ) (h : ℕ → ℕ) (turn : Periodic frame h) (some : 0 < frame) where
  -- it is there from every start, in this frame or any later one
  pub supply_everywhere : (k a t : ℕ) → supply frame h k t ≤ window k h a t
  unfolding supply
  supply_everywhere k a t = rw (window_mod frame h turn k a t) (least_le frame (λ b. window k h b t) (a % frame) (mod-lt a some))

  -- the whole frames in t are counted by one frame's sum
  pub supply_whole : (k t : ℕ) → supply frame h k t ≡ t / frame * window k h 0 frame + supply frame h k (t % frame)
  unfolding supply
  supply_whole k t =
      ap (least_to frame) (fun_ext (λ a. window_whole frame h turn k a t))
      ∙ least_shift frame (t / frame * window k h 0 frame) (λ a. window k h a (t % frame)) some

-- ---- the bad slice

module _ (frame : ℕ) (h : ℕ → ℕ) (some : 0 < frame) where
  -- it is a slice of the frame
  pub bad_below : (k t : ℕ) → bad_slice frame h k t < frame
  unfolding bad_slice
  bad_below k t = place_below frame (λ a. window k h a t) some

  -- a unit that arrives there sees exactly the supply
  pub bad_attains : (k t : ℕ) → window k h (bad_slice frame h k t) t ≡ supply frame h k t
  unfolding supply bad_slice
  bad_attains k t = place_attained frame (λ a. window k h a t) some

  -- every earlier start sees more
  pub bad_earliest : (k t a : ℕ) → a < bad_slice frame h k t → supply frame h k t < window k h a t
  unfolding supply bad_slice
  bad_earliest k t = place_first frame (λ a. window k h a t)

  -- and no other slice is so
  pub bad_only : (k t a : ℕ) → a < frame → window k h a t ≡ supply frame h k t → ((b : ℕ) → b < a → supply frame h k t < window k h b t) →
      a ≡ bad_slice frame h k t
  unfolding supply bad_slice
  bad_only k t = place_only frame (λ a. window k h a t)

  -- "It is 0 at length 0"
  pub bad_none : (k : ℕ) → bad_slice frame h k 0 ≡ 0
  bad_none k = sym (bad_only k 0 0 some (window_none k h 0 ∙ sym (supply_none frame h some k)) (λ b l. absurd (omega arith)))

  -- "and beside a k of 0"
  pub bad_no_width : (t : ℕ) → bad_slice frame h 0 t ≡ 0
  bad_no_width t =
      let w : window 0 h 0 t ≤ 0 = rw (zero-mul t) at (window_most 0 h 0 t) in
      let s : supply frame h 0 t ≤ 0 = rw (zero-mul t) at (supply_most frame h some 0 t) in
      sym (bad_only 0 t 0 some (omega arith) (λ b l. absurd (omega arith)))

module _ (frame : ℕ) (h : ℕ → ℕ) (turn : Periodic frame h) (some : 0 < frame) where
  -- the whole frames in t see the same from every start
  pub bad_whole : (k t : ℕ) → bad_slice frame h k t ≡ bad_slice frame h k (t % frame)
  unfolding bad_slice
  bad_whole k t =
      ap (least_place frame) (fun_ext (λ a. window_whole frame h turn k a t))
      ∙ place_shift frame (t / frame * window k h 0 frame) (λ a. window k h a (t % frame)) some
