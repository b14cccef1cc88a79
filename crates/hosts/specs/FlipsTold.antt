-- A flip is told, at the C interface: any image of a state on which a call was good, or refused by the row's 9 or by 12 to 14; any one
-- byte of a sum or of slices left in it changed, of which a single flipped bit is a case; and any call on the bytes that then stand
-- there.
-- Assumes nothing.
use Rattle.std.specs.Prelude.{◌≡◌, ◌≢◌, Bool, true, false, cond, List, ℕ, ◌≤◌, ◌<◌, length, get_or, set}
use Rattle.std.proofs.Common.{sym, subst, arith, length-set}
use Rattle.answer.specs.Word.{number_in}
use Rattle.answer.specs.Numbers.{among}
use Rattle.codec.specs.Bytes.{AreBytes}
use Rattle.rack.specs.declared.State.{State}
use Rattle.rack.specs.State.{unit_of, project_used}
use Rattle.images.specs.Image.{state_size, state_from}
use Rattle.images.specs.Typed.Properties.{state_found_typed}
use Rattle.demands.specs.Run.{Call}
use Rattle.demands.specs.Flipped.{own_numbers, sum_told_number, could_be_left, left_told_number, Told}
use Rattle.demands.specs.RowOfSums.{sum_told, left_told}
use Rattle.hosts.specs.Chain.{Seen, Called}
use Rattle.hosts.specs.Flips.{sum_byte, left_byte, flip_bit, ToldAt}
use Rattle.hosts.specs.Flips.Properties.{new_sum, sum_other, sum_changed_is, sum_told_kept, new_left, left_other_value}
use Rattle.hosts.specs.Flips.Properties.{left_changed_is, left_told_kept, told_at, still_state, image_good, state_taken}
use Rattle.hosts.specs.Flips.Properties.{plan_kept, left_now, flip_other}

-- 10 and 16 fit eight bits
either_small : (b : Bool) → cond b 16 10 < 256
either_small true = omega arith
either_small false = omega arith

-- ---- any other byte

module _ (state : List ℕ) (bytes : AreBytes state) (whole : state_size ≤ length state) (before : Call) (seen : Seen) (after : List ℕ)
    (called : Called state before seen after) (own : among own_numbers (number_in seen.word) ≡ true) where
  -- of project j's sum: 10 where the project is beyond p, else 16
  pub sum_byte_told : (j b v : ℕ) → j < 8 → b < 2 → v < 256 → v ≢ get_or state (sum_byte j b) 0 →
      ToldAt (set state (sum_byte j b) v) (sum_told_number (state_from state) j)
  sum_byte_told j b v l m byte other =
      let x = sum_byte j b in
      let y = set state x v in
      let is = sum_changed_is state bytes whole v byte j b l m other in
      let long : state_size ≤ length y = omega (arith, length-set state x v) in
      let good = still_state state y long (plan_kept state x v (omega arith)) (sum_told_kept state bytes whole v byte j b l m other)
      (image_good state whole before seen after called own) in
      told_at y (sum_told_number (state_from state) j) (either_small (project_used (state_from state) j)) good
      (subst (λ (s : State). Told s (sum_told_number (state_from state) j)) (sym is)
      (sum_told (state_from state) before (state_taken state whole before seen after called own) (state_found_typed state).places j
      (new_sum state bytes whole v byte j b l m other) l (sum_other state bytes whole v byte j b l m other)))

  -- of kind i's slices left: 16 where so many as the image then says could be left, else 10
  pub left_byte_told : (i b v : ℕ) → i < 16 → b < 2 → v < 256 → v ≢ get_or state (left_byte i b) 0 →
      let y = set state (left_byte i b) v in
      ToldAt y (left_told_number (state_from state) i (unit_of (state_from y) i).left)
  left_byte_told i b v l m byte other =
      let s = state_from state in
      let x = left_byte i b in
      let y = set state x v in
      let new = new_left state bytes whole v byte i b l m other in
      let is = left_changed_is state bytes whole v byte i b l m other in
      let now = left_now state bytes whole v byte i b l m other in
      let long : state_size ≤ length y = omega (arith, length-set state x v) in
      let good = still_state state y long (plan_kept state x v (omega arith)) (left_told_kept state bytes whole v byte i b l m other)
      (image_good state whole before seen after called own) in
      subst (λ (n : ℕ). ToldAt y (left_told_number s i n)) (sym now)
      (told_at y (left_told_number s i new) (either_small (could_be_left s i new)) good
      (subst (λ (z : State). Told z (left_told_number s i new)) (sym is)
      (left_told s before (state_taken state whole before seen after called own) (state_found_typed state).places i new l
      (left_other_value state bytes whole v byte i b l m other))))

  -- ---- a flipped bit

  -- bit k of byte b of project j's sum
  pub sum_bit_told : (j b k : ℕ) → j < 8 → b < 2 → k < 8 →
      ToldAt (set state (sum_byte j b) (flip_bit k (get_or state (sum_byte j b) 0))) (sum_told_number (state_from state) j)
  sum_bit_told j b k l m n =
      let v = get_or state (sum_byte j b) 0 in
      let f = flip_other k v n (bytes (sum_byte j b)) in
      sum_byte_told j b (flip_bit k v) l m f.0 f.1

  -- bit k of byte b of kind i's slices left
  pub left_bit_told : (i b k : ℕ) → i < 16 → b < 2 → k < 8 →
      let y = set state (left_byte i b) (flip_bit k (get_or state (left_byte i b) 0)) in
      ToldAt y (left_told_number (state_from state) i (unit_of (state_from y) i).left)
  left_bit_told i b k l m n =
      let v = get_or state (left_byte i b) 0 in
      let f = flip_other k v n (bytes (left_byte i b)) in
      left_byte_told i b (flip_bit k v) l m f.0 f.1
