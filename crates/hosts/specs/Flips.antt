-- Document 02 (vii) at the C interface: "If a bit flips in a sum or in any slices-left field, the next call must say so", of the bytes of
-- a state's image.
-- Assumes nothing.
use Rattle.std.specs.Prelude.{◌≡◌, ◌≢◌, true, cond, List, ℕ, ◌+◌, ◌-◌, ◌/◌, ◌%◌, ◌^◌, ◌≤◌, ◌<◌, eqb, length, get_or, set}
use Rattle.answer.specs.Word.{number_in}
use Rattle.answer.specs.Numbers.{among}
use Rattle.codec.specs.Bytes.{AreBytes}
use Rattle.rack.specs.State.{unit_of}
use Rattle.images.specs.Image.{state_size, unit_place, sum_place, state_from}
use Rattle.rack_calls.specs.Exports.{Releases, ShowsRow, Advances}
use Rattle.demands.specs.Run.{Call}
use Rattle.demands.specs.Flipped.{own_numbers, sum_told_number, left_told_number}
use Rattle.hosts.specs.Chain.{Seen, Called}
pub mod Properties

-- ---- the bytes

-- byte b of the two of project j's sum
abbrev pub sum_byte : ℕ → ℕ → ℕ
sum_byte j b = sum_place j + b

-- byte b of the two of kind i's slices left: behind the released byte and the two of the slices gone
abbrev pub left_byte : ℕ → ℕ → ℕ
left_byte i b = unit_place i + 3 + b

-- a byte with bit k flipped
unfoldable pub flip_bit : ℕ → ℕ → ℕ
flip_bit k v = cond (eqb (v / 2 ^ k % 2) 0) (v + 2 ^ k) (v - 2 ^ k)

-- ---- what is said

-- every call on an image gives this number back, and leaves the image and the lent row as they were
pub record ToldAt (state : List ℕ) (n : ℕ) : Type 0 where
  pub release : (kind e word : ℕ) (after : List ℕ) → Releases state kind e word after → (number_in word ≡ n) × (after ≡ state)
  pub show : (row after : List ℕ) (word : ℕ) → ShowsRow state row word after → (number_in word ≡ n) × (after ≡ row)
  pub advance : (word : ℕ) (after : List ℕ) → Advances state word after → (number_in word ≡ n) × (after ≡ state)
