-- Document 01, "Plan bytes": bytes as one number, the first byte highest.
-- Assumes nothing.
use Rattle.std.specs.Prelude.{ℕ, zero, suc, ◌+◌, ◌*◌, ◌/◌, ◌%◌, ◌<◌, List, [], ◌∷◌, ◌++◌, length, get_or}
use Rattle.answer.specs.Outcome.{Leaves}
pub mod Properties

-- the first n bytes of s as one number, "most significant bit first"
unfoldable pub number_to : ℕ → List ℕ → ℕ
number_to zero s = 0
number_to (suc n) s = number_to n s * 256 + get_or s n 0

-- a number as n bytes, "most significant bit first"
unfoldable pub bytes_of : ℕ → ℕ → List ℕ
bytes_of zero x = []
bytes_of (suc n) x = bytes_of n (x / 256) ++ (x % 256 ∷ [])

-- a lent buffer filled with a number's bytes, and their count
abbrev pub Fills : ℕ → List ℕ → ℕ → List ℕ → Type 0
Fills number out = Leaves (length out) (bytes_of (length out) number)

-- every element is a byte, as a slice of the language's `u8` has it
abbrev pub AreBytes : List ℕ → Type 0
AreBytes s = (i : ℕ) → get_or s i 0 < 256
