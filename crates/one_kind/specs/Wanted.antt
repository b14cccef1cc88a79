-- Document 02 (vi): "a list of (T, C)" as bytes, four a kind: T and then C, the high byte first.
-- Assumes nothing.
use Rattle.std.specs.Prelude.{ℕ, ◌+◌, ◌*◌, ◌/◌, ◌%◌, cond, List, eqb, length, get_or}
pub mod Properties

-- how many kinds are listed; bytes that are no multiple of four are no list, and list none
unfoldable pub kinds_in : List ℕ → ℕ
kinds_in list = cond (eqb (length list % 4) 0) (length list / 4) 0

-- two bytes as one number, the high byte first
unfoldable pub field_at : List ℕ → ℕ → ℕ
field_at list at = get_or list at 0 * 256 + get_or list (at + 1) 0

-- "(T, C)": T of kind i
abbrev pub separation_in : List ℕ → ℕ → ℕ
separation_in list i = field_at list (4 * i)

-- "(T, C)": C of kind i
abbrev pub length_in : List ℕ → ℕ → ℕ
length_in list i = field_at list (4 * i + 2)
