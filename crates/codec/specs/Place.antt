-- A place: fields of a list of widths, packed into whole bytes.
-- Assumes nothing.
use Rattle.std.specs.Prelude.{ℕ, ◌*◌, ◌/◌, ◌≡◌, List}
use Rattle.codec.specs.Pack.{bits, pack, unpack}
use Rattle.codec.specs.Bytes.{number_to, bytes_of}
pub mod Properties

-- the bytes that fields of these widths take
abbrev pub size_of : List ℕ → ℕ
size_of ws = bits ws / 8

-- the fields fill their bytes
abbrev pub Whole : List ℕ → Type 0
Whole ws = 8 * size_of ws ≡ bits ws

-- the fields' values as bytes
unfoldable pub placed : List ℕ → List ℕ → List ℕ
placed ws vs = bytes_of (size_of ws) (pack ws vs)

-- the fields at the front of s
unfoldable pub fields_of : List ℕ → List ℕ → List ℕ
fields_of ws s = unpack ws (number_to (size_of ws) s)
