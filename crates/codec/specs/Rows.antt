-- Rows of places, one after the other: a format is a list of rows, and where each row starts follows from it.
-- Assumes nothing.
use Rattle.std.specs.Prelude.{ℕ, ◌+◌, ◌*◌, List, [], ◌∷◌, ◌++◌, take, get_or}
use Rattle.codec.specs.Place.{size_of, placed}
use Rattle.codec.specs.Places.{parts_to, put_to}
pub mod Properties

-- so many places, each of fields of these widths
pub record Row : Type 0 where
  pub places : ℕ
  pub widths : List ℕ

-- a row, from its places and their widths
abbrev pub row : ℕ → List ℕ → Row
row n ws = record { places = n; widths = ws }

-- the bytes of a place
abbrev pub place_size : Row → ℕ
place_size r = size_of r.widths

-- the bytes of all its places
abbrev pub row_size : Row → ℕ
row_size r = place_size r * r.places

-- where rows end that begin at `from`
abbrev pub end_from : ℕ → List Row → ℕ
end_from from [] = from
end_from from (r ∷ rs) = end_from (from + row_size r) rs

-- the bytes of all rows
abbrev pub rows_size : List Row → ℕ
rows_size rs = end_from 0 rs

-- row k
abbrev pub row_at : List Row → ℕ → Row
row_at rs k = get_or rs k (record { places = 0; widths = [] })

-- where place i of row k starts
abbrev pub place_at : List Row → ℕ → ℕ → ℕ
place_at rs k i = rows_size (take k rs) + place_size (row_at rs k) * i

-- the values of one row: the fields of each place
abbrev pub Values : Type 0
Values = ℕ → List ℕ

-- a row of these values, place by place
abbrev pub placed_at : Row → Values → ℕ → List ℕ
placed_at r f i = placed r.widths (f i)

-- the rows as bytes
unfoldable pub rows_bytes : List Row → List Values → List ℕ
rows_bytes [] fs = []
rows_bytes (r ∷ rs) [] = []
rows_bytes (r ∷ rs) (f ∷ fs) = parts_to r.places (placed_at r f) ++ rows_bytes rs fs

-- the rows stored one after the other, the first at `from`
unfoldable pub put_rows : ℕ → List Row → List Values → List ℕ → List ℕ
put_rows from [] fs l = l
put_rows from (r ∷ rs) [] l = l
put_rows from (r ∷ rs) (f ∷ fs) l = put_rows (from + row_size r) rs fs (put_to r.places (placed_at r f) from (place_size r) l)
