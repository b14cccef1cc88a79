-- The figures of a kind as bytes: rows of places of fixed widths, each number big-endian, as in the images of a plan and of a state.
-- Assumes nothing.
use Rattle.std.specs.Prelude.{ℕ, List, [], ◌∷◌, get_or}
use Rattle.codec.specs.Place.{placed}
use Rattle.codec.specs.Rows.{Row, row, rows_size, place_at, Values, rows_bytes}
use Rattle.answer.specs.declared.Answer.{Answer}
use Rattle.verdict.specs.declared.figures.Figures.{Figures}
use Rattle.images.specs.Lent.{Stores}
pub mod Properties

-- a number, u32
abbrev pub number_widths : List ℕ
number_widths = 32 ∷ []

-- a slice, u8
abbrev pub slice_widths : List ℕ
slice_widths = 8 ∷ []

-- W, S(k,D) for each k of 1..8, the bad slice of each
abbrev pub figures_rows : List Row
figures_rows = row 1 number_widths ∷ row 8 number_widths ∷ row 8 slice_widths ∷ []

-- their bytes
abbrev pub figures_size : ℕ
figures_size = rows_size figures_rows

-- where S(k,D) starts, with k at place k - 1
abbrev pub supply_place : ℕ → ℕ
supply_place j = place_at figures_rows 1 j

-- where its bad slice stands
abbrev pub slice_place : ℕ → ℕ
slice_place j = place_at figures_rows 2 j

-- the bytes of an S(k,D)
abbrev pub supply_bytes_at : Figures → ℕ → List ℕ
supply_bytes_at f j = placed number_widths (get_or f.supply j 0 ∷ [])

-- the byte of its bad slice
abbrev pub slice_bytes_at : Figures → ℕ → List ℕ
slice_bytes_at f j = placed slice_widths (get_or f.slice j 0 ∷ [])

-- the values of the rows
abbrev pub figures_values : Figures → List Values
figures_values f = (λ i. f.workload ∷ []) ∷ (λ j. get_or f.supply j 0 ∷ []) ∷ (λ j. get_or f.slice j 0 ∷ []) ∷ []

-- the figures as bytes
unfoldable pub figures_image : Figures → List ℕ
figures_image f = rows_bytes figures_rows (figures_values f)

-- stored at the front of a lent buffer, or 9
abbrev pub StoresFigures : Figures → List ℕ → Answer → List ℕ → Type 0
StoresFigures f = Stores (figures_image f) figures_size
