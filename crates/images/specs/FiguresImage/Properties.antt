-- Laws of the figures' bytes: a place stored, and all of them row by row.
-- Assumes nothing.
use Rattle.std.specs.Prelude.{◌≡◌, refl, List, [], ◌∷◌, ◌++◌, ℕ, ◌+◌, ◌*◌, ◌≤◌, length, drop}
use Rattle.std.proofs.Common.{ap, ◌∙◌, arith}
use Rattle.std.proofs.lemmas.List.Edits.{sets}
use Rattle.codec.specs.Pack.{pack}
use Rattle.codec.specs.Bytes.{bytes_of}
use Rattle.codec.specs.Place.{size_of, placed}
use Rattle.codec.specs.Places.{put_to}
use Rattle.codec.specs.Rows.{put_rows}
use Rattle.codec.specs.Rows.Properties.{rows_stored}
use Rattle.verdict.specs.declared.figures.Figures.{Figures}
use Rattle.images.specs.FiguresImage.{number_widths, slice_widths, figures_rows, figures_size, supply_place, slice_place}
use Rattle.images.specs.FiguresImage.{supply_bytes_at, slice_bytes_at, figures_values, figures_image}

pub put_figure : (value x at : ℕ) (l after : List ℕ) → x ≡ value → after ≡ sets l at (bytes_of (size_of number_widths) x)
    → after ≡ sets l at (placed number_widths (value ∷ []))
unfolding placed pack
put_figure value x at l after e h = let z : x ≡ value * 1 + 0 = omega arith in h ∙ ap (λ (y : ℕ). sets l at (bytes_of 4 y)) z

pub put_slice : (value x at : ℕ) (l after : List ℕ) → x ≡ value → after ≡ sets l at (bytes_of (size_of slice_widths) x)
    → after ≡ sets l at (placed slice_widths (value ∷ []))
unfolding placed pack
put_slice value x at l after e h = let z : x ≡ value * 1 + 0 = omega arith in h ∙ ap (λ (y : ℕ). sets l at (bytes_of 1 y)) z

-- row by row, before what was there
pub store_figures : (f : Figures) (out a b after : List ℕ) → figures_size ≤ length out
    → a ≡ sets out 0 (placed number_widths (f.workload ∷ []))
    → b ≡ put_to 8 (supply_bytes_at f) (supply_place 0) (size_of number_widths) a
    → after ≡ put_to 8 (slice_bytes_at f) (slice_place 0) (size_of slice_widths) b
    → after ≡ figures_image f ++ drop figures_size out
unfolding figures_image put_rows put_to
store_figures f out a b after l e g h = rw (h, g, e) (rows_stored figures_rows (figures_values f) out refl l)
