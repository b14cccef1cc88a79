-- Laws of rows: their length, each place found again, the rows stored one after the other, and a row stored as it was found.
-- Assumes nothing.
use Rattle.std.specs.Prelude.{◌≡◌, refl, List, [], ◌∷◌, ◌++◌, ℕ, zero, suc, ◌+◌, ◌*◌, ◌≤◌, ◌<◌, length, get_or, take, drop}
use Rattle.std.proofs.Common.{sym, ap, ◌∙◌, append_assoc, append-nil, le_refl, mul-suc, mul-le-mul, arith, length-append, length-drop}
use Rattle.std.proofs.Common.{take-append-drop, drop-drop, drop_at, length-take-le}
use Rattle.codec.specs.Pack.{Fitting}
use Rattle.codec.specs.Bytes.{AreBytes}
use Rattle.codec.specs.Bytes.Properties.{bytes_behind}
use Rattle.codec.specs.Place.{Whole, placed, fields_of}
use Rattle.codec.specs.Place.Properties.{placed_length, fields_placed, placed_fields}
use Rattle.codec.specs.Places.{parts_to, put_to}
use Rattle.codec.specs.Places.Properties.{parts_length, parts_drop, parts_front, front_put}
use Rattle.codec.specs.Rows.{Row, place_size, row_size, end_from, rows_size, row_at, place_at, Values, placed_at, rows_bytes, put_rows}

row_length : (r : Row) (f : Values) → length (parts_to r.places (placed_at r f)) ≡ row_size r
row_length r f = parts_length r.places (placed_at r f) (place_size r) (λ i. placed_length r.widths (f i))

pub end_after : (from : ℕ) (rs : List Row) → from ≤ end_from from rs
end_after from [] = omega arith
end_after from (r ∷ rs) = omega (arith, end_after (from + row_size r) rs)

rows_end : (from : ℕ) (rs : List Row) (fs : List Values) → length fs ≡ length rs → from + length (rows_bytes rs fs) ≡ end_from from rs
unfolding rows_bytes
rows_end from [] fs e = omega arith
rows_end from (r ∷ rs) [] e = absurd (omega arith)
rows_end from (r ∷ rs) (f ∷ fs) e =
    let a = parts_to r.places (placed_at r f) in
    omega (arith, length-append a (rows_bytes rs fs), row_length r f, rows_end (from + row_size r) rs fs (omega arith))

pub rows_length : (rs : List Row) (fs : List Values) → length fs ≡ length rs → length (rows_bytes rs fs) ≡ rows_size rs
rows_length rs fs e = omega (arith, rows_end 0 rs fs e)

-- rows behind rows
pub rows_append : (rs qs : List Row) (fs gs : List Values) → length fs ≡ length rs
    → rows_bytes (rs ++ qs) (fs ++ gs) ≡ rows_bytes rs fs ++ rows_bytes qs gs
unfolding rows_bytes
rows_append [] qs [] gs e = refl
rows_append [] qs (f ∷ fs) gs e = absurd (omega arith)
rows_append (r ∷ rs) qs [] gs e = absurd (omega arith)
rows_append (r ∷ rs) qs (f ∷ fs) gs e =
    let a = parts_to r.places (placed_at r f) in
    ap (λ (x : List ℕ). a ++ x) (rows_append rs qs fs gs (omega arith)) ∙ sym (append_assoc a (rows_bytes rs fs) (rows_bytes qs gs))

-- ---- found again

-- the values of row k
abbrev pub values_at : List Values → ℕ → Values
values_at fs k = get_or fs k (λ i. [])

-- what stands where row k starts begins with that row
row_found : (from : ℕ) (rs : List Row) (fs : List Values) (k : ℕ) (s rest : List ℕ) →
    length fs ≡ length rs →
    k < length rs →
    drop from s ≡ rows_bytes rs fs ++ rest →
    (more : List ℕ) ×
    (drop (end_from from (take k rs)) s ≡ parts_to (row_at rs k).places (placed_at (row_at rs k) (values_at fs k)) ++ more)
unfolding rows_bytes
row_found from [] fs k s rest e l h = absurd (omega arith)
row_found from (r ∷ rs) [] k s rest e l h = absurd (omega arith)
row_found from (r ∷ rs) (f ∷ fs) zero s rest e l h =
    (rows_bytes rs fs ++ rest, h ∙ append_assoc (parts_to r.places (placed_at r f)) (rows_bytes rs fs) rest)
row_found from (r ∷ rs) (f ∷ fs) (suc k) s rest e l h =
    let a = parts_to r.places (placed_at r f) in
    let t : drop (from + row_size r) s ≡ rows_bytes rs fs ++ rest =
    sym (drop-drop (row_size r) from s)
    ∙ ap (drop (row_size r)) (h ∙ append_assoc a (rows_bytes rs fs) rest)
    ∙ drop_at a (rows_bytes rs fs ++ rest) (row_size r) (row_length r f) in
    row_found (from + row_size r) rs fs k s rest (omega arith) (omega arith) t

-- the fields found at place i of row k are its values
pub row_fields : (rs : List Row) (fs : List Values) (k i : ℕ) (s rest : List ℕ) → length fs ≡ length rs → k < length rs
    → i < (row_at rs k).places → s ≡ rows_bytes rs fs ++ rest
    → Whole (row_at rs k).widths → Fitting (row_at rs k).widths (values_at fs k i)
    → fields_of (row_at rs k).widths (drop (place_at rs k i) s) ≡ values_at fs k i
row_fields rs fs k i s rest e l m h w f =
    let r = row_at rs k in
    let v = values_at fs k in
    let t = row_found 0 rs fs k s rest e l h in
    let p = parts_drop r.places (place_size r) (placed_at r v) t.0 i (λ j. placed_length r.widths (v j)) m in
    ap (fields_of r.widths) (sym (drop-drop (place_size r * i) (rows_size (take k rs)) s) ∙ ap (drop (place_size r * i)) t.1 ∙ p.1)
    ∙ fields_placed r.widths (v i) p.0 w f

-- ---- stored

-- rows stored behind a front xs that is there already
stored_behind : (rs : List Row) (fs : List Values) (from : ℕ) (xs e l : List ℕ) → length fs ≡ length rs → length xs ≡ from
    → l ≡ xs ++ drop from e → end_from from rs ≤ length e
    → put_rows from rs fs l ≡ xs ++ rows_bytes rs fs ++ drop (end_from from rs) e
unfolding put_rows rows_bytes
stored_behind [] fs from xs e l n p q m = q ∙ ap (λ (x : List ℕ). x ++ drop from e) (sym (append-nil xs))
stored_behind (r ∷ rs) [] from xs e l n p q m = absurd (omega arith)
stored_behind (r ∷ rs) (f ∷ fs) from xs e l n p q m =
    let a = parts_to r.places (placed_at r f) in
    let z = end_after (from + row_size r) rs in
    let t = front_put r.places (placed_at r f) (place_size r) xs e l from (λ i. placed_length r.widths (f i)) p q (omega arith) in
    let u : length (xs ++ a) ≡ from + row_size r = length-append xs a ∙ omega (arith, row_length r f) in
    stored_behind rs fs (from + row_size r) (xs ++ a) e (put_to r.places (placed_at r f) from (place_size r) l) (omega arith) u t m
    ∙ ap (λ (x : List ℕ). x ++ drop (end_from (from + row_size r) rs) e) (append_assoc xs a (rows_bytes rs fs))

-- rows stored at the front of a list that has room are those rows, before what was there
pub rows_stored : (rs : List Row) (fs : List Values) (l : List ℕ) → length fs ≡ length rs → rows_size rs ≤ length l
    → put_rows 0 rs fs l ≡ rows_bytes rs fs ++ drop (rows_size rs) l
rows_stored rs fs l n m = stored_behind rs fs 0 [] l l n refl refl m

-- rows stored from `from` on stand between what was there
pub rows_between : (rs : List Row) (fs : List Values) (from : ℕ) (l : List ℕ) → length fs ≡ length rs → end_from from rs ≤ length l
    → put_rows from rs fs l ≡ take from l ++ rows_bytes rs fs ++ drop (end_from from rs) l
rows_between rs fs from l n m =
    stored_behind rs fs from (take from l) l l n (length-take-le from l (omega (arith, end_after from rs)))
    (sym (take-append-drop from l)) m

-- a row stored as it was found from `from` on is the bytes there
pub row_again : (r : Row) (f : Values) (from : ℕ) (s : List ℕ) → Whole r.widths → AreBytes s → from + row_size r ≤ length s
    → ((i : ℕ) → i < r.places → f i ≡ fields_of r.widths (drop (from + place_size r * i) s))
    → parts_to r.places (placed_at r f) ≡ take (row_size r) (drop from s)
row_again r f from s w b l h =
    parts_front r.places (place_size r) (placed_at r f) (drop from s)
    (λ i k.
    let at = from + place_size r * i in
    let room : place_size r ≤ length (drop at s) =
    omega (arith, length-drop at s, mul-suc (place_size r) i, mul-le-mul (le_refl (place_size r)) k) in
    ap (placed r.widths) (h i k) ∙ placed_fields r.widths (drop at s) w (bytes_behind s b at) room
    ∙ ap (take (place_size r)) (sym (drop-drop (place_size r * i) from s)))
