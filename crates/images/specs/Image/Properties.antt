-- Laws of the images: what the code finds in a place, what it stores there, and the whole images stored row by row.
-- Assumes nothing.
use Rattle.std.specs.Prelude.{◌≡◌, refl, true, false, cond, List, [], ◌∷◌, ◌++◌, ℕ, ◌+◌, ◌*◌, ◌/◌, ◌%◌, ◌≤◌, ◌<◌, eqb, length, get_or, set}
use Rattle.std.specs.Prelude.{drop, replicate}
use Rattle.std.proofs.Common.{sym, ap, ◌∙◌, div-one, arith, le-leb, drop_at, set-set, get_or-set_same}
use Rattle.std.proofs.lemmas.Bool.{lt-leb}
use Rattle.laws.specs.All.{all_to}
use Rattle.laws.specs.All.Properties.{all_more, all_stop, all_fails}
use Rattle.std.proofs.lemmas.List.Edits.{sets}
use Rattle.laws.specs.Written.Properties.{written_length, written_again}
use Rattle.codec.specs.Pack.{pack, unpack}
use Rattle.codec.specs.Bytes.{number_to, bytes_of, AreBytes}
use Rattle.codec.specs.Bytes.Properties.{number_cut, number_bound, bytes_behind}
use Rattle.codec.specs.Place.{size_of, placed, fields_of}
use Rattle.codec.specs.Places.{put_to}
use Rattle.codec.specs.Rows.{Row, Values, put_rows, rows_bytes}
use Rattle.codec.specs.Rows.Properties.{rows_length, rows_append, rows_stored, rows_between}
use Rattle.plan.specs.declared.Project.{Project}
use Rattle.plan.specs.declared.Kind.{Kind}
use Rattle.plan.specs.declared.Plan.{Plan}
use Rattle.plan.specs.Record.{no_kind}
use Rattle.unit.specs.declared.Unit.{Unit}
use Rattle.rack.specs.declared.State.{State}
use Rattle.images.specs.Image.{count_widths, project_widths, kind_widths, slice_widths, unit_widths, sum_widths, plan_rows, state_rows}
use Rattle.images.specs.Image.{plan_size, state_size, project_place, kind_place, slice_place, unit_place, sum_place, released_at}
use Rattle.images.specs.Image.{released_told, field}
use Rattle.images.specs.Image.{project_from, kind_from, slice_from, unit_from, sum_from, projects_from, kinds_from, units_from, sums_from}
use Rattle.images.specs.Image.{plan_from}
use Rattle.images.specs.Image.{state_from, count_fields, project_fields, kind_fields, unit_fields, project_bytes_at, kind_bytes_at}
use Rattle.images.specs.Image.{unit_bytes_at, sum_bytes_at}
use Rattle.images.specs.Image.{plan_values, state_values, plan_image, state_image, running_over}

-- ---- the fields of a place, each off its own bytes

pub project_at_law : (s : List ℕ) (at q b : ℕ) → q ≡ number_to 1 (drop at s) → b ≡ number_to 2 (drop (at + 1) s) → q < 256 → b < 65536
    → record { ceiling = q; budget = b } ≡ project_from (drop at s)
unfolding project_from fields_of unpack
project_at_law s at q b e f l m =
    let n = number_to 3 (drop at s) in
    let all : n ≡ q * 65536 + b = omega (arith, number_cut 1 2 at s) in
    let c : q ≡ n / 65536 % 256 = omega arith in
    let d : b ≡ n / 1 % 65536 = rw (div-one n) (omega arith) in
    λ i. record { ceiling = c i; budget = d i }

pub kind_at_law : (s : List ℕ) (at j t d c : ℕ) → j ≡ number_to 1 (drop at s) → t ≡ number_to 2 (drop (at + 1) s)
    → d ≡ number_to 2 (drop (at + 3) s) → c ≡ number_to 2 (drop (at + 5) s) → j < 256 → t < 65536 → d < 65536 → c < 65536
    → record { project = j; separation = t; deadline = d; length = c } ≡ kind_from (drop at s)
unfolding kind_from fields_of unpack
kind_at_law s at j t d c e f g h k l m o =
    let n = number_to 7 (drop at s) in
    let all : n ≡ j * 281474976710656 + t * 4294967296 + d * 65536 + c =
    omega (arith, number_cut 5 2 at s, number_cut 3 2 at s, number_cut 1 2 at s) in
    let w : j ≡ n / 281474976710656 % 256 = omega arith in
    let x : t ≡ n / 4294967296 % 65536 = omega arith in
    let y : d ≡ n / 65536 % 65536 = omega arith in
    let z : c ≡ n / 1 % 65536 = rw (div-one n) (omega arith) in
    λ i. record { project = w i; separation = x i; deadline = y i; length = z i }

pub slice_at : (s : List ℕ) (at x : ℕ) → x ≡ number_to 1 (drop at s) → x < 256 → x ≡ slice_from (drop at s)
unfolding slice_from fields_of unpack
slice_at s at x e l = rw (div-one (number_to 1 (drop at s))) (omega arith)

pub released_at_law : (s : List ℕ) (at x : ℕ) → AreBytes s → x ≡ number_to 1 (drop at s) → x ≡ field unit_widths (drop at s) 0
unfolding fields_of unpack
released_at_law s at x bytes e =
    let here = number_bound 1 (drop at s) (bytes_behind s bytes at) in
    let rest = number_bound 4 (drop (at + 1) s) (bytes_behind s bytes (at + 1)) in
    omega (arith, number_cut 1 4 at s, here, rest)

pub unit_at : (s : List ℕ) (at r g l : ℕ) → r ≡ number_to 1 (drop at s) → g ≡ number_to 2 (drop (at + 1) s)
    → l ≡ number_to 2 (drop (at + 3) s) → r < 256 → g < 65536 → l < 65536
    → record { gone = g; left = l; released = eqb r 1 } ≡ unit_from (drop at s)
unfolding unit_from fields_of unpack
unit_at s at r g l e f h k m o =
    let n = number_to 5 (drop at s) in
    let all : n ≡ r * 4294967296 + g * 65536 + l = omega (arith, number_cut 3 2 at s, number_cut 1 2 at s) in
    let x : r ≡ n / 4294967296 % 256 = omega arith in
    let y : g ≡ n / 65536 % 65536 = omega arith in
    let z : l ≡ n / 1 % 65536 = rw (div-one n) (omega arith) in
    λ i. record { gone = y i; left = z i; released = eqb (x i) 1 }

pub sum_at_law : (s : List ℕ) (at x : ℕ) → x ≡ number_to 2 (drop at s) → x < 65536 → x ≡ sum_from (drop at s)
unfolding sum_from fields_of unpack
sum_at_law s at x e l = rw (div-one (number_to 2 (drop at s))) (omega arith)

-- the steps of the loop over the released bytes
pub told_again : (i x : ℕ) (s : List ℕ) → true ≡ all_to i (released_at s) → x ≡ field unit_widths (drop (unit_place i) s) 0 → x ≤ 1
    → true ≡ all_to (i + 1) (released_at s)
told_again i x s e f l = all_more i (released_at s) e (le-leb (field unit_widths (drop (unit_place i) s) 0) 1 (omega arith))

pub told_fails : (i x : ℕ) (s : List ℕ) → x ≡ field unit_widths (drop (unit_place i) s) 0 → 1 < x → i < 16 → false ≡ released_told s
unfolding released_told
told_fails i x s e l m = all_fails 16 i (released_at s) (lt-leb (field unit_widths (drop (unit_place i) s) 0) 1 (omega arith)) m

pub told_end : (i : ℕ) (s : List ℕ) → true ≡ all_to i (released_at s) → i ≤ 16 → 16 ≤ i → true ≡ released_told s
unfolding released_told
told_end i s e a b = all_stop true i 16 (released_at s) e a b

-- ---- a kind stored field by field

changed_again : {A : Type 0} (l : List A) (i : ℕ) (x d : A) (f : A → A) → i < length l
    → set (set l i x) i (f (get_or (set l i x) i d)) ≡ set l i (f x)
changed_again {A} l i x d f h =
    set-set l i x (f (get_or (set l i x) i d)) ∙ ap (λ (y : A). set l i (f y)) (get_or-set_same l i x d h)

abbrev pub with_project : ℕ → Kind → Kind
with_project x v = record { project = x; separation = v.separation; deadline = v.deadline; length = v.length }

abbrev pub with_separation : ℕ → Kind → Kind
with_separation x v = record { project = v.project; separation = x; deadline = v.deadline; length = v.length }

abbrev pub with_deadline : ℕ → Kind → Kind
with_deadline x v = record { project = v.project; separation = v.separation; deadline = x; length = v.length }

abbrev pub with_length : ℕ → Kind → Kind
with_length x v = record { project = v.project; separation = v.separation; deadline = v.deadline; length = x }

-- the kind at i changed
abbrev pub changed_at : List Kind → ℕ → (Kind → Kind) → List Kind
changed_at l i f = set l i (f (get_or l i no_kind))

kind_stored : (l : List Kind) (i : ℕ) (v : Kind) → i < length l
    → changed_at (changed_at (changed_at (changed_at l i (with_project v.project)) i (with_separation v.separation)) i
    (with_deadline v.deadline)) i (with_length v.length) ≡ set l i v
kind_stored l i v h =
    let w = with_project v.project (get_or l i no_kind) in
    let x = with_separation v.separation w in
    let y = with_deadline v.deadline x in
    ap (λ (m : List Kind). changed_at (changed_at m i (with_deadline v.deadline)) i (with_length v.length))
    (changed_again l i w no_kind (with_separation v.separation) h)
    ∙ ap (λ (m : List Kind). changed_at m i (with_length v.length)) (changed_again l i x no_kind (with_deadline v.deadline) h)
    ∙ changed_again l i y no_kind (with_length v.length) h

-- the step of the loop over the kinds
pub kinds_again : (i : ℕ) (s : List ℕ) (m : List Kind) (v : Kind) → m ≡ kinds_from i s → i < 16 → v ≡ kind_from (drop (kind_place i) s)
    → changed_at (changed_at (changed_at (changed_at m i (with_project v.project)) i (with_separation v.separation)) i
    (with_deadline v.deadline)) i (with_length v.length) ≡ kinds_from (i + 1) s
kinds_again i s m v e l f =
    let k : ℕ → Kind = λ j. kind_from (drop (kind_place j) s) in
    let n : length m ≡ 16 = ap length e ∙ written_length i k (replicate 16 no_kind) in
    kind_stored m i v (omega arith) ∙ written_again i k (replicate 16 no_kind) m v e f

-- ---- the whole records

-- the counts and the places make the plan
pub plan_from_law : (s : List ℕ) (m k n f : ℕ) (projects : List Project) (kinds : List Kind) → m ≡ number_to 1 (drop 0 s)
    → k ≡ number_to 1 (drop 1 s) → n ≡ number_to 1 (drop 2 s) → f ≡ number_to 1 (drop 3 s) → m < 256 → k < 256 → n < 256 → f < 256
    → projects ≡ projects_from 8 s → kinds ≡ kinds_from 16 s
    → record { cards = m; projects = k; kinds = n; frame = f; project = projects; kind = kinds } ≡ plan_from s
unfolding plan_from fields_of unpack
plan_from_law s m k n f projects kinds e g h i j l o q a b =
    let x = number_to 4 (drop 0 s) in
    let all : x ≡ m * 16777216 + k * 65536 + n * 256 + f = omega (arith, number_cut 3 1 0 s, number_cut 2 1 0 s, number_cut 1 1 0 s) in
    let r : m ≡ x / 16777216 % 256 = omega arith in
    let t : k ≡ x / 65536 % 256 = omega arith in
    let u : n ≡ x / 256 % 256 = omega arith in
    let v : f ≡ x / 1 % 256 = rw (div-one x) (omega arith) in
    λ z. record { cards = r z; projects = t z; kinds = u z; frame = v z; project = a z; kind = b z }

-- the plan, the slice, the units and the sums make the state
pub state_from_law : (s : List ℕ) (p : Plan) (slice : ℕ) (units : List Unit) (sums : List ℕ) → p ≡ plan_from s
    → slice ≡ slice_from (drop slice_place s) → units ≡ units_from 16 s → sums ≡ sums_from 8 s
    → record { plan = p; slice = slice; unit = units; sum = sums } ≡ state_from s
unfolding state_from
state_from_law s p slice units sums e f g h = λ i. record { plan = e i; slice = f i; unit = g i; sum = h i }

-- ---- the fields of a place as its number

pub put_counts : (p : Plan) (m k n f at : ℕ) (l after : List ℕ) → m ≡ p.cards → k ≡ p.projects → n ≡ p.kinds → f ≡ p.frame
    → after ≡ sets l at (bytes_of (size_of count_widths) (m * 16777216 + k * 65536 + n * 256 + f))
    → after ≡ sets l at (placed count_widths (count_fields p))
unfolding placed pack
put_counts p m k n f at l after a b d e h =
    let x : m * 16777216 + k * 65536 + n * 256 + f ≡ p.cards * 16777216 + (p.projects * 65536 + (p.kinds * 256 + (p.frame * 1 + 0))) =
    omega arith in
    h ∙ ap (λ (y : ℕ). sets l at (bytes_of 4 y)) x

pub put_project : (v : Project) (q b at : ℕ) (l after : List ℕ) → q ≡ v.ceiling → b ≡ v.budget
    → after ≡ sets l at (bytes_of (size_of project_widths) (q * 65536 + b)) → after ≡ sets l at (placed project_widths (project_fields v))
unfolding placed pack
put_project v q b at l after e f h =
    let x : q * 65536 + b ≡ v.ceiling * 65536 + (v.budget * 1 + 0) = omega arith in
    h ∙ ap (λ (y : ℕ). sets l at (bytes_of 3 y)) x

pub put_kind : (v : Kind) (j t d c at : ℕ) (l after : List ℕ) → j ≡ v.project → t ≡ v.separation → d ≡ v.deadline → c ≡ v.length
    → after ≡ sets l at (bytes_of (size_of kind_widths) (j * 281474976710656 + t * 4294967296 + d * 65536 + c))
    → after ≡ sets l at (placed kind_widths (kind_fields v))
unfolding placed pack
put_kind v j t d c at l after e f g i h =
    let x : j * 281474976710656 + t * 4294967296 + d * 65536 + c ≡ v.project * 281474976710656 +
    (v.separation * 4294967296 + (v.deadline * 65536 + (v.length * 1 + 0))) = omega arith in
    h ∙ ap (λ (y : ℕ). sets l at (bytes_of 7 y)) x

pub put_slice : (slice x at : ℕ) (l after : List ℕ) → x ≡ slice → after ≡ sets l at (bytes_of (size_of slice_widths) x)
    → after ≡ sets l at (placed slice_widths (slice ∷ []))
unfolding placed pack
put_slice slice x at l after e h = let z : x ≡ slice * 1 + 0 = omega arith in h ∙ ap (λ (y : ℕ). sets l at (bytes_of 1 y)) z

pub put_unit : (v : Unit) (z r w at : ℕ) (l after : List ℕ) → z ≡ cond v.released 1 0 → r ≡ v.gone → w ≡ v.left
    → after ≡ sets l at (bytes_of (size_of unit_widths) (z * 4294967296 + r * 65536 + w))
    → after ≡ sets l at (placed unit_widths (unit_fields v))
unfolding placed pack
put_unit v z r w at l after e f g h =
    let x : z * 4294967296 + r * 65536 + w ≡ cond v.released 1 0 * 4294967296 + (v.gone * 65536 + (v.left * 1 + 0)) =
    omega arith in
    h ∙ ap (λ (y : ℕ). sets l at (bytes_of 5 y)) x

pub put_sum : (sum x at : ℕ) (l after : List ℕ) → x ≡ sum → after ≡ sets l at (bytes_of (size_of sum_widths) x)
    → after ≡ sets l at (placed sum_widths (sum ∷ []))
unfolding placed pack
put_sum sum x at l after e h = let z : x ≡ sum * 1 + 0 = omega arith in h ∙ ap (λ (y : ℕ). sets l at (bytes_of 2 y)) z

-- ---- the whole images

pub state_length : (s : State) → length (state_image s) ≡ state_size
unfolding state_image
state_length s = rows_length state_rows (state_values s) refl

-- row by row, before what was there
pub store_plan : (p : Plan) (out a b after : List ℕ) → plan_size ≤ length out → a ≡ sets out 0 (placed count_widths (count_fields p))
    → b ≡ put_to 8 (project_bytes_at p) (project_place 0) (size_of project_widths) a
    → after ≡ put_to 16 (kind_bytes_at p) (kind_place 0) (size_of kind_widths) b
    → after ≡ plan_image p ++ drop plan_size out
unfolding plan_image put_rows put_to
store_plan p out a b after l e f g = rw (g, f, e) (rows_stored plan_rows (plan_values p) out refl l)

pub store_state : (s : State) (out a b d after : List ℕ) → state_size ≤ length out → a ≡ plan_image s.plan ++ drop plan_size out
    → b ≡ sets a slice_place (placed slice_widths (s.slice ∷ [])) → d ≡ put_to 16 (unit_bytes_at s) (unit_place 0) (size_of unit_widths) b
    → after ≡ put_to 8 (sum_bytes_at s) (sum_place 0) (size_of sum_widths) d
    → after ≡ state_image s ++ drop state_size out
unfolding plan_image state_image put_rows put_to
store_state s out a b d after l e f g h =
    rw (h, g, f, e, ← (rows_stored plan_rows (plan_values s.plan) out refl (omega arith)))
    (rows_stored state_rows (state_values s) out refl l)

-- ---- what follows the plan in a state's image

running_rows : List Row
running_rows = drop 3 state_rows

running_values : State → List Values
running_values s = drop 3 (state_values s)

image_parts : (s : State) → state_image s ≡ plan_image s.plan ++ rows_bytes running_rows (running_values s)
unfolding state_image plan_image running_rows running_values
image_parts s = rows_append plan_rows (drop 3 state_rows) (plan_values s.plan) (drop 3 (state_values s)) refl

running_part : (s : State) → drop plan_size (state_image s) ≡ rows_bytes running_rows (running_values s)
unfolding plan_image
running_part s =
    ap (drop plan_size) (image_parts s)
    ∙ drop_at (plan_image s.plan) (rows_bytes running_rows (running_values s)) plan_size (rows_length plan_rows (plan_values s.plan) refl)

-- the plan's image, and then that
pub image_split : (s : State) → state_image s ≡ plan_image s.plan ++ drop plan_size (state_image s)
image_split s = image_parts s ∙ ap (λ (x : List ℕ). plan_image s.plan ++ x) (sym (running_part s))

-- row by row, between what was there
pub store_running : (s : State) (out b d after : List ℕ) → state_size ≤ length out
    → b ≡ sets out slice_place (placed slice_widths (s.slice ∷ [])) → d ≡ put_to 16 (unit_bytes_at s) (unit_place 0) (size_of unit_widths) b
    → after ≡ put_to 8 (sum_bytes_at s) (sum_place 0) (size_of sum_widths) d
    → after ≡ running_over s out
unfolding running_rows running_values put_rows put_to
store_running s out b d after l f g h =
    rw (h, g, f, running_part s) (rows_between running_rows (running_values s) plan_size out refl l)
