-- Decoding what was encoded gives it back: a plan's image and a state's, whatever follows them. Encoding what was decoded gives the bytes
-- back: a plan's, so that a state can be stored over an image of its plan by what follows the plan.
-- Assumes nothing.
use Rattle.std.specs.Prelude.{◌≡◌, Bool, true, false, cond, ℕ, ◌+◌, ◌*◌, ◌≤◌, ◌<◌, eqb, length, take, drop, replicate}
use Rattle.std.proofs.Math.Path.{refl, ap}
use Rattle.std.proofs.Common.{sym, ◌∙◌, ext_get_or, le-leb, lt-ltb}
use mathlib.Core.List.{List, ◌++◌, append-nil}
use Rattle.std.proofs.Math.Decide.{dec_lt}
use native.Mathlib.Omega.{arith}
use Rattle.std.proofs.Math.ListN.{get_or}
use Rattle.std.proofs.Math.Seq.{take-add, drop-drop}
use Rattle.laws.specs.All.Properties.{all_of}
use Rattle.laws.specs.Written.{written}
use Rattle.laws.specs.Written.Properties.{written_at, written_length}
use Rattle.codec.specs.Pack.{unpack}
use Rattle.codec.specs.Bytes.{AreBytes}
use Rattle.codec.specs.Place.{fields_of}
use Rattle.codec.specs.Rows.{row, rows_bytes}
use Rattle.codec.specs.Rows.Properties.{row_fields, row_again}
use Rattle.answer.specs.declared.Answer.{Answer}
use Rattle.answer.specs.Answer.{if_good}
use Rattle.plan.specs.declared.Project.{Project}
use Rattle.plan.specs.declared.Kind.{Kind}
use Rattle.plan.specs.declared.Plan.{Plan}
use Rattle.plan.specs.Record.{no_project, no_kind}
use Rattle.plan.specs.Order.{project_of, kind_of}
use Rattle.unit.specs.declared.Unit.{Unit}
use Rattle.rack.specs.declared.State.{State}
use Rattle.unit.specs.Unit.{no_unit}
use Rattle.rack.specs.State.{unit_of}
use Rattle.images.specs.Image.{count_widths, project_widths, kind_widths, unit_widths, plan_rows, state_rows, project_place}
use Rattle.images.specs.Image.{kind_place, slice_place, unit_place, sum_place, project_from, kind_from, slice_from, unit_from, sum_from}
use Rattle.images.specs.Image.{projects_from, kinds_from, units_from, sums_from, plan_from, state_from, released_at, released_told}
use Rattle.images.specs.Image.{count_fields, project_fields}
use Rattle.images.specs.Image.{kind_fields, unit_fields, plan_values, state_values, plan_image, state_image}
use Rattle.images.specs.Image.{plan_size, state_size, running_over}
use Rattle.images.specs.Image.Properties.{image_split}
use Rattle.images.specs.Lent.{room, StoresState, StoresRunning}
use Rattle.images.specs.Typed.{PlanTyped, StateTyped}

-- ---- fields that were found are the record

project_read : (s : List ℕ) (v : Project) → fields_of project_widths s ≡ project_fields v → project_from s ≡ v
unfolding project_from
project_read s v e = rw e

kind_read : (s : List ℕ) (v : Kind) → fields_of kind_widths s ≡ kind_fields v → kind_from s ≡ v
unfolding kind_from
kind_read s v e = rw e

flag_read : (b : Bool) → eqb (cond b 1 0) 1 ≡ b
flag_read true = refl
flag_read false = refl

unit_read : (s : List ℕ) (v : Unit) → fields_of unit_widths s ≡ unit_fields v → unit_from s ≡ v
unfolding unit_from
unit_read s v e = rw e (let f = flag_read v.released in λ i. record { gone = v.gone; left = v.left; released = f i })

-- every place written is the whole list
written_all : {A : Type 0} (n : ℕ) (f : ℕ → A) (l r : List A) (d : A) → length l ≡ n → length r ≡ n → ((i : ℕ) → i < n → f i ≡ get_or r i d)
    → written n f l ≡ r
written_all n f l r d p q h =
    let m = written_length n f l in
    ext_get_or d (written n f l) r (m ∙ p ∙ sym q) (λ i k. written_at n f l d i (omega arith) (omega arith) ∙ h i (omega arith))

-- ---- a plan whose places are found in s

module _ (p : Plan) (typed : PlanTyped p) (s : List ℕ)
    (counts-found : fields_of count_widths s ≡ count_fields p)
    (project-found : (j : ℕ) → j < 8 → fields_of project_widths (drop (project_place j) s) ≡ project_fields (project_of p j))
    (kind-found : (i : ℕ) → i < 16 → fields_of kind_widths (drop (kind_place i) s) ≡ kind_fields (kind_of p i)) where
  projects_are : projects_from 8 s ≡ p.project
  projects_are =
      written_all 8 (λ j. project_from (drop (project_place j) s)) (replicate 8 no_project) p.project no_project refl typed.shaped.eight
      (λ j l. project_read (drop (project_place j) s) (project_of p j) (project-found j l))

  kinds_are : kinds_from 16 s ≡ p.kind
  kinds_are =
      written_all 16 (λ i. kind_from (drop (kind_place i) s)) (replicate 16 no_kind) p.kind no_kind refl typed.shaped.sixteen
      (λ i l. kind_read (drop (kind_place i) s) (kind_of p i) (kind-found i l))

  plan_said : plan_from s ≡ p
  unfolding plan_from
  plan_said =
      let a = projects_are in
      let b = kinds_are in
      rw counts-found
      (λ i. record { cards = p.cards; projects = p.projects; kinds = p.kinds; frame = p.frame; project = a i; kind = b i })

-- a plan stored and found again
pub plan_round_trip : (p : Plan) → PlanTyped p → (rest : List ℕ) → plan_from (plan_image p ++ rest) ≡ p
unfolding plan_image
plan_round_trip p typed rest =
    let s = plan_image p ++ rest in
    plan_said p typed s
    (row_fields plan_rows (plan_values p) 0 0 s rest refl (omega arith) (omega arith) refl refl typed.counts_fit)
    (λ j l. row_fields plan_rows (plan_values p) 1 j s rest refl (omega arith) l refl refl (typed.project_fits j l))
    (λ i l. row_fields plan_rows (plan_values p) 2 i s rest refl (omega arith) l refl refl (typed.kind_fits i l))

-- ---- a state that stands at the front of s

module _ (v : State) (typed : StateTyped v) (rest : List ℕ) where
  s : List ℕ
  s = state_image v ++ rest

  unit_found : (i : ℕ) → i < 16 → fields_of unit_widths (drop (unit_place i) s) ≡ unit_fields (unit_of v i)
  unfolding s state_image
  unit_found i l = row_fields state_rows (state_values v) 4 i s rest refl (omega arith) l refl refl (typed.unit_fits i l)

  units_are : units_from 16 s ≡ v.unit
  units_are =
      written_all 16 (λ i. unit_from (drop (unit_place i) s)) (replicate 16 no_unit) v.unit no_unit refl typed.places.sixteen
      (λ i l. unit_read (drop (unit_place i) s) (unit_of v i) (unit_found i l))

  sums_are : sums_from 8 s ≡ v.sum
  unfolding s state_image sum_from
  sums_are =
      written_all 8 (λ j. sum_from (drop (sum_place j) s)) (replicate 8 0) v.sum 0 refl typed.places.eight
      (λ j l. ap (λ (k : List ℕ). get_or k 0 0)
      (row_fields state_rows (state_values v) 5 j s rest refl (omega arith) l refl refl (typed.sum_fits j l)))

  slice_is : slice_from (drop slice_place s) ≡ v.slice
  unfolding s state_image slice_from
  slice_is = ap (λ (l : List ℕ). get_or l 0 0)
      (row_fields state_rows (state_values v) 3 0 s rest refl (omega arith) (omega arith) refl refl typed.slice_fits)

  plan_is : plan_from s ≡ v.plan
  unfolding s state_image
  plan_is =
      let t = typed.plan_typed in
      plan_said v.plan t s
      (row_fields state_rows (state_values v) 0 0 s rest refl (omega arith) (omega arith) refl refl t.counts_fit)
      (λ j l. row_fields state_rows (state_values v) 1 j s rest refl (omega arith) l refl refl (t.project_fits j l))
      (λ i l. row_fields state_rows (state_values v) 2 i s rest refl (omega arith) l refl refl (t.kind_fits i l))

  flag_small : (b : Bool) → cond b 1 0 ≤ 1
  flag_small true = omega arith
  flag_small false = omega arith

  -- a state stored and found again
  pub state_round_trip : state_from (state_image v ++ rest) ≡ v
  unfolding s state_from
  state_round_trip =
      let a = plan_is in
      let b = slice_is in
      let d = units_are in
      let e = sums_are in
      λ i. record { plan = a i; slice = b i; unit = d i; sum = e i }

  -- and each of its released bytes is 0 or 1
  pub state_told : released_told (state_image v ++ rest) ≡ true
  unfolding s released_told
  state_told =
      all_of 16 (released_at s)
      (λ i l. rw (unit_found i l) (le-leb (cond (unit_of v i).released 1 0) 1 (flag_small (unit_of v i).released)))

-- ---- a plan that was found in s, stored again

module _ (s : List ℕ) (bytes : AreBytes s) (long : plan_size ≤ length s) where
  counts_again : (i : ℕ) → i < 1 → count_fields (plan_from s) ≡ fields_of count_widths (drop (0 + 4 * i) s)
  unfolding plan_from fields_of unpack
  counts_again i l = let z : 0 + 4 * i ≡ 0 = omega arith in rw z

  project_again : (j : ℕ) → j < 8 → project_fields (project_of (plan_from s) j) ≡ fields_of project_widths (drop (project_place j) s)
  unfolding plan_from project_from fields_of unpack
  project_again j l = ap project_fields
      (written_at 8 (λ k. project_from (drop (project_place k) s)) (replicate 8 no_project) no_project j l (omega arith))

  kind_again : (i : ℕ) → i < 16 → kind_fields (kind_of (plan_from s) i) ≡ fields_of kind_widths (drop (kind_place i) s)
  unfolding plan_from kind_from fields_of unpack
  kind_again i l = ap kind_fields
      (written_at 16 (λ k. kind_from (drop (kind_place k) s)) (replicate 16 no_kind) no_kind i l (omega arith))

  pub plan_again : plan_image (plan_from s) ≡ take plan_size s
  unfolding plan_image rows_bytes
  plan_again =
      let p = plan_from s in
      let counts = row_again (row 1 count_widths) (λ i. count_fields p) 0 s refl bytes (omega arith) counts_again in
      let projects = row_again (row 8 project_widths) (λ j. project_fields (project_of p j)) 4 s refl bytes (omega arith) project_again in
      let kinds = row_again (row 16 kind_widths) (λ i. kind_fields (kind_of p i)) 28 s refl bytes (omega arith) kind_again in
      rw (counts, projects, kinds, append-nil (take 112 (drop 28 s)), take-add 4 136 s, take-add 24 112 (drop 4 s), drop-drop 24 4 s)

-- what follows the plan, stored over an image of that plan, makes the state's image
pub running_stores : (v : State) (s : List ℕ) (x : Answer) (after : List ℕ) → AreBytes s → v.plan ≡ plan_from s
    → StoresRunning v s x after → StoresState v s x after
running_stores v s x after bytes e t = record { result = t.result; buffer = t.buffer ∙ same }
  where
    whole : state_size ≤ length s → take plan_size s ++ drop plan_size (state_image v) ≡ state_image v
    whole l =
        ap (λ (k : List ℕ). k ++ drop plan_size (state_image v)) (sym (plan_again s bytes (omega arith)) ∙ ap plan_image (sym e))
        ∙ sym (image_split v)

    same : if_good (room s state_size) (running_over v s) s ≡ if_good (room s state_size) (state_image v ++ drop state_size s) s
    same =
        elim (dec_lt (length s) state_size) [
          | yes l ↦ rw (lt-ltb (length s) state_size l)
          | no l ↦ ap (λ (k : List ℕ). if_good (room s state_size) (k ++ drop state_size s) s) (whole (omega arith))
        ]
