-- What is found at the front of s is found in its first n bytes.
-- Assumes nothing.
use Rattle.std.specs.Prelude.{◌≡◌, refl, Err, Bool, List, length, ◌<◌, ℕ, zero, suc, ◌+◌, ◌≤◌, leb, take, drop, get_or, replicate}
use Rattle.std.specs.Array.{IsFirstChunk}
use Rattle.std.proofs.Common.{sym, ap, ◌∙◌, arith, le-ltb, length-take-le}
use Rattle.std.proofs.Math.Seq.{take-take}
use Rattle.std.proofs.lemmas.List.{drop-take}
use Rattle.laws.specs.All.{all_to}
use Rattle.laws.specs.Written.Properties.{written_cong}
use Rattle.codec.specs.Bytes.{number_to}
use Rattle.codec.specs.Bytes.Properties.{number_take}
use Rattle.codec.specs.Pack.{unpack}
use Rattle.codec.specs.Place.{size_of, fields_of}
use Rattle.plan.specs.Record.{no_project, no_kind}
use Rattle.unit.specs.Unit.{no_unit}
use Rattle.images.specs.Image.{count_widths, project_widths, kind_widths, slice_widths, unit_widths, sum_widths, plan_size, state_size}
use Rattle.images.specs.Image.{project_place, kind_place, slice_place, unit_place, sum_place, project_from, kind_from, slice_from}
use Rattle.images.specs.Image.{unit_from, sum_from, projects_from, kinds_from, units_from, sums_from, plan_from, state_from}
use Rattle.images.specs.Image.{released_at, released_told}
use Rattle.images.specs.Lent.{room, plan_found, found_answer, state_found}
use Rattle.images.specs.Lent.Properties.{short_room, long_room}
use Rattle.answer.specs.declared.Answer.{Answer}
use Rattle.answer.specs.Answer.{bare, if_good}
use Rattle.answer.specs.Answer.Properties.{value_no}
use Rattle.answer.specs.declared.Answer.TheVariants.{Good, No}
use Rattle.answer.specs.declared.Refusal.{Refusal}
use Rattle.std.proofs.Math.Decide.{dec_lt}

all_cong : (n : ℕ) (f g : ℕ → Bool) → ((i : ℕ) → i < n → f i ≡ g i) → all_to n f ≡ all_to n g
unfolding all_to
all_cong zero f g h = refl
all_cong (suc n) f g h = rw (all_cong n f g (λ i m. h i (omega arith)), h n (omega arith))

number_front : (k at n : ℕ) (s : List ℕ) → at + k ≤ n → number_to k (drop at (take n s)) ≡ number_to k (drop at s)
number_front k at n s l =
    sym (number_take k (drop at (take n s)))
    ∙ ap (number_to k) (sym (drop-take at k (take n s)) ∙ ap (drop at) (take-take (at + k) n s l) ∙ drop-take at k s)
    ∙ number_take k (drop at s)

fields_front : (ws : List ℕ) (at n : ℕ) (s : List ℕ) → at + size_of ws ≤ n → fields_of ws (drop at (take n s)) ≡ fields_of ws (drop at s)
unfolding fields_of
fields_front ws at n s l = ap (unpack ws) (number_front (size_of ws) at n s l)

project_front : (at n : ℕ) (s : List ℕ) → at + 3 ≤ n → project_from (drop at (take n s)) ≡ project_from (drop at s)
unfolding project_from
project_front at n s l = rw (fields_front project_widths at n s l)

kind_front : (at n : ℕ) (s : List ℕ) → at + 7 ≤ n → kind_from (drop at (take n s)) ≡ kind_from (drop at s)
unfolding kind_from
kind_front at n s l = rw (fields_front kind_widths at n s l)

plan_take : (n : ℕ) (s : List ℕ) → plan_size ≤ n → plan_from (take n s) ≡ plan_from s
unfolding plan_from
plan_take n s l =
    let counts = fields_front count_widths 0 n s (omega arith) in
    let projects : projects_from 8 (take n s) ≡ projects_from 8 s =
    written_cong 8 _ _ (replicate 8 no_project) (λ j m. project_front (project_place j) n s (omega arith)) in
    let kinds : kinds_from 16 (take n s) ≡ kinds_from 16 s =
    written_cong 16 _ _ (replicate 16 no_kind) (λ i m. kind_front (kind_place i) n s (omega arith)) in
    rw (counts, projects, kinds)

pub plan_front : (n : ℕ) (s y : List ℕ) → IsFirstChunk s y n → plan_size ≤ n → plan_from y ≡ plan_from s
plan_front n s y f l = ap plan_from f.same ∙ plan_take n s l

pub found_front : (n : ℕ) (s y : List ℕ) → IsFirstChunk s y n → plan_size ≤ n → plan_found y ≡ plan_found s
unfolding plan_found
found_front n s y f l =
    let long : length y ≡ n = ap length f.same ∙ length-take-le n s f.enough in
    rw (le-ltb (length y) plan_size (omega (arith, long)), le-ltb (length s) plan_size (omega (arith, f.enough)), plan_front n s y f l)

slice_front : (at n : ℕ) (s : List ℕ) → at + 1 ≤ n → slice_from (drop at (take n s)) ≡ slice_from (drop at s)
unfolding slice_from
slice_front at n s l = rw (fields_front slice_widths at n s l)

unit_front : (at n : ℕ) (s : List ℕ) → at + 5 ≤ n → unit_from (drop at (take n s)) ≡ unit_from (drop at s)
unfolding unit_from
unit_front at n s l = rw (fields_front unit_widths at n s l)

sum_front : (at n : ℕ) (s : List ℕ) → at + 2 ≤ n → sum_from (drop at (take n s)) ≡ sum_from (drop at s)
unfolding sum_from
sum_front at n s l = rw (fields_front sum_widths at n s l)

pub state_front : (n : ℕ) (s y : List ℕ) → IsFirstChunk s y n → state_size ≤ n → state_from y ≡ state_from s
unfolding state_from
state_front n s y f l =
    let plan = plan_front n s y f (omega arith) in
    let slice = slice_front slice_place n s (omega arith) in
    let units : units_from 16 (take n s) ≡ units_from 16 s =
    written_cong 16 _ _ (replicate 16 no_unit) (λ i m. unit_front (unit_place i) n s (omega arith)) in
    let sums : sums_from 8 (take n s) ≡ sums_from 8 s =
    written_cong 8 _ _ (replicate 8 0) (λ j m. sum_front (sum_place j) n s (omega arith)) in
    rw (plan, f.same, slice, units, sums)

pub told_front : (n : ℕ) (s y : List ℕ) → IsFirstChunk s y n → state_size ≤ n → released_told y ≡ released_told s
unfolding released_told
told_front n s y f l =
    rw f.same
    (all_cong 16 (released_at (take n s)) (released_at s)
    (λ i m. ap (λ (fs : List ℕ). leb (get_or fs 0 0) 1) (fields_front unit_widths (unit_place i) n s (omega arith))))

never : (w : Refusal) → Good ≡ No w → ⊥
never w e = let z : ◌≡◌ {A = ℕ} 0 1 = ap (λ (x : Answer). if_good x 1 0) (sym e) in omega (arith, z)

-- no plan found, so no state
pub plan_unfound : (s : List ℕ) (w : Refusal) → Err w ≡ plan_found s → Err w ≡ state_found s
unfolding plan_found state_found found_answer
plan_unfound s w e =
    let a : room s plan_size ≡ No w = value_no (room s plan_size) (plan_from s) w e in
    elim (dec_lt (length s) plan_size) [
      | yes l ↦ short a l
      | no l ↦ absurd (never w (long_room s plan_size (omega arith) ∙ a))
    ]
  where
    short : room s plan_size ≡ No w → length s < plan_size → Err w ≡ state_found s
    short a l =
        let r : room s state_size ≡ No w =
        sym (short_room s state_size (bare 9) refl (omega arith)) ∙ short_room s plan_size (bare 9) refl l ∙ a in
        let b : found_answer s ≡ No w = rw r in
        rw b
