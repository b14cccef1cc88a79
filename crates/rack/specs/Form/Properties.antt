-- Laws of the form: what a good answer says of each place, and that nothing less is asked.
-- Assumes nothing.
use Rattle.std.specs.Prelude.{◌≡◌, ◌≢◌, refl, Bool, false, not, ◌&&◌, ltb, length, take, replicate, MatchBool}
use Rattle.std.proofs.Common.{sym, ◌∙◌, arith}
use Rattle.std.proofs.Math.Path.{ap}
use Rattle.std.proofs.Math.Bool.{true}
use mathlib.Core.List.{List}
use Prim.Native.Nat.{ℕ, zero, suc, ◌+◌, ◌-◌, ◌≤◌, ◌<◌}
use Rattle.std.proofs.Math.Decide.{dec_lt}
use Rattle.std.proofs.Math.Dec.{eqb}
use Rattle.std.proofs.Math.ListN.{get_or}
use Rattle.std.proofs.lemmas.List.{get_or-take, length-take-le, ext_get_or}
use Rattle.std.specs.Cmp.Lexicographic.{told_text}
use lib.Pointwise.{pointwise}
use borrow.Author.Tests.{lt-ltb, le-ltb, ltb-true, eq-eqb, eqb-true, not-false}
use Rattle.laws.specs.Tests.{and_left, and_right, and_both, told_yes, told_no, second_no}
use Rattle.laws.specs.Sum.{sum_to}
use Rattle.laws.specs.Sum.Properties.{sum_more}
use Rattle.laws.specs.All.{all_to}
use Rattle.laws.specs.All.Properties.{all_at, all_of, all_fails}
use Rattle.laws.specs.Written.Properties.{written_cong, stored_at}
use Rattle.answer.specs.declared.Answer.{Answer}
use Rattle.answer.specs.declared.Answer.TheVariants.{Good}
use Rattle.answer.specs.Answer.{bare, refuse, ◌and_then◌}
use Rattle.answer.specs.Answer.Properties.{and_then_left, and_then_right, refuse_good}
use Rattle.plan.specs.Order.{empty_kind, InOrder, checked}
use Rattle.plan.specs.Order.Properties.{in_order, in_order_good}
use Rattle.unit.specs.declared.Unit.{Unit}
use Rattle.unit.specs.Form.{UnitInForm, fits_place}
use Rattle.unit.specs.Form.Properties.{unit_says, unit_of_law, empty_says, empty_of}
use Rattle.rack.specs.declared.State.{State}
use Rattle.rack.specs.State.{unit_of, kind_at, kind_places, InUse, used, ProjectInUse, project_places, project_used, sum_at}
use Rattle.rack.specs.Sums.{left_for, project_left, sum_right, sums_right, left_below, left_row}
use Rattle.rack.specs.Sums.Properties.{sums_say, sums_of, left_none, below_at, below_all, sum_most}
use Rattle.rack.specs.Form.{InForm, Ready, place_in_form, sum_fits, sum_in_form, sums_in_form, in_form, sums_told, ready, sums_fit}
use Rattle.rack.specs.Form.{sums_agree}

-- ---- a place in use, asked by a test

in_use : (s : State) (i : ℕ) → Dec (InUse s i)
in_use s i = dec_lt i (kind_places s)

pub not_used : (s : State) (i : ℕ) → (InUse s i → ⊥) → kind_places s ≤ i
not_used s i l = elim (in_use s i) [ yes m ↦ absurd (l m) | no m ↦ omega arith ]

pub used_of : (s : State) (i : ℕ) → InUse s i → used s i ≡ true
used_of s i l = lt-ltb i (kind_places s) l

used_not : (s : State) (i : ℕ) → (InUse s i → ⊥) → used s i ≡ false
used_not s i l = le-ltb i (kind_places s) (not_used s i l)

pub used_says : (s : State) (i : ℕ) → used s i ≡ true → InUse s i
used_says s i e = ltb-true i (kind_places s) e

-- what the code found of a place: u is whether it is in use, and b whether its unit may stand there
pub place_found : (s : State) (i : ℕ) (u b : Bool) → u ≡ used s i →
    b ≡ fits_place u (kind_at s i) (unit_of s i) → b ≡ place_in_form s i
place_found s i u b e q = q ∙ ap (λ (x : Bool). fits_place x (kind_at s i) (unit_of s i)) e

-- ---- the stored sums

pub fits_used : (used : Bool) (sum : ℕ) → used ≡ true → used ≡ sum_fits used sum
unfolding sum_fits
fits_used used sum e = rw e

pub fits_zero : (used : Bool) (sum : ℕ) → used ≡ false → eqb sum 0 ≡ sum_fits used sum
unfolding sum_fits
fits_zero used sum e = rw e

pub project_used_law : (s : State) (j : ℕ) → ProjectInUse s j → project_used s j ≡ true
project_used_law s j l = lt-ltb j (project_places s) l

pub project_unused : (s : State) (j : ℕ) → (ProjectInUse s j → ⊥) → project_used s j ≡ false
project_unused s j l =
    elim (dec_lt j (project_places s)) [ yes m ↦ absurd (l m) | no m ↦ le-ltb j (project_places s) (omega arith) ]

-- what the test says of a place beyond p
sum_says : (s : State) (j : ℕ) → (ProjectInUse s j → ⊥) → sum_in_form s j ≡ true → sum_at s j ≡ 0
unfolding sum_fits
sum_says s j l e = eqb-true (sum_at s j) 0 (rw (project_unused s j l) at e)

sum_of : (s : State) (j : ℕ) → ((ProjectInUse s j → ⊥) → sum_at s j ≡ 0) → sum_in_form s j ≡ true
unfolding sum_fits
sum_of s j h =
    elim (dec_lt j (project_places s)) [
      | yes m ↦ rw (project_used_law s j m)
      | no m ↦ rw (project_unused s j m, eq-eqb (sum_at s j) 0 (h m))
    ]

-- ---- the whole state

-- what the test says of each place
pub form_says : (s : State) → in_form s ≡ true → InForm s
unfolding in_form sums_in_form
form_says s e =
    let rest = all_to 16 (place_in_form s) && sums_in_form s in
    let both = and_right (ltb s.slice s.plan.frame) rest e in
    let places = all_at 16 (place_in_form s) (and_left (all_to 16 (place_in_form s)) (sums_in_form s) both) in
    let sums = all_at 8 (sum_in_form s) (and_right (all_to 16 (place_in_form s)) (sums_in_form s) both) in
    record {
      slice_below = ltb-true s.slice s.plan.frame (and_left (ltb s.slice s.plan.frame) rest e);
      unit_at = λ i l m. unit_says (kind_at s i) (unit_of s i) (rw (used_of s i m) at (places i l));
      unused = λ i l m. empty_says (unit_of s i) (rw (used_not s i m) at (places i l));
      sums_unused = λ j l m. sum_says s j m (sums j l);
    }

-- and nothing more is asked
pub form_of : (s : State) → InForm s → in_form s ≡ true
unfolding in_form sums_in_form
form_of s f =
    let range = lt-ltb s.slice s.plan.frame f.slice_below in
    let places = all_of 16 (place_in_form s) place in
    let sums = all_of 8 (sum_in_form s) (λ j l. sum_of s j (f.sums_unused j l)) in
    and_both (ltb s.slice s.plan.frame) (all_to 16 (place_in_form s) && sums_in_form s) range
    (and_both (all_to 16 (place_in_form s)) (sums_in_form s) places sums)
  where
    place : (i : ℕ) → i < 16 → place_in_form s i ≡ true
    place i l =
        elim (in_use s i) [
          | yes m ↦ rw (used_of s i m) (unit_of_law (kind_at s i) (unit_of s i) (f.unit_at i l m))
          | no m ↦ rw (used_not s i m) (empty_of (unit_of s i) (f.unused i l m))
        ]

-- none of the record order, 10 and 16: the plan is in order, the state in form and its sums right
pub ready_says : (s : State) → ready s ≡ Good → Ready s
unfolding ready sums_told
ready_says s e =
    let ten = refuse (not (in_form s)) (bare 10) in
    let both = and_then_right (checked s.plan) (ten and_then sums_told s) e in
    record {
      order = in_order s.plan (and_then_left (checked s.plan) (ten and_then sums_told s) e);
      form = form_says s (not-false (in_form s) (refuse_good (not (in_form s)) _ (and_then_left ten (sums_told s) both)));
      sums = sums_say s (not-false (sums_right s) (refuse_good (not (sums_right s)) _ (and_then_right ten (sums_told s) both)));
    }

-- what the check answered, opened
pub ready_opened : (s : State) (r : Answer) → r ≡ Good → r ≡ ready s → Ready s
ready_opened s r good is = ready_says s (sym is ∙ good)

-- and nothing more is asked
pub ready_of : (s : State) → Ready s → ready s ≡ Good
unfolding ready sums_told
ready_of s r = rw (in_order_good s.plan r.order, form_of s r.form, sums_of s r.sums)

-- ---- its places

pub places_most : (s : State) (n : ℕ) → Ready s → n ≡ kind_places s → n ≤ 16
places_most s n r e = omega (arith, r.order.counts.kinds_most)

pub place_most : (s : State) (i : ℕ) → Ready s → InUse s i → i < 16
place_most s i r l = omega (arith, r.order.counts.kinds_most)

pub unit_form : (s : State) (i : ℕ) → Ready s → InUse s i → UnitInForm (kind_at s i) (unit_of s i)
unit_form s i r l = r.form.unit_at i (place_most s i r l) l

-- ---- what the check answered, opened: u is whether place i is in use

module _ (s : State) (i : ℕ) (r : Answer) (u : Bool) (good : r ≡ Good) (is : r ≡ ready s) (e : u ≡ used s i) (yes : not u ≡ false) where
  kind_opened : InUse s i
  kind_opened = used_says s i (sym e ∙ not-false u yes)

  -- a kind's place is one of the sixteen
  pub ready_place : i < 16
  ready_place = place_most s i (ready_opened s r good is) kind_opened

-- ---- the pass over the kinds, which goes through places in form: i is how far it is, and l what is left so far

-- at most 4095 is left at a place in form
place_left : (s : State) → InOrder s.plan → (i : ℕ) → i < 16 → place_in_form s i ≡ true → (unit_of s i).left ≤ 4095
place_left s o i l e =
    elim (in_use s i) [
      | yes m ↦ used_left m (unit_says (kind_at s i) (unit_of s i) (rw (used_of s i m) at e))
      | no m ↦ omega (arith, ap (λ (v : Unit). v.left) (empty_says (unit_of s i) (rw (used_not s i m) at e)))
    ]
  where
    used_left : InUse s i → UnitInForm (kind_at s i) (unit_of s i) → (unit_of s i).left ≤ 4095
    used_left m u =
        let v = o.kind_at_law i m in
        omega (arith, u.left_most, v.length_most, v.deadline_most, v.separation_most)

module _ (s : State) (i : ℕ) (o : InOrder s.plan) (m : i < 16) where
  -- a kind's project is one of the eight places, also at a place beyond n
  pub look_project : (kind_at s i).project < 8
  unfolding empty_kind
  look_project = elim (in_use s i) [ yes l ↦ omega (arith, (o.kind_at_law i l).its_project, o.counts.projects_most) | no l ↦ zero l ]
    where
      zero : (InUse s i → ⊥) → (kind_at s i).project < 8
      zero l =
          let k = kind_at s i in
          let rest = eqb k.separation 0 && (eqb k.deadline 0 && eqb k.length 0) in
          let e : (eqb k.project 0 && rest) ≡ true = rw (used_not s i l) at (o.kinds_tidy i m) in
          omega (arith, eqb-true k.project 0 (and_left (eqb k.project 0) rest e))

  -- what is left so far and what is left here are together a number of 16 bits: at most 16 · 4095
  pub look_room : (l : List ℕ) (c : ℕ) → c ≡ (kind_at s i).project → l ≡ left_below s i → true ≡ all_to i (place_in_form s) →
      place_in_form s i ≡ true → get_or l c 0 + (unit_of s i).left < 65536
  look_room l c e so_far all here =
      let before = sum_most s i 4095 (λ k q. place_left s o k (omega arith) (all_at i (place_in_form s) (sym all) k q)) c in
      omega (arith, below_at s i l so_far c (omega (arith, look_project)), before, place_left s o i m here)

-- ---- the stored sums looked through: r is what a comparison of the first n told

abbrev same_at : List ℕ → List ℕ → ℕ → Bool
same_at a b j = eqb (get_or a j 0) (get_or b j 0)

pub same_front : (n : ℕ) (a b : List ℕ) → n ≤ length a → n ≤ length b → (r : Bool) → r ≡ pointwise eqb (take n a) (take n b) →
    r ≡ all_to n (same_at a b)
same_front n a b p q r e = go r (told_text (take n a) (take n b) r e)
  where
    rest : (take n a ≢ take n b) → (t : Bool) → all_to n (same_at a b) ≡ t → false ≡ all_to n (same_at a b)
    rest h false z = sym z
    rest h true z =
        let la = length-take-le n a p in
        let lb = length-take-le n b q in
        absurd (h (ext_get_or 0 (take n a) (take n b) (omega arith) (λ i l.
        get_or-take n a i 0 (omega arith) ∙ eqb-true (get_or a i 0) (get_or b i 0) (all_at n (same_at a b) z i (omega arith))
        ∙ sym (get_or-take n b i 0 (omega arith)))))

    go : (r : Bool) → MatchBool r (take n a ≡ take n b) (take n a ≢ take n b) → r ≡ all_to n (same_at a b)
    go true h =
        sym (all_of n (same_at a b) (λ i l. eq-eqb (get_or a i 0) (get_or b i 0)
        (sym (get_or-take n a i 0 l) ∙ ap (λ (m : List ℕ). get_or m i 0) h ∙ get_or-take n b i 0 l)))
    go false h = rest h (all_to n (same_at a b)) refl

-- ---- what it finds: a is the answer, and b what a test of the sums told

pub check_order : (s : State) (r : Answer) → r ≡ Good → r ≡ checked s.plan → InOrder s.plan
check_order s r good is = in_order s.plan (sym is ∙ good)

pub projects_most : (s : State) → InOrder s.plan → project_places s ≤ 8
projects_most s o = o.counts.projects_most

-- a kind with nothing left adds nothing
pub below_same : (s : State) (i : ℕ) (l : List ℕ) → l ≡ left_below s i → (unit_of s i).left ≡ 0 → l ≡ left_below s (i + 1)
below_same s i l so_far e =
    so_far ∙ written_cong 8 (λ j. sum_to i (left_for s j)) (λ j. sum_to (i + 1) (left_for s j)) (replicate 8 0)
    (λ j p. omega (arith, sum_more i (left_for s j), left_none s j i e))

all_same : (n : ℕ) (f g : ℕ → Bool) → ((i : ℕ) → i < n → f i ≡ g i) → all_to n f ≡ all_to n g
unfolding all_to
all_same zero f g h = refl
all_same (suc n) f g h = rw (all_same n f g (λ i l. h i (omega arith)), h n (omega arith))

module _ (s : State) (a : Answer) where
  not_in_form : in_form s ≡ false → a ≡ bare 10 → a ≡ (refuse (not (in_form s)) (bare 10) and_then sums_told s)
  not_in_form e q = q ∙ rw e

  in_form_told : in_form s ≡ true → a ≡ sums_told s → a ≡ (refuse (not (in_form s)) (bare 10) and_then sums_told s)
  in_form_told e q = q ∙ rw e

-- the frame has no such slice
past : (s : State) → s.plan.frame ≤ s.slice → in_form s ≡ false
unfolding in_form
past s l = rw (le-ltb s.slice s.plan.frame l)

pub formed_past : (s : State) (a : Answer) → a ≡ bare 10 → s.plan.frame ≤ s.slice →
    a ≡ (refuse (not (in_form s)) (bare 10) and_then sums_told s)
formed_past s a q l = not_in_form s a (past s l) q

-- a place is not in form
place_out : (s : State) (i : ℕ) → i < 16 → place_in_form s i ≡ false → in_form s ≡ false
unfolding in_form
place_out s i l f =
    let some : all_to 16 (place_in_form s) ≡ false = sym (all_fails 16 i (place_in_form s) f l) in
    sym (second_no (ltb s.slice s.plan.frame) _ (rw some))

pub formed_place : (s : State) (a : Answer) (i : ℕ) (b : Bool) → a ≡ bare 10 → i < 16 → b ≡ place_in_form s i → not b ≡ true →
    a ≡ (refuse (not (in_form s)) (bare 10) and_then sums_told s)
formed_place s a i b q l e t = not_in_form s a (place_out s i l (told_no (place_in_form s i) b e t)) q

-- every place is: what is left is left in the plan's kinds
module _ (s : State) (i : ℕ) (left : List ℕ) (o : InOrder s.plan) (c : s.slice < s.plan.frame) (all : true ≡ all_to i (place_in_form s))
    (p : i ≤ 16) (q : 16 ≤ i) (so_far : left ≡ left_below s i) where
  every : all_to 16 (place_in_form s) ≡ true
  every = let end : i ≡ 16 = omega arith in sym (all ∙ ap (λ (x : ℕ). all_to x (place_in_form s)) end)

  form_is : in_form s ≡ sums_fit s.sum (project_places s)
  unfolding in_form sums_in_form sums_fit
  form_is = rw (lt-ltb s.slice s.plan.frame c, every)

  row : left ≡ left_row s
  row =
      let end : i ≡ 16 = omega arith in
      let n = kind_places s in
      let most = o.counts.kinds_most in
      let unused : (k : ℕ) → k < 16 - n → (unit_of s (n + k)).left ≡ 0 = λ k l.
      ap (λ (v : Unit). v.left) (empty_says (unit_of s (n + k))
      (rw (used_not s (n + k) (λ z. omega arith)) at (all_at 16 (place_in_form s) every (n + k) (omega arith)))) in
      so_far ∙ ap (left_below s) end
      ∙ written_cong 8 (λ j. sum_to 16 (left_for s j)) (project_left s) (replicate 8 0)
      (λ j l. below_all s 16 (16 - n) (omega arith) unused j)

  agree_is : sums_agree s.sum left (project_places s) ≡ sums_right s
  unfolding sums_agree sums_right
  agree_is =
      all_same (project_places s) _ (sum_right s)
      (λ j l. ap (eqb (sum_at s j)) (ap (λ (m : List ℕ). get_or m j 0) row
      ∙ stored_at 8 8 (project_left s) j (omega (arith, o.counts.projects_most)) (omega arith)))

  module _ (a : Answer) (b : Bool) (fits : b ≡ sums_fit s.sum (project_places s)) where
    -- a sum beyond p is not zero
    pub formed_sums : not b ≡ true → a ≡ bare 10 → a ≡ (refuse (not (in_form s)) (bare 10) and_then sums_told s)
    formed_sums t = not_in_form s a (form_is ∙ told_no _ b fits t)

    module _ (t : not b ≡ false) (d : Bool) (agree : d ≡ sums_agree s.sum left (project_places s)) where
      -- a sum is not what was found
      pub formed_differ : not d ≡ true → a ≡ bare 16 → a ≡ (refuse (not (in_form s)) (bare 10) and_then sums_told s)
      unfolding sums_told
      formed_differ f e = in_form_told s a (form_is ∙ told_yes _ b fits t) (e ∙ rw (told_no _ d (agree ∙ agree_is) f))

      pub formed_good : not d ≡ false → a ≡ Good → a ≡ (refuse (not (in_form s)) (bare 10) and_then sums_told s)
      unfolding sums_told
      formed_good f e = in_form_told s a (form_is ∙ told_yes _ b fits t) (e ∙ rw (told_yes _ d (agree ∙ agree_is) f))
