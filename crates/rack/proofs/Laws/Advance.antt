-- Laws of advancing: of the state that follows, the steps of the loop that makes it, and that it is in form where no unit is late.
-- Assumes nothing.
use Rattle.std.specs.Prelude.{◌≡◌, ◌≢◌, Bool, not, ◌&&◌, List, eqb, length, get_or, set}
use Rattle.std.proofs.Math.Path.{refl, ap}
use Rattle.std.proofs.Common.{sym, ap₂, ◌∙◌, mod-eq_of_lt, eq-eqb, ne_eqb}
use Rattle.std.proofs.Math.Bool.{true, false, cond}
use Prim.Native.Nat.{ℕ, ◌+◌, ◌-◌, ◌%◌, ◌≤◌, ◌<◌, min}
use Rattle.std.proofs.Math.Decide.{dec_lt, ℕ_discrete}
use Rattle.std.proofs.Math.Nat.{mod-lt, mod_self}
use native.Mathlib.Omega.{arith}
use Rattle.std.proofs.Math.ListN.{get_or-eq_default}
use Rattle.laws.specs.Sum.Properties.{sum_le, sum_cong, sum_add}
use Rattle.laws.specs.Count.{count_to}
use Rattle.laws.specs.Count.Properties.{count_none, count_yes, count_no, count_split, count_sum}
use Rattle.laws.specs.Written.{written}
use Rattle.laws.specs.Written.Properties.{written_none, written_again, written_at, written_kept, written_length, written_stop}
use Rattle.laws.specs.Written.Properties.{written_cong}
use Rattle.answer.specs.declared.Answer.TheVariants.{Good, No}
use Rattle.answer.specs.declared.Refusal.{Refusal}
use Rattle.unit.specs.declared.Unit.{Unit}
use Rattle.unit.specs.Unit.{no_unit}
use Rattle.unit.specs.Form.{UnitInForm}
use Rattle.unit.specs.Step as Step
use Rattle.unit.specs.Step.{gone_after}
use Rattle.unit.specs.Step.Properties.{gone_never}
use Rattle.plan.specs.declared.Kind.{Kind}
use Rattle.rack.specs.declared.State.{State}
use Rattle.rack.specs.State.{unit_of, kind_at, kind_places, InUse, project_places, ProjectInUse, sum_at, Places}
use Rattle.rack.specs.State.Properties.{refused_keeps, good_moves}
use Rattle.rack.specs.Sums.{left_for, project_left, SumsRight}
use Rattle.rack.specs.Sums.Properties.{written_there, written_changed, written_here}
use Rattle.rack.specs.Form.{Ready}
use Rattle.rack.specs.Form.Properties.{ready_says, not_used}
use Rattle.rack.specs.Rank.{served}
use Rattle.rack.proofs.Laws.Rank.{served_working, working_left}
use Rattle.seats.specs.Seats.{at}
use Rattle.rack.specs.Seat.{seats_of, seat_of}
use Rattle.rack.proofs.Laws.Seat.{seat_served, seat_unserved, seats_at}
use Rattle.rack.specs.Advance.{unit_after, served_for, sum_after, advanced, advance_answer, advance_of}

-- ---- the answer

pub advance_says : (s : State) → advance_answer s ≡ Good → Ready s
advance_says s good = ready_says s good

-- an accepted one hands back the state that follows, and a refusal changes nothing
pub advance_moves : (s : State) → (advance_of s).answer ≡ Good → (advance_of s).state ≡ advanced s
unfolding advance_of
advance_moves s good = good_moves (advance_answer s) (advanced s) s good

pub advance_refused : (s : State) (w : Refusal) → (advance_of s).answer ≡ No w → (advance_of s).state ≡ s
unfolding advance_of
advance_refused s w e = refused_keeps (advance_answer s) w (advanced s) s e

-- ---- a kind's unit after it

pub after_released : (s : State) (i : ℕ) → (unit_after s i).released ≡ (unit_of s i).released
unfolding unit_after
after_released s i = refl

pub after_gone : (s : State) (i : ℕ) → (unit_after s i).gone ≡ gone_after (kind_at s i).separation (unit_of s i)
unfolding unit_after
after_gone s i = refl

pub after_left : (s : State) (i : ℕ) → (unit_after s i).left ≡ (unit_of s i).left - cond (served s i) 1 0
unfolding unit_after Step.left_after
after_left s i = refl

-- ---- the slice after it

pub slice_turns : (slice frame : ℕ) → slice < frame → slice + 1 ≡ frame → 0 ≡ (slice + 1) % frame
slice_turns slice frame l e = rw e (sym (mod_self frame))

pub slice_next : (slice frame : ℕ) → slice < frame → (slice + 1 ≡ frame → ⊥) → slice + 1 ≡ (slice + 1) % frame
slice_next slice frame l h = let m : slice + 1 < frame = omega (arith, h) in sym (mod-eq_of_lt m)

-- ---- the steps of a loop that lowers what is left, by the seats

module _ (s : State) (r : Ready s) (seat : List ℕ) (es : seat ≡ seats_of s) (i n : ℕ) (en : n ≡ kind_places s) (l : i < n) where
  here : at seat i ≡ seat_of s i
  here = ap (λ (m : List ℕ). at m i) es ∙ seats_at s r i (omega arith)

  not_seated : at seat i ≡ 0 → served s i ≡ false
  not_seated z = go (served s i) refl
    where
      go : (b : Bool) → served s i ≡ b → served s i ≡ false
      go true e = absurd (omega (arith, here, seat_served s i e))
      go false e = e

  is_seated : (at seat i ≡ 0 → ⊥) → served s i ≡ true
  is_seated z = go (served s i) refl
    where
      go : (b : Bool) → served s i ≡ b → served s i ≡ true
      go true e = e
      go false e = absurd (z (omega (arith, here, seat_unserved s i e)))

  -- whether it sits is whether it is served
  seat_tells : not (eqb (at seat i) 0) ≡ served s i
  seat_tells =
      elim (ℕ_discrete (at seat i) 0) [
        | yes z ↦ rw (eq-eqb (at seat i) 0 z) (sym (not_seated z))
        | no z ↦ rw (ne_eqb (at seat i) 0 z) (sym (is_seated z))
      ]

module _ (s : State) (r : Ready s) (seat : List ℕ) (es : seat ≡ seats_of s) (units : List Unit) (i : ℕ)
    (so_far : units ≡ written i (unit_after s) s.unit) (n : ℕ) (en : n ≡ kind_places s) (l : i < n) where
  unit_here : get_or units i no_unit ≡ unit_of s i
  unit_here = ap (λ (m : List Unit). get_or m i no_unit) so_far ∙ written_kept i (unit_after s) s.unit no_unit i (omega arith)

  -- one unit more: b is whether the kind sits
  pub unit_more : (b : Bool) (k : Kind) (v : Unit) → b ≡ not (eqb (at seat i) 0) → k ≡ kind_at s i →
      v ≡ Step.unit_after b k.separation (get_or units i no_unit) → set units i v ≡ written (i + 1) (unit_after s) s.unit
  unfolding unit_after
  unit_more b k v eb ek ev =
      let told : b ≡ served s i = eb ∙ seat_tells s r seat es i n en l in
      written_again i (unit_after s) s.unit units v so_far (ev ∙ rw (told, ek, unit_here))

-- ---- whom a project has served

module _ (s : State) (j i : ℕ) where
  pub served_own : (kind_at s i).project ≡ j → served s i ≡ true → served_for s j i ≡ true
  unfolding served_for
  served_own e t = rw (eq-eqb (kind_at s i).project j e, t)

  pub served_other : (kind_at s i).project ≢ j → served_for s j i ≡ false
  unfolding served_for
  served_other z = rw (ne_eqb (kind_at s i).project j z)

  pub served_none : served s i ≡ false → served_for s j i ≡ false
  unfolding served_for
  served_none e = rw e (go (eqb (kind_at s i).project j))
    where
      go : (b : Bool) → (b && false) ≡ false
      go true = refl
      go false = refl

  -- a kind that is served has a slice left to give
  served_left : cond (served_for s j i) 1 0 ≤ left_for s j i
  unfolding served_for left_for
  served_left = go (eqb (kind_at s i).project j) (served s i) refl
    where
      go : (a b : Bool) → served s i ≡ b → cond (a && b) 1 0 ≤ cond a (unit_of s i).left 0
      go true true e = omega (arith, working_left s i (served_working s i e))
      go true false e = omega arith
      go false b e = omega arith

-- as many as are served are left
served_most : (s : State) (j : ℕ) → count_to (kind_places s) (served_for s j) ≤ project_left s j
unfolding project_left
served_most s j =
    omega (
      arith,
      count_sum (kind_places s) (served_for s j),
      sum_le (kind_places s) (λ i. cond (served_for s j i) 1 0) (left_for s j) (λ i l. served_left s j i),
    )

-- ---- the steps of the loop on the sums

-- the sums, each lowered for the kinds below i
abbrev pub sums_below : State → ℕ → List ℕ
sums_below s i = written (project_places s) (λ j. sum_at s j - count_to i (served_for s j)) s.sum

pub sums_start : (s : State) → s.sum ≡ sums_below s 0
sums_start s =
    sym (written_there (project_places s) (λ j. sum_at s j - count_to 0 (served_for s j)) s.sum 0
    (λ j l. omega (arith, count_none (served_for s j))))

module _ (s : State) (r : Ready s) (seat : List ℕ) (es : seat ≡ seats_of s) (sums : List ℕ) (i : ℕ)
    (so_far : sums ≡ sums_below s i) (n : ℕ) (en : n ≡ kind_places s) (l : i < n) where
  pub lowered_project : (kind_at s i).project < 8
  lowered_project = omega (arith, (r.order.kind_at_law i (omega arith)).its_project, r.order.counts.projects_most)

  pub sums_same : at seat i ≡ 0 → sums ≡ sums_below s (i + 1)
  sums_same z =
      so_far
      ∙ written_cong (project_places s) (λ j. sum_at s j - count_to i (served_for s j))
      (λ j. sum_at s j - count_to (i + 1) (served_for s j)) s.sum
      (λ j m. ap (λ (x : ℕ). sum_at s j - x)
      (count_no (count_to i (served_for s j)) i (served_for s j) refl (served_none s j i (not_seated s r seat es i n en l z))))

  module _ (z : at seat i ≡ 0 → ⊥) (c : ℕ) (ec : c ≡ (kind_at s i).project) where
    its_project : c < project_places s
    its_project = omega (arith, (r.order.kind_at_law i (omega arith)).its_project)

    mine : served_for s c i ≡ true
    mine = served_own s c i (sym ec) (is_seated s r seat es i n en l z)

    -- one more of those that are served
    more : count_to i (served_for s c) + 1 ≤ project_left s c
    more =
        let rest = kind_places s - (i + 1) in
        let cut = count_split (i + 1) rest (served_for s c) in
        let all : i + 1 + rest ≡ kind_places s = omega arith in
        omega (
          arith,
          count_yes (count_to i (served_for s c)) i (served_for s c) refl mine,
          cut,
          ap (λ (x : ℕ). count_to x (served_for s c)) all,
          served_most s c,
        )

    right : sum_at s c ≡ project_left s c
    right = r.sums c its_project

    -- a sum that is not zero is one that is stored
    stored : c < length s.sum
    stored =
        elim (dec_lt c (length s.sum)) [
          | yes q ↦ q
          | no q ↦ absurd (omega (arith, get_or-eq_default s.sum 0 {n = c} (omega arith), right, more))
        ]

    sum_here : get_or sums c 0 ≡ sum_at s c - count_to i (served_for s c)
    sum_here =
        ap (λ (m : List ℕ). get_or m c 0) so_far
        ∙ written_here (project_places s) (λ j. sum_at s j - count_to i (served_for s j)) s.sum 0 c its_project stored

    pub sums_some : 0 < get_or sums c 0
    sums_some = omega (arith, sum_here, right, more)

    pub sums_one : set sums c (get_or sums c 0 - 1) ≡ sums_below s (i + 1)
    sums_one =
        let f : ℕ → ℕ = λ j. sum_at s j - count_to i (served_for s j) in
        let g : ℕ → ℕ = λ j. sum_at s j - count_to (i + 1) (served_for s j) in
        let here : get_or sums c 0 - 1 ≡ g c =
        omega (arith, sum_here, count_yes (count_to i (served_for s c)) i (served_for s c) refl mine) in
        ap₂ (λ (m : List ℕ) (x : ℕ). set m c x) so_far here
        ∙ written_changed (project_places s) f g s.sum c its_project
        (λ j m q. ap (λ (x : ℕ). sum_at s j - x)
        (sym (count_no (count_to i (served_for s j)) i (served_for s j) refl (served_other s j i (λ w. q (sym (ec ∙ w)))))))

-- ---- the loop: seat and n are what was laid down before it, and units and sums those of the state that follows, so far

pub record Laid (s : State) (seat : List ℕ) (n : ℕ) : Type 0 where
  pub ready : Ready s
  pub seats : seat ≡ seats_of s
  pub places : n ≡ kind_places s

-- the kinds below i are done
pub record Ran (s : State) (i : ℕ) (units : List Unit) (sums : List ℕ) : Type 0 where
  pub unit : units ≡ written i (unit_after s) s.unit
  pub sum : sums ≡ sums_below s i

pub ran_none : (s : State) → Ran s 0 s.unit s.sum
ran_none s = record { unit = written_none (unit_after s) s.unit; sum = sums_start s }

module _ (s : State) (seat : List ℕ) (n : ℕ) (laid : Laid s seat n) (i : ℕ) (l : i < n) (units : List Unit) (sums : List ℕ)
    (ran : Ran s i units sums) where
  pub ran_project : (kind_at s i).project < 8
  ran_project = lowered_project s laid.ready seat laid.seats sums i ran.sum n laid.places l

  -- the unit that is stored: b is whether the kind sits
  unit_stored : (b : Bool) (v : Unit) → b ≡ not (eqb (at seat i) 0) →
      v ≡ Step.unit_after b (kind_at s i).separation (get_or units i no_unit) → set units i v ≡ written (i + 1) (unit_after s) s.unit
  unit_stored b v eb ev = unit_more s laid.ready seat laid.seats units i ran.unit n laid.places l b (kind_at s i) v eb refl ev

  pub ran_same : (b : Bool) (v : Unit) → b ≡ not (eqb (at seat i) 0) →
      v ≡ Step.unit_after b (kind_at s i).separation (get_or units i no_unit) → at seat i ≡ 0 → Ran s (i + 1) (set units i v) sums
  ran_same b v eb ev z = record {
    unit = unit_stored b v eb ev;
    sum = sums_same s laid.ready seat laid.seats sums i ran.sum n laid.places l z;
  }

  module _ (z : at seat i ≡ 0 → ⊥) (c : ℕ) (its : c ≡ (kind_at s i).project) where
    pub ran_sum : 0 < get_or sums c 0
    ran_sum = sums_some s laid.ready seat laid.seats sums i ran.sum n laid.places l z c its

    pub ran_one : (b : Bool) (v : Unit) → b ≡ not (eqb (at seat i) 0) →
        v ≡ Step.unit_after b (kind_at s i).separation (get_or units i no_unit) →
        Ran s (i + 1) (set units i v) (set sums c (get_or sums c 0 - 1))
    ran_one b v eb ev = record {
      unit = unit_stored b v eb ev;
      sum = sums_one s laid.ready seat laid.seats sums i ran.sum n laid.places l z c its;
    }

-- all are done
module _ (s : State) (seat : List ℕ) (n : ℕ) (laid : Laid s seat n) where
  pub laid_slice : s.slice < s.plan.frame
  laid_slice = laid.ready.form.slice_below

  pub ran_all : (i : ℕ) (units : List Unit) (sums : List ℕ) → Ran s i units sums → (x : ℕ) → i ≤ n → n ≤ i →
      x ≡ (s.slice + 1) % s.plan.frame → record { plan = s.plan; slice = x; unit = units; sum = sums } ≡ advanced s
  unfolding advanced sum_after
  ran_all i units sums ran x a b turned =
      let done : i ≡ kind_places s = omega (arith, laid.places) in
      let all = written_stop i (kind_places s) (unit_after s) s.unit units ran.unit (omega arith) (omega arith) in
      let last = ran.sum ∙ ap (λ (y : ℕ). sums_below s y) done in
      λ k. record { plan = s.plan; slice = turned k; unit = all k; sum = last k }

-- ---- it is in form

module _ (s : State) (r : Ready s) (places : Places s) where
  pub unit_after_law : (i : ℕ) → InUse s i → unit_of (advanced s) i ≡ unit_after s i
  unfolding advanced
  unit_after_law i l =
      written_at (kind_places s) (unit_after s) s.unit no_unit i l (omega (arith, places.sixteen, r.order.counts.kinds_most))

  unit_unused : (i : ℕ) → (InUse s i → ⊥) → unit_of (advanced s) i ≡ unit_of s i
  unfolding advanced
  unit_unused i l = written_kept (kind_places s) (unit_after s) s.unit no_unit i (not_used s i l)

  pub advance_places : Places (advanced s)
  unfolding advanced
  advance_places = record {
    sixteen = written_length (kind_places s) (unit_after s) s.unit ∙ places.sixteen;
    eight = written_length (project_places s) (sum_after s) s.sum ∙ places.eight;
  }

  -- ---- the sums

  pub sum_after_law : (j : ℕ) → ProjectInUse s j → sum_at (advanced s) j ≡ sum_after s j
  unfolding advanced
  sum_after_law j l =
      written_at (project_places s) (sum_after s) s.sum 0 j l (omega (arith, places.eight, r.order.counts.projects_most))

  sum_unused : (j : ℕ) → project_places s ≤ j → sum_at (advanced s) j ≡ sum_at s j
  unfolding advanced
  sum_unused j l = written_kept (project_places s) (sum_after s) s.sum 0 j l

  -- no sum rises
  pub sum_falls : (j : ℕ) → sum_at (advanced s) j ≤ sum_at s j
  unfolding sum_after
  sum_falls j =
      elim (dec_lt j (project_places s)) [
        | yes l ↦ omega (arith, sum_after_law j l)
        | no l ↦ omega (arith, sum_unused j (omega arith))
      ]

  -- what a kind adds falls by one where it is served
  falls : (j i : ℕ) → InUse s i → left_for (advanced s) j i + cond (served_for s j i) 1 0 ≡ left_for s j i
  unfolding left_for served_for advanced unit_after Step.left_after
  falls j i l =
      rw (unit_after_law i l) (go (eqb (kind_at s i).project j) (served s i) refl)
    where
      go : (a b : Bool) → served s i ≡ b → cond a ((unit_of s i).left - cond b 1 0) 0 + cond (a && b) 1 0 ≡ cond a (unit_of s i).left 0
      go true true e = omega (arith, working_left s i (served_working s i e))
      go true false e = omega arith
      go false b e = refl

  pub advance_left : (j : ℕ) → project_left (advanced s) j + count_to (kind_places s) (served_for s j) ≡ project_left s j
  unfolding project_left advanced
  advance_left j =
      let ones : ℕ → ℕ = λ i. cond (served_for s j i) 1 0 in
      omega (
        arith,
        count_sum (kind_places s) (served_for s j),
        sum_add (kind_places s) (left_for (advanced s) j) ones,
        sum_cong (kind_places s) (λ i. left_for (advanced s) j i + ones i) (left_for s j) (falls j),
      )

  advance_sums : SumsRight (advanced s)
  unfolding sum_after advanced
  advance_sums j l = sum_after_law j l ∙ omega (arith, r.sums j l, advance_left j)

  -- a unit that is in form is so a slice later, where it is not late
  in_form_after : (i : ℕ) →
      UnitInForm (kind_at s i) (unit_of s i) →
      (0 < (unit_after s i).left → (unit_after s i).gone < (kind_at s i).deadline) →
      UnitInForm (kind_at s i) (unit_after s i)
  unfolding unit_after Step.left_after gone_after
  in_form_after i u h = go (unit_of s i).released refl
    where
      T : ℕ
      T = (kind_at s i).separation

      held : (b : Bool) → (unit_of s i).released ≡ b → cond b (min T ((unit_of s i).gone + 1)) (unit_of s i).gone ≤ T
      held true e = omega arith
      held false e = omega (arith, u.gone_most)

      go : (b : Bool) → (unit_of s i).released ≡ b → UnitInForm (kind_at s i) (unit_after s i)
      go b e = record {
        gone_most = held (unit_of s i).released refl;
        left_most = omega (arith, u.left_most);
        in_time = h;
        never = λ n. (gone_never T (unit_of s i) n ∙ (u.never n).0, omega (arith, (u.never n).1));
      }

  beyond : (j : ℕ) → (ProjectInUse s j → ⊥) → project_places s ≤ j
  beyond j m = elim (dec_lt j (project_places s)) [ yes q ↦ absurd (m q) | no q ↦ omega arith ]

  -- no unit is late after it: reading 19 has a state on a plan that is not admitted of which that is not so
  abbrev pub NoneLate : Type 0
  NoneLate = (i : ℕ) → InUse s i → 0 < (unit_after s i).left → (unit_after s i).gone < (kind_at s i).deadline

  pub advance_form : NoneLate → Ready (advanced s)
  unfolding advanced
  advance_form in_time = record {
    order = r.order;
    form = record {
      slice_below = mod-lt (s.slice + 1) r.order.counts.some_slice;
      unit_at = λ i l m. rw (unit_after_law i m) (in_form_after i (r.form.unit_at i l m) (in_time i m));
      unused = λ i l m. unit_unused i m ∙ r.form.unused i l m;
      sums_unused = λ j l m. sum_unused j (beyond j m) ∙ r.form.sums_unused j l m;
    };
    sums = advance_sums;
  }
