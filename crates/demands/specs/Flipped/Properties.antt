-- A state that is ready with one sum or one kind's slices left changed is not: it is out of form, or a sum differs.
-- Assumes nothing.
use Rattle.std.specs.Prelude.{◌≡◌, ◌≢◌, Bool, true, false, not, ◌&&◌, eqb, leb}
use Rattle.std.proofs.Math.Path.{refl, ap}
use Rattle.std.proofs.Common.{sym, ap₂, ◌∙◌, true≢false, arith, get_or-set_same, get_or-set_other, le-ltb, le-leb, leb-true}
use Rattle.std.proofs.Math.Bool.{cond}
use Prim.Native.Nat.{ℕ, ◌≤◌, ◌<◌}
use Rattle.std.proofs.Math.Decide.{dec_lt, ℕ_discrete}
use Rattle.laws.specs.Tests.{and_left, and_right, and_both}
use Rattle.answer.specs.declared.Answer.{Answer}
use Rattle.answer.specs.declared.Answer.TheVariants.{Good}
use Rattle.answer.specs.Answer.{bare, refuse, ◌and_then◌}
use Rattle.plan.specs.Order.{checked}
use Rattle.plan.specs.Order.Properties.{in_order_good}
use Rattle.unit.specs.declared.Unit.{Unit}
use Rattle.unit.specs.Unit.{no_unit}
use Rattle.unit.specs.Form.{UnitInForm, due_in_time}
use Rattle.unit.specs.Form.Properties.{in_time_says, in_time_of}
use Rattle.plan.specs.declared.Kind.{Kind}
use Rattle.rack.specs.declared.State.{State}
use Rattle.rack.specs.State.{unit_of, kind_at, kind_places, InUse, ProjectInUse, project_places, sum_at, Places}
use Rattle.rack.specs.Sums.{left_for, project_left, sums_right, SumsRight}
use Rattle.rack.specs.Sums.Properties.{sums_say, sum_changed, left_own}
use Rattle.rack.specs.Form.{InForm, Ready, in_form, sums_told, ready}
use Rattle.rack.specs.Form.Properties.{form_says, form_of, used_of, not_used, project_used_law, project_unused}
use Rattle.rack.specs.Release.{release_answer, release_of}
use Rattle.rack.specs.Show.{show_answer}
use Rattle.rack.proofs.Laws.Show.{show_refused}
use Rattle.rack.specs.Advance.{advance_of}
use Rattle.demands.specs.Run.{Call, show, advance, release, next_after}
use Rattle.demands.specs.Flipped.{with_sum, left_as, with_left, sum_told_number, left_told_number, Told}

-- ---- what the state's own refusal settles

pub told_by : (s : State) (n : ℕ) → ready s ≡ bare n → Told s n
unfolding show_answer advance_of release_answer release_of
told_by s n e = record {
  answer = λ call. answer call;
  state = λ call. state call;
  row = λ bytes after a r.
      let q : a ≡ bare n = r.result ∙ rw e in
      (q, show_refused s bytes after a _ r q);
}
  where
    answer : (call : Call) → (next_after s call).answer ≡ bare n
    answer (show bytes) = rw e
    answer advance = rw e
    answer (release i l) = rw e

    state : (call : Call) → (next_after s call).state ≡ s
    state (show bytes) = refl
    state advance = rw e
    state (release i l) = rw e

-- a state in order that is not in form, and one in form of which a sum differs
not_in_form : (s : State) → checked s.plan ≡ Good → (InForm s → ⊥) → ready s ≡ bare 10
unfolding ready
not_in_form s o h = go (in_form s) refl
  where
    go : (b : Bool) → in_form s ≡ b → (checked s.plan and_then (refuse (not (in_form s)) (bare 10) and_then sums_told s)) ≡ bare 10
    go true e = absurd (h (form_says s e))
    go false e = rw (o, e)

sum_wrong : (s : State) → checked s.plan ≡ Good → InForm s → (SumsRight s → ⊥) → ready s ≡ bare 16
unfolding ready sums_told
sum_wrong s o f h = go (sums_right s) refl
  where
    go : (b : Bool) → sums_right s ≡ b →
        (checked s.plan and_then (refuse (not (in_form s)) (bare 10) and_then refuse (not (sums_right s)) (bare 16))) ≡ bare 16
    go true e = absurd (h (sums_say s e))
    go false e = rw (o, form_of s f, e)

-- ---- a sum

module _ (s : State) (r : Ready s) (places : Places s) (j v : ℕ) (l : j < 8) (other : v ≢ sum_at s j) where
  abbrev t : State
  t = with_sum s j v

  sum_new : sum_at t j ≡ v
  sum_new = get_or-set_same s.sum j v 0 (omega (arith, places.eight))

  sum_same : (k : ℕ) → k ≢ j → sum_at t k ≡ sum_at s k
  sum_same k z = get_or-set_other s.sum j k v 0 z

  left_same : (k : ℕ) → project_left t k ≡ project_left s k
  unfolding project_left left_for
  left_same k = refl

  order : checked t.plan ≡ Good
  order = in_order_good s.plan r.order

  pub sum_flip : ready t ≡ bare (sum_told_number s j)
  sum_flip =
      elim (dec_lt j (project_places s)) [ yes m ↦ rw (project_used_law s j m) (inside m) | no m ↦ rw (project_unused s j m) (beyond m) ]
    where
      inside : ProjectInUse s j → ready t ≡ bare 16
      inside m =
          sum_wrong t order
          (record {
            slice_below = r.form.slice_below;
            unit_at = r.form.unit_at;
            unused = r.form.unused;
            sums_unused = λ k q z. sum_same k (λ e. z (omega arith)) ∙ r.form.sums_unused k q z;
          })
          (λ h. other (sym sum_new ∙ h j m ∙ left_same j ∙ sym (r.sums j m)))

      beyond : (ProjectInUse s j → ⊥) → ready t ≡ bare 10
      beyond m = not_in_form t order (λ f. other (sym sum_new ∙ f.sums_unused j l m ∙ sym (r.form.sums_unused j l m)))

-- ---- a kind's slices left

module _ (s : State) (r : Ready s) (places : Places s) (i v : ℕ) (l : i < 16) (other : v ≢ (unit_of s i).left) where
  abbrev u : State
  u = with_left s i v

  unit_new : unit_of u i ≡ left_as (unit_of s i) v
  unit_new = get_or-set_same s.unit i (left_as (unit_of s i) v) no_unit (omega (arith, places.sixteen))

  unit_same : (k : ℕ) → k ≢ i → unit_of u k ≡ unit_of s k
  unit_same k z = get_or-set_other s.unit i k (left_as (unit_of s i) v) no_unit z

  in_order : checked u.plan ≡ Good
  in_order = in_order_good s.plan r.order

  -- what could be left is in form
  form_still : InUse s i →
      (unit_of s i).released ≡ true →
      v ≤ (kind_at s i).length →
      (0 < v → (unit_of s i).gone < (kind_at s i).deadline) →
      InForm u
  form_still m e q w = record {
    slice_below = r.form.slice_below;
    unit_at = λ k a b. unit_form k (r.form.unit_at k a b) (ℕ_discrete k i);
    unused = λ k a b. unit_same k (λ z. b (omega arith)) ∙ r.form.unused k a b;
    sums_unused = r.form.sums_unused;
  }
    where
      unit_form : (k : ℕ) → UnitInForm (kind_at s k) (unit_of s k) → Dec (k ≡ i) → UnitInForm (kind_at s k) (unit_of u k)
      unit_form k f (yes z) =
          let here : unit_of u k ≡ left_as (unit_of s i) v = ap (λ (x : ℕ). unit_of u x) z ∙ unit_new in
          let most = f.gone_most in
          let same = ap (λ (x : ℕ). (unit_of s x).gone) z in
          let kind_same : kind_at s k ≡ kind_at s i = ap (kind_at s) z in
          rw here (record {
            gone_most = omega arith;
            left_most = omega (arith, ap (λ (x : Kind). x.length) kind_same);
            in_time = λ some. omega (arith, w some, ap (λ (x : Kind). x.deadline) kind_same);
            never = λ n. absurd (true≢false (sym e ∙ n));
          })
      unit_form k f (no z) = rw (unit_same k z) f

  -- and its project's sum is not what is left
  sum_off : InUse s i → SumsRight u → ⊥
  unfolding project_left left_for
  sum_off m h =
      let c = (kind_at s i).project in
      let old : ℕ → ℕ = λ k. cond (eqb (kind_at s k).project c) (unit_of s k).left 0 in
      let new : ℕ → ℕ = λ k. cond (eqb (kind_at s k).project c) (unit_of u k).left 0 in
      let others : (k : ℕ) → k < kind_places s → k ≢ i → new k ≡ old k = λ k q z.
      ap (λ (x : Unit). cond (eqb (kind_at s k).project c) x.left 0) (unit_same k z) in
      let project = (r.order.kind_at_law i m).its_project in
      let was = left_own s c i refl in
      let is = left_own u c i refl ∙ ap (λ (x : Unit). x.left) unit_new in
      other (omega (arith, sum_changed (kind_places s) old new i m others, was, is, h c project, r.sums c project))

  pub left_flip : ready u ≡ bare (left_told_number s i v)
  left_flip =
      elim (dec_lt i (kind_places s)) [
        | yes m ↦ rw (used_of s i m) (inside m (unit_of s i).released refl)
        | no m ↦ rw (le-ltb i (kind_places s) (not_used s i m)) (beyond m)
      ]
    where
      beyond : (InUse s i → ⊥) → ready u ≡ bare 10
      beyond m =
          not_in_form u in_order (λ f.
          let is = ap (λ (x : Unit). x.left) (sym unit_new ∙ f.unused i l m) in
          let was = ap (λ (x : Unit). x.left) (r.form.unused i l m) in
          other (is ∙ sym was))

      -- by whether it was ever released, and whether it could have so many left
      numbered : Bool → Bool → Answer
      numbered a b = bare (cond (a && b) 16 10)

      long : Bool
      long = leb v (kind_at s i).length

      prompt : Bool
      prompt = due_in_time (kind_at s i).deadline (left_as (unit_of s i) v)

      inside : InUse s i → (b : Bool) → (unit_of s i).released ≡ b → ready u ≡ numbered (unit_of s i).released (long && prompt)
      inside m true e = go (long && prompt) refl
        where
          go : (b : Bool) → (long && prompt) ≡ b → ready u ≡ numbered (unit_of s i).released (long && prompt)
          go true q =
              sum_wrong u in_order
              (form_still m e (leb-true v (kind_at s i).length (and_left long prompt q))
              (in_time_says (kind_at s i).deadline (left_as (unit_of s i) v) (and_right long prompt q))) (sum_off m)
              ∙ ap₂ numbered (sym e) (sym q)
          go false q = not_in_form u in_order (λ f. over (rw unit_new at (f.unit_at i l m))) ∙ ap₂ numbered (sym e) (sym q)
            where
              over : UnitInForm (kind_at s i) (left_as (unit_of s i) v) → ⊥
              over f =
                  true≢false
                  (sym (and_both long prompt (le-leb v (kind_at s i).length f.left_most)
                  (in_time_of (kind_at s i).deadline (left_as (unit_of s i) v) f.in_time)) ∙ q)
      inside m false e =
          not_in_form u in_order (λ f.
          let is = ((f.unit_at i l m).never (ap (λ (x : Unit). x.released) unit_new ∙ e)).1 in
          let was = ((r.form.unit_at i l m).never e).1 in
          other (sym (ap (λ (x : Unit). x.left) unit_new) ∙ is ∙ sym was))
          ∙ ap (λ (b : Bool). numbered b (long && prompt)) (sym e)
