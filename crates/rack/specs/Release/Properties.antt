-- Laws of a release: what an accepted one says, and that nothing less is asked.
-- Assumes nothing.
use Rattle.std.specs.Prelude.{◌≡◌, Bool, true, not, ◌≢◌, eqb, set}
use Rattle.std.proofs.Math.Path.{refl, sym, ap}
use Rattle.std.proofs.Common.{◌∙◌, true≢false, arith, eq-eqb, ne_eqb}
use Rattle.std.proofs.Math.Bool.{false, cond}
use Prim.Native.Nat.{ℕ, ◌+◌, ◌*◌, ◌≤◌, ◌<◌}
use Rattle.std.proofs.Math.Decide.{ℕ_discrete}
use Rattle.std.proofs.Math.ListN.{length-set}
use Rattle.std.proofs.Math.Seq.{get_or-set_same, get_or-set_other}
use Rattle.std.proofs.lemmas.Bool.{not-false}
use Rattle.laws.specs.Sum.Properties.{sum_bound}
use Rattle.laws.specs.Tests.{told_yes, told_no}
use Rattle.answer.specs.declared.Answer.{Answer}
use Rattle.answer.specs.declared.Answer.TheVariants.{Good, No}
use Rattle.answer.specs.declared.Refusal.{Refusal}
use Rattle.answer.specs.Answer.{bare, refuse, ◌and_then◌}
use Rattle.answer.specs.Answer.Properties.{and_then_left, and_then_right, refuse_good, opened_no, opened_on}
use Rattle.unit.specs.declared.Unit.{Unit}
use Rattle.unit.specs.Start.{startable}
use Rattle.unit.specs.Start.Properties.{start_says, start_of, start_none_left}
use Rattle.rack.specs.declared.State.{State}
use Rattle.rack.specs.declared.Next.{Next}
use Rattle.unit.specs.Unit.{no_unit}
use Rattle.rack.specs.State.{unit_of, kind_at, kind_places, InUse, used, project_places, sum_at, Places}
use Rattle.rack.specs.State.Properties.{next_kept, next_moved, refused_keeps}
use Rattle.rack.specs.Sums.{left_for, project_left, SumsRight}
use Rattle.rack.specs.Sums.Properties.{sum_changed, left_own, left_other, left_most, left_none}
use Rattle.rack.specs.Form.{ready, Ready}
use Rattle.unit.specs.Form.{UnitInForm}
use Rattle.rack.specs.Form.Properties.{ready_says, ready_of, used_of, used_says, place_most, unit_form}
use Rattle.rack.specs.Release.{Releasable, release_answer, started_unit, released, release_of}

-- ---- the whole answer

pub release_says : (s : State) (i e : ℕ) → release_answer s i e ≡ Good → Releasable s i e
unfolding release_answer
release_says s i e h =
    let twelve = refuse (not (used s i)) (bare 12) in
    let rest = startable (kind_at s i) (unit_of s i) e in
    let r = and_then_right (ready s) (twelve and_then rest) h in
    record {
      ready = ready_says s (and_then_left (ready s) (twelve and_then rest) h);
      its_kind = used_says s i (not-false (used s i) (refuse_good (not (used s i)) _ (and_then_left twelve rest r)));
      start = start_says (kind_at s i) (unit_of s i) e (and_then_right twelve rest r);
    }

pub release_of_law : (s : State) (i e : ℕ) → Releasable s i e → release_answer s i e ≡ Good
unfolding release_answer
release_of_law s i e r = rw (ready_of s r.ready, used_of s i r.its_kind, start_of (kind_at s i) (unit_of s i) e r.start)

-- ---- what the tests answered, opened

release_opened : (s : State) (i e : ℕ) (r : Answer) → r ≡ Good → r ≡ release_answer s i e → Releasable s i e
release_opened s i e r g q = release_says s i e (sym q ∙ g)

release_length : (s : State) (i e : ℕ) (r : Answer) → r ≡ Good → r ≡ release_answer s i e → e < 65536
release_length s i e r g q =
    let o = release_opened s i e r g q in
    let k = o.ready.order.kind_at_law i o.its_kind in
    omega (arith, o.start.length_most, k.length_most, k.deadline_most, k.separation_most)

-- ---- its project's sum

module _ (s : State) (i e : ℕ) (r : Releasable s i e) where
  abbrev c : ℕ
  c = (kind_at s i).project

  abbrev n : ℕ
  n = kind_places s

  its_project : c < project_places s
  its_project = (r.ready.order.kind_at_law i r.its_kind).its_project

  -- "15 can then never occur": nothing is left of the kind's last unit
  pub release_none_left : (unit_of s i).left ≡ 0
  release_none_left =
      start_none_left (kind_at s i) (unit_of s i) e (unit_form s i r.ready r.its_kind)
      (r.ready.order.kind_at_law i r.its_kind).deadline_most r.start

  below : (k : ℕ) → InUse s k → (kind_at s k).length ≤ 4095
  below k l =
      let v = r.ready.order.kind_at_law k l in
      omega (arith, v.length_most, v.deadline_most, v.separation_most)

  -- what is left of the project, with e for kind i
  abbrev with_new : ℕ → ℕ
  with_new k = cond (eqb k i) e (left_for s c k)

  new_most : (k : ℕ) → k < n → with_new k ≤ 4095
  new_most k l =
      elim (ℕ_discrete k i) [
        | yes z ↦ rw (eq-eqb k i z) (omega (arith, r.start.length_most, below i r.its_kind))
        | no z ↦ rw (ne_eqb k i z) (left_most s c k 4095 (omega (arith, (unit_form s k r.ready l).left_most, below k l)))
      ]

  -- the sum as it rises is still one of the eight numbers of 16 bits: at most 16 · 4095
  room : sum_at s c + e ≤ 16 * 4095
  unfolding project_left
  room =
      let own : with_new i ≡ e = rw (eq-eqb i i refl) in
      let changed = sum_changed n (left_for s c) with_new i r.its_kind (λ k l z. rw (ne_eqb k i z)) in
      let none = left_none s c i release_none_left in
      let most = r.ready.order.counts.kinds_most in
      omega (arith, r.ready.sums c its_project, changed, none, own, sum_bound n 4095 with_new new_most, most)

release_project : (s : State) (i e : ℕ) (r : Answer) → r ≡ Good → r ≡ release_answer s i e → (kind_at s i).project < 8
release_project s i e r g q =
    let o = release_opened s i e r g q in omega (arith, its_project s i e o, o.ready.order.counts.projects_most)

pub release_room : (s : State) (i e j : ℕ) (r : Answer) → r ≡ Good → r ≡ release_answer s i e → j ≡ (kind_at s i).project →
    sum_at s j + e < 65536
release_room s i e j r g q z = omega (arith, room s i e (release_opened s i e r g q), ap (sum_at s) z)

-- the state as the code makes it: j is its project
released_is : (s : State) (i e j : ℕ) → j ≡ (kind_at s i).project →
    record { plan = s.plan; slice = s.slice; unit = set s.unit i (started_unit e); sum = set s.sum j (sum_at s j + e) }
    ≡ released s i e
unfolding released
released_is s i e j z = rw z

-- ---- the exits: k is what the check answered, u whether the kind is in use, and a what comes after that

module _ (s : State) (i e : ℕ) (k : Answer) (is : k ≡ ready s) where
  pub release_unready : (w : Refusal) → k ≡ No w → ◌≡◌ {A = Next} (record { answer = k; state = s }) (release_of s i e)
  unfolding release_of release_answer
  release_unready w n = next_kept k (release_answer s i e) w (released s i e) s n (opened_no k (ready s) _ w n is)

  module _ (good : k ≡ Good) (u : Bool) (eu : u ≡ used s i) (a : Answer) where
    pub release_no_kind : not u ≡ true → a ≡ bare 12 → ◌≡◌ {A = Next} (record { answer = a; state = s }) (release_of s i e)
    unfolding release_of release_answer
    release_no_kind t n =
        let told : used s i ≡ false = told_no (used s i) u eu t in
        next_kept a (release_answer s i e) _ (released s i e) s n (opened_on k (ready s) _ a good is (rw told n))

    module _ (yes : not u ≡ false) (ea : a ≡ startable (kind_at s i) (unit_of s i) e) where
      answered : a ≡ release_answer s i e
      unfolding release_answer
      answered = opened_on k (ready s) _ a good is (rw (told_yes (used s i) u eu yes) ea)

      pub release_unstarted : (w : Refusal) → a ≡ No w → ◌≡◌ {A = Next} (record { answer = a; state = s }) (release_of s i e)
      unfolding release_of
      release_unstarted w n = next_kept a (release_answer s i e) w (released s i e) s n answered

      module _ (start : a ≡ Good) where
        pub starts_length : e < 65536
        starts_length = release_length s i e a start answered

        pub starts_project : (kind_at s i).project < 8
        starts_project = release_project s i e a start answered

        pub starts_room : (j : ℕ) → j ≡ (kind_at s i).project → sum_at s j + e < 65536
        starts_room j z = release_room s i e j a start answered z

        pub release_started : (j : ℕ) → j ≡ (kind_at s i).project →
            ◌≡◌ {A = Next} (record {
              answer = a;
              state = record {
                plan = s.plan;
                slice = s.slice;
                unit = set s.unit i (started_unit e);
                sum = set s.sum j (sum_at s j + e);
              };
            })
            (release_of s i e)
        unfolding release_of
        release_started j z = next_moved a (release_answer s i e) _ (released s i e) s start answered (released_is s i e j z)

-- ---- a refusal changes nothing

pub release_refused : (s : State) (i e : ℕ) (w : Refusal) → (release_of s i e).answer ≡ No w → (release_of s i e).state ≡ s
unfolding release_of
release_refused s i e w h = refused_keeps (release_answer s i e) w (released s i e) s h

-- ---- the state that it leaves is in form

module _ (s : State) (i e : ℕ) (r : Releasable s i e) (places : Places s) where
  pub release_unit : unit_of (released s i e) i ≡ started_unit e
  unfolding released
  release_unit = get_or-set_same s.unit i (started_unit e) no_unit (omega (arith, places.sixteen, place_most s i r.ready r.its_kind))

  pub release_others : (k : ℕ) → k ≢ i → unit_of (released s i e) k ≡ unit_of s k
  unfolding released
  release_others k z = get_or-set_other s.unit i k (started_unit e) no_unit z

  pub release_places : Places (released s i e)
  unfolding released
  release_places = record {
    sixteen = length-set s.unit i (started_unit e) ∙ places.sixteen;
    eight = length-set s.sum (kind_at s i).project (sum_at s (kind_at s i).project + e) ∙ places.eight;
  }

  form_at : (k : ℕ) → UnitInForm (kind_at s k) (unit_of s k) → Dec (k ≡ i) →
      UnitInForm (kind_at s k) (unit_of (released s i e) k)
  form_at k u (yes z) =
      let v : unit_of (released s i e) k ≡ started_unit e = ap (λ (x : ℕ). unit_of (released s i e) x) z ∙ release_unit in
      let c : kind_at s k ≡ kind_at s i = ap (λ (x : ℕ). kind_at s x) z in
      let order = r.ready.order.kind_at_law i r.its_kind in
      rw (v, c) (record {
        gone_most = omega arith;
        left_most = r.start.length_most;
        in_time = λ l. omega (arith, order.some_length, order.length_most);
        never = λ n. absurd (true≢false n);
      })
  form_at k u (no z) = rw (release_others k z) u

  -- ---- the sums

  -- what is left of project j, and that kind i had nothing left
  raised : (j : ℕ) → project_left (released s i e) j ≡ project_left s j + left_for (released s i e) j i
  unfolding project_left left_for released
  raised j =
      let old : ℕ → ℕ = λ k. cond (eqb (kind_at s k).project j) (unit_of s k).left 0 in
      let new : ℕ → ℕ = λ k. cond (eqb (kind_at s k).project j) (unit_of (released s i e) k).left 0 in
      let others : (k : ℕ) → k < kind_places s → k ≢ i → new k ≡ old k = λ k l z.
      ap (λ (v : Unit). cond (eqb (kind_at s k).project j) v.left 0) (release_others k z) in
      omega (arith, sum_changed (kind_places s) old new i r.its_kind others, left_none s j i (release_none_left s i e r))

  pub release_left : project_left (released s i e) (kind_at s i).project ≡ project_left s (kind_at s i).project + e
  unfolding released
  release_left =
      let own = left_own (released s i e) (kind_at s i).project i refl ∙ ap (λ (v : Unit). v.left) release_unit in
      omega (arith, raised (kind_at s i).project, own)

  pub release_left_others : (j : ℕ) → j ≢ (kind_at s i).project → project_left (released s i e) j ≡ project_left s j
  unfolding released
  release_left_others j z = omega (arith, raised j, left_other (released s i e) j i (λ e. z (sym e)))

  pub release_sum : sum_at (released s i e) (kind_at s i).project ≡ sum_at s (kind_at s i).project + e
  unfolding released
  release_sum =
      get_or-set_same s.sum (kind_at s i).project (sum_at s (kind_at s i).project + e) 0
      (omega (arith, places.eight, its_project s i e r, r.ready.order.counts.projects_most))

  pub release_sum_others : (j : ℕ) → j ≢ (kind_at s i).project → sum_at (released s i e) j ≡ sum_at s j
  unfolding released
  release_sum_others j z = get_or-set_other s.sum (kind_at s i).project j (sum_at s (kind_at s i).project + e) 0 z

  release_sums : SumsRight (released s i e)
  unfolding released
  release_sums j l =
      elim (ℕ_discrete j (kind_at s i).project) [
        | yes z ↦ rw z own
        | no z ↦ release_sum_others j z ∙ r.ready.sums j l ∙ sym (release_left_others j z)
      ]
    where
      own : sum_at (released s i e) (kind_at s i).project ≡ project_left (released s i e) (kind_at s i).project
      own = omega (arith, release_sum, release_left, r.ready.sums (kind_at s i).project (its_project s i e r))

  pub release_form : Ready (released s i e)
  unfolding released
  release_form = record {
    order = r.ready.order;
    form = record {
      slice_below = r.ready.form.slice_below;
      unit_at = λ k l m. form_at k (r.ready.form.unit_at k l m) (ℕ_discrete k i);
      unused = λ k l m. release_others k (λ z. m (omega (arith, r.its_kind))) ∙ r.ready.form.unused k l m;
      sums_unused = λ j l m. release_sum_others j (λ z. m (omega (arith, its_project s i e r))) ∙ r.ready.form.sums_unused j l m;
    };
    sums = release_sums;
  }
