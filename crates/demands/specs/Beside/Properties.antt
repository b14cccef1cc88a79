-- Laws of two states beside each other: they are in form alike, show the same row and answer the same, and what follows them is beside
-- each other again.
-- Assumes nothing.
use Rattle.std.specs.Prelude.{◌≡◌, ◌≢◌, ◌&&◌, ◌||◌, leb}
use Rattle.std.proofs.Math.Path.{refl, sym, ap, ap₂}
use Rattle.std.proofs.Common.{◌∙◌, true≢false}
use Rattle.std.proofs.Math.Bool.{Bool, true, false, not, cond}
use mathlib.Core.List.{List, ◌++◌}
use Prim.Native.Nat.{ℕ, zero, suc, ◌+◌, ◌-◌, ◌%◌, ◌≤◌, ◌<◌, min}
use Rattle.std.proofs.Math.Decide.{dec_lt, ℕ_discrete}
use Rattle.std.proofs.Math.Nat.{mod-add-mod}
use native.Mathlib.Omega.{arith}
use Rattle.std.proofs.Math.Dec.{ltb, eqb}
use lib.ListN.{length, drop, replicate, set, length-set}
use Rattle.std.proofs.Math.Seq.{get_or-set_same, get_or-set_other}
use borrow.Author.Tests.{lt-ltb, le-ltb, le-leb, eq-eqb, ne_eqb, eqb-false, not-true}
use Rattle.laws.specs.Tests.{and_both, and_right}
use Rattle.laws.specs.Sum.{sum_to}
use Rattle.laws.specs.Sum.Properties.{sum_cong}
use Rattle.laws.specs.All.{all_to}
use Rattle.laws.specs.All.Properties.{all_of}
use Rattle.laws.specs.Count.{count_to}
use Rattle.laws.specs.Count.Properties.{count_cong}
use Rattle.laws.specs.Written.{written}
use Rattle.laws.specs.Written.Properties.{written_cong, written_at, written_kept, written_length}
use Rattle.laws.specs.Ranking.{sooner}
use Rattle.plan.specs.declared.Plan.{Plan}
use Rattle.plan.specs.declared.Kind.{Kind}
use Rattle.plan.specs.Order.{kind_of, budget_of, within, InOrder}
use Rattle.plan.specs.Order.Properties.{in_order_good}
use Rattle.answer.specs.declared.Answer.{Answer}
use Rattle.answer.specs.declared.Answer.TheVariants.{Good}
use Rattle.answer.specs.Answer.{bare, number, refuse, ◌and_then◌, if_good}
use Rattle.layout.specs.Layout.{cell_at, first_cell, slot_of}
use Rattle.unit.specs.declared.Unit.{Unit}
use Rattle.unit.specs.Form.{UnitInForm}
use Rattle.unit.specs.Start as Start
use Rattle.unit.specs.Start.Properties.{left_early}
use Rattle.unit.specs.Step.{until_due}
use Rattle.rack.specs.declared.State.{State}
use Rattle.rack.specs.State.{unit_of, kind_at, InUse, sum_at, Places}
use Rattle.rack.specs.Sums as Sums
use Rattle.rack.specs.Form as Form
use Rattle.rack.specs.Form.{Ready}
use Rattle.rack.specs.Form.Properties.{ready_of, unit_form}
use Rattle.rack.specs.View.{Same, chosen}
use Rattle.rack.proofs.Laws.View.{same_chosen, same_byte}
use Rattle.rack.specs.Rank as Rank
use Rattle.rack.specs.Row as Row
use Rattle.rack.specs.Release as Release
use Rattle.rack.specs.Release.{Releasable}
use Rattle.rack.specs.Release.Properties.{release_unit, release_others}
use Rattle.rack.specs.Show as Show
use Rattle.rack.specs.Advance as Advance
use Rattle.rack.proofs.Laws.Advance.{unit_after_law, after_released, after_gone, after_left}
use Rattle.unit.specs.Step.Properties.{gone_never, gone_more}
use Rattle.demands.specs.AbsoluteClock.State as Old
use Rattle.demands.specs.AbsoluteClock.Form as OldForm
use Rattle.demands.specs.AbsoluteClock.Rank as OldRank
use Rattle.demands.specs.AbsoluteClock.Row as OldRow
use Rattle.demands.specs.AbsoluteClock.Release as OldRelease
use Rattle.demands.specs.AbsoluteClock.Show as OldShow
use Rattle.demands.specs.AbsoluteClock.Advance as OldAdvance
use Rattle.demands.specs.Since.Properties.{held_test}
use Rattle.demands.specs.Beside.{UnitBeside, Beside, Clocked}

-- ---- who is sooner by one key is so by another that is everywhere as much more

module _ (f g : ℕ → ℕ) (c k i : ℕ) (ek : f k + c ≡ g k) (ei : f i + c ≡ g i) where
  shifted : sooner f k i ≡ sooner g k i
  unfolding sooner
  shifted = ap₂ (λ (a b : Bool). a || (b && ltb k i)) less same
    where
      less : ltb (f k) (f i) ≡ ltb (g k) (g i)
      less =
          elim (dec_lt (f k) (f i)) [
            | yes l ↦ lt-ltb (f k) (f i) l ∙ sym (lt-ltb (g k) (g i) (omega arith))
            | no l ↦ le-ltb (f k) (f i) (omega arith) ∙ sym (le-ltb (g k) (g i) (omega arith))
          ]

      same : eqb (f k) (f i) ≡ eqb (g k) (g i)
      same =
          elim (ℕ_discrete (f k) (f i)) [
            | yes e ↦ eq-eqb (f k) (f i) e ∙ sym (eq-eqb (g k) (g i) (omega arith))
            | no n ↦ ne_eqb (f k) (f i) n ∙ sym (ne_eqb (g k) (g i) (λ z. n (omega arith)))
          ]

module _ (old : Old.State) (new : State) (b : Beside old new) (c : Clocked old) (ready : Ready new) where
  -- ---- the plan

  kinds_same : new.plan.kinds ≡ old.plan.kinds
  kinds_same = ap (λ (p : Plan). p.kinds) b.plan

  kind_same : (i : ℕ) → kind_at new i ≡ Old.kind_at old i
  kind_same i = ap (λ (p : Plan). kind_of p i) b.plan

  order_old : InOrder old.plan
  order_old = rw b.plan at ready.order

  in_use : (i : ℕ) → i < old.plan.kinds → InUse new i
  in_use i l = omega (arith, kinds_same)

  -- ---- a unit

  module _ (i : ℕ) (l : InUse new i) where
    unit : UnitBeside old new i
    unit = b.unit i l

    form : UnitInForm (kind_at new i) (unit_of new i)
    form = unit_form new i ready l

    here : i < old.plan.kinds
    here = omega (arith, kinds_same, l)

    -- what is left was released, and as many slices ago as are gone
    released_left : 0 < (unit_of new i).left → (Old.unit_of old i).released ≡ true
    released_left w = go (Old.unit_of old i).released refl
      where
        go : (t : Bool) → (Old.unit_of old i).released ≡ t → (Old.unit_of old i).released ≡ true
        go true e = e
        go false e = absurd (omega (arith, (form.never (unit.released ∙ e)).1))

    since : 0 < (unit_of new i).left → (unit_of new i).gone + (Old.unit_of old i).at ≡ old.clock
    since w =
        let held = unit.gone (released_left w) in
        let most = (ready.order.kind_at_law i l).deadline_most in
        omega (arith, held, form.in_time w, most, c.release_clock i here)

    -- the slices until it is due, and when it is due
    due_until : 0 < (unit_of new i).left → Rank.until new i + old.clock ≡ OldRank.due old i
    unfolding until_due OldRank.due
    due_until w =
        let same = ap (λ (k : Kind). k.deadline) (kind_same i) in
        omega (arith, since w, form.in_time w, same)

    active_same : (j : ℕ) → Rank.active new j i ≡ OldRank.active old j i
    unfolding Rank.active Rank.working OldRank.active
    active_same j = ap₂ (λ (k : Kind) (n : ℕ). eqb k.project j && not (eqb n 0)) (kind_same i) unit.left

    active_left : (j : ℕ) → Rank.active new j i ≡ true → 0 < (unit_of new i).left
    unfolding Rank.active Rank.working
    active_left j e =
        let work = and_right (eqb (kind_at new i).project j) (not (eqb (unit_of new i).left 0)) e in
        let some = eqb-false (unit_of new i).left 0 (not-true (eqb (unit_of new i).left 0) work) in
        omega arith

  -- ---- the views

  view_same : (j : ℕ) → Same (Rank.view_of new j) (OldRank.view_of old j)
  unfolding Rank.view_of OldRank.view_of Rank.outranks OldRank.outranks
  view_same j = record {
    places = kinds_same;
    active = λ i l. active_same i l j;
    above = λ k i l m p q.
        shifted (Rank.until new) (OldRank.due old) old.clock k i (due_until k l (active_left k l j p))
        (due_until i m (active_left i m j q));
    first = ap (λ (p : Plan). first_cell p j) b.plan;
    budget = ap (λ (p : Plan). budget_of p j) b.plan;
    frame = ap (λ (p : Plan). p.frame) b.plan;
    slice = b.slice;
  }

  served_same : (i : ℕ) → InUse new i → Rank.served new i ≡ OldRank.served old i
  unfolding Rank.served OldRank.served Rank.view_of
  served_same i l =
      same_chosen (Rank.view_of new (kind_at new i).project) (OldRank.view_of old (kind_at new i).project)
      (view_same (kind_at new i).project) i l
      ∙ ap (λ (k : Kind). chosen (OldRank.view_of old k.project) i) (kind_same i)

  -- ---- the row

  byte_same : (n card : ℕ) → Row.byte_by new n card ≡ OldRow.byte_by old n card
  unfolding Row.byte_by OldRow.byte_by
  byte_same zero card = refl
  byte_same (suc j) card = same_byte (Rank.view_of new j) (OldRank.view_of old j) (view_same j) card

  row_byte_same : (card : ℕ) → Row.row_byte new card ≡ OldRow.row_byte old card
  unfolding Row.row_byte OldRow.row_byte
  row_byte_same card =
      byte_same (slot_of new.plan (cell_at new.plan.frame card new.slice)) card
      ∙ ap (λ (n : ℕ). OldRow.byte_by old n card) (ap₂ (λ (p : Plan) (x : ℕ). slot_of p (cell_at p.frame card x)) b.plan b.slice)

  row_same : Row.row_of new ≡ OldRow.row_of old
  unfolding Row.row_of OldRow.row_of
  row_same =
      written_cong new.plan.cards (Row.row_byte new) (OldRow.row_byte old) (replicate new.plan.cards 0) (λ card l. row_byte_same card)
      ∙ ap (λ (p : Plan). written p.cards (OldRow.row_byte old) (replicate p.cards 0)) b.plan

  over_same : (bytes : List ℕ) → Row.row_over new bytes ≡ OldRow.row_over old bytes
  unfolding Row.row_over OldRow.row_over
  over_same bytes = ap₂ (λ (r : List ℕ) (p : Plan). r ++ drop p.cards bytes) row_same b.plan

  -- ---- the old state is in form too, with its sums right

  left_same : (j i : ℕ) → InUse new i → Sums.left_for new j i ≡ OldForm.left_for old j i
  unfolding Sums.left_for OldForm.left_for
  left_same j i l = ap₂ (λ (k : Kind) (n : ℕ). cond (eqb k.project j) n 0) (kind_same i) (b.unit i l).left

  project_left_law : (j : ℕ) → Sums.project_left new j ≡ OldForm.project_left old j
  unfolding Sums.project_left OldForm.project_left
  project_left_law j =
      sum_cong new.plan.kinds (Sums.left_for new j) (OldForm.left_for old j) (left_same j)
      ∙ ap (λ (p : Plan). sum_to p.kinds (OldForm.left_for old j)) b.plan

  sum_same : (j : ℕ) → sum_at new j ≡ Old.sum_at old j
  sum_same j = ap (λ (l : List ℕ). lib.ListN.get_or l j 0) b.sum

  sums_right_law : OldForm.sums_right old ≡ true
  unfolding OldForm.sums_right
  sums_right_law =
      all_of old.plan.projects (λ j. eqb (Old.sum_at old j) (OldForm.project_left old j)) (λ j l.
      eq-eqb (Old.sum_at old j) (OldForm.project_left old j)
      (sym (sum_same j) ∙ ready.sums j (omega (arith, ap (λ (p : Plan). p.projects) b.plan)) ∙ project_left_law j))

  sums_in_form_law : OldForm.sums_in_form old ≡ true
  unfolding OldForm.sums_in_form Form.sum_fits
  sums_in_form_law = all_of 8 (λ j. ltb j old.plan.projects || eqb (Old.sum_at old j) 0) each
    where
      each : (j : ℕ) → j < 8 → (ltb j old.plan.projects || eqb (Old.sum_at old j) 0) ≡ true
      each j l =
          elim (dec_lt j old.plan.projects) [
            | yes m ↦ rw (lt-ltb j old.plan.projects m)
            | no m ↦
                rw (
                  le-ltb j old.plan.projects (omega arith),
                  eq-eqb (Old.sum_at old j) 0
                      (sym (sum_same j) ∙ ready.form.sums_unused j l (λ z. m (omega (arith, ap (λ (p : Plan). p.projects) b.plan)))),
                )
          ]

  place_in_form_law : (i : ℕ) → i < 16 → OldForm.place_in_form old i ≡ true
  unfolding OldForm.place_in_form OldForm.unit_in_form OldForm.underway OldForm.untouched OldForm.empty_unit
  place_in_form_law i m = elim (dec_lt i old.plan.kinds) [ yes l ↦ used l | no l ↦ unused (omega arith) ]
    where
      v : Old.Unit
      v = Old.unit_of old i

      unused : old.plan.kinds ≤ i → OldForm.place_in_form old i ≡ true
      unused l = rw (le-ltb i old.plan.kinds l, c.unused i m l)

      used : i < old.plan.kinds → OldForm.place_in_form old i ≡ true
      used l = rw (lt-ltb i old.plan.kinds l) (go v.released refl)
        where
          f : UnitInForm (kind_at new i) (unit_of new i)
          f = form i (in_use i l)

          left : (unit_of new i).left ≡ v.left
          left = (b.unit i (in_use i l)).left

          go : (t : Bool) → v.released ≡ t →
              cond t (leb v.at old.clock && leb v.left (Old.kind_at old i).length) (eqb v.at 0 && eqb v.left 0) ≡ true
          go true e =
              and_both (leb v.at old.clock) (leb v.left (Old.kind_at old i).length)
              (le-leb v.at old.clock (c.release_clock i l))
              (le-leb v.left (Old.kind_at old i).length (omega (arith, f.left_most, left, ap (λ (k : Kind). k.length) (kind_same i))))
          go false e =
              and_both (eqb v.at 0) (eqb v.left 0) (eq-eqb v.at 0 (c.never i l e))
              (eq-eqb v.left 0 (sym left ∙ (f.never ((b.unit i (in_use i l)).released ∙ e)).1))

  old_form : OldForm.in_form old ≡ true
  unfolding OldForm.in_form
  old_form =
      and_both (leb old.clock Old.last_clock) (all_to 16 (OldForm.place_in_form old) && OldForm.sums_in_form old)
      (le-leb old.clock Old.last_clock c.clock_most)
      (and_both (all_to 16 (OldForm.place_in_form old)) (OldForm.sums_in_form old)
      (all_of 16 (OldForm.place_in_form old) place_in_form_law) sums_in_form_law)

  pub old_ready : OldForm.ready old ≡ Good
  unfolding OldForm.ready
  old_ready = rw (in_order_good old.plan order_old, old_form, sums_right_law)

  new_ready : Form.ready new ≡ Good
  new_ready = ready_of new ready

  -- ---- the answers

  -- 14 is told by the slices gone as by the clock
  early_same : (i : ℕ) → InUse new i →
      Start.early (kind_at new i).separation (unit_of new i) ≡ OldRelease.early (kind_at new i).separation (Old.unit_of old i) old.clock
  unfolding Start.early OldRelease.early
  early_same i l = go (Old.unit_of old i).released refl
    where
      T : ℕ
      T = (kind_at new i).separation

      ago : ℕ
      ago = old.clock - (Old.unit_of old i).at

      go : (t : Bool) → (Old.unit_of old i).released ≡ t →
          ((unit_of new i).released && ltb (unit_of new i).gone T) ≡ ((Old.unit_of old i).released && ltb ago T)
      go true e = rw ((b.unit i l).released, e, (b.unit i l).gone e) (held_test T ago)
      go false e = rw ((b.unit i l).released, e)

  -- and 15 never is
  started_same : (i : ℕ) → InUse new i → (e : ℕ) →
      Start.startable (kind_at new i) (unit_of new i) e ≡ OldRelease.startable (kind_at new i) (Old.unit_of old i) old.clock e
  unfolding Start.startable OldRelease.startable
  started_same i l e =
      rw (← early_same i l, ← (b.unit i l).left)
      (go (not (within (kind_at new i).length e)) (Start.early (kind_at new i).separation (unit_of new i)) refl)
    where
      left : Bool
      left = not (eqb (unit_of new i).left 0)

      nothing : Start.early (kind_at new i).separation (unit_of new i) ≡ false → left ≡ false
      nothing s =
          elim (ℕ_discrete (unit_of new i).left 0) [
            | yes z ↦ rw (eq-eqb (unit_of new i).left 0 z)
            | no z ↦
                let most = (ready.order.kind_at_law i l).deadline_most in
                absurd (true≢false (sym (left_early (kind_at new i) (unit_of new i) (form i l) most (omega arith)) ∙ s))
          ]

      go : (misfit soon : Bool) → Start.early (kind_at new i).separation (unit_of new i) ≡ soon →
          (refuse misfit (bare 13) and_then refuse soon (bare 14))
          ≡ (refuse misfit (bare 13) and_then (refuse soon (bare 14) and_then refuse left (bare 15)))
      go true soon s = refl
      go false true s = refl
      go false false s = rw (nothing s)

  -- a showing's, but for 11
  pub show_same : (room : ℕ) → number (OldShow.show_answer old room) ≢ 11 → Show.show_answer new room ≡ OldShow.show_answer old room
  unfolding Show.show_answer Show.room_for OldShow.show_answer OldAdvance.time_left
  show_same room = rw (old_ready, new_ready, b.plan) (go (ltb room old.plan.cards) (eqb old.clock Old.last_clock))
    where
      go : (short late : Bool) → number (refuse short (bare 9) and_then refuse late (bare 11)) ≢ 11 →
          refuse short (bare 9) ≡ (refuse short (bare 9) and_then refuse late (bare 11))
      go true late h = refl
      go false true h = absurd (h refl)
      go false false h = refl

  pub buffer_same : (bytes : List ℕ) → number (OldShow.show_answer old (length bytes)) ≢ 11 →
      Show.buffer_shown new bytes ≡ OldShow.buffer_shown old bytes
  unfolding Show.buffer_shown OldShow.buffer_shown
  buffer_same bytes h =
      ap₂ (λ (a : Answer) (l : List ℕ). if_good a l bytes) (show_same (length bytes) h) (over_same bytes)

  -- an advance's, but for 11
  pub advance_same : number (OldAdvance.advance_answer old) ≢ 11 →
      (Advance.advance_answer new ≡ OldAdvance.advance_answer old) × (old.clock < Old.last_clock)
  unfolding OldAdvance.advance_answer OldAdvance.time_left
  advance_same = rw (old_ready, new_ready) (go (eqb old.clock Old.last_clock) refl)
    where
      go : (late : Bool) → eqb old.clock Old.last_clock ≡ late → number (refuse late (bare 11)) ≢ 11 →
          (Good ≡ refuse late (bare 11)) × (old.clock < Old.last_clock)
      go true e h = absurd (h refl)
      go false e h = (refl, omega (arith, eqb-false old.clock Old.last_clock e, c.clock_most))

  -- a release's
  pub release_same : (i e : ℕ) → Release.release_answer new i e ≡ OldRelease.release_answer old i e
  unfolding Release.release_answer OldRelease.release_answer
  release_same i e = rw (old_ready, new_ready) (elim (dec_lt i old.plan.kinds) [ yes l ↦ used l | no l ↦ unused (omega arith) ])
    where
      Alike : Type 0
      Alike =
          (refuse (not (ltb i new.plan.kinds)) (bare 12) and_then Start.startable (kind_at new i) (unit_of new i) e)
          ≡ (refuse (not (ltb i old.plan.kinds)) (bare 12)
          and_then OldRelease.startable (Old.kind_at old i) (Old.unit_of old i) old.clock e)

      unused : old.plan.kinds ≤ i → Alike
      unused l = rw (le-ltb i old.plan.kinds l, le-ltb i new.plan.kinds (omega (arith, kinds_same)))

      used : i < old.plan.kinds → Alike
      used l =
          rw (lt-ltb i old.plan.kinds l, lt-ltb i new.plan.kinds (in_use i l), ← kind_same i)
          (started_same i (in_use i l) e)

  -- ---- after an advance of both

  module _ (places : Places new) (time : old.clock < Old.last_clock) where
    old_after : (i : ℕ) → i < old.plan.kinds → Old.unit_of (OldAdvance.advanced old) i ≡ OldAdvance.unit_after old i
    unfolding OldAdvance.advanced
    old_after i l =
        written_at old.plan.kinds (OldAdvance.unit_after old) old.unit Old.no_unit i l
        (omega (arith, c.sixteen, order_old.counts.kinds_most))

    old_beyond : (i : ℕ) → old.plan.kinds ≤ i → Old.unit_of (OldAdvance.advanced old) i ≡ Old.unit_of old i
    unfolding OldAdvance.advanced
    old_beyond i l = written_kept old.plan.kinds (OldAdvance.unit_after old) old.unit Old.no_unit i l

    unit_beside_after : (i : ℕ) → InUse new i → UnitBeside (OldAdvance.advanced old) (Advance.advanced new) i
    unfolding OldAdvance.unit_after OldAdvance.advanced Advance.advanced
    unit_beside_after i l =
        let v = unit_after_law new ready places i l in
        let w = old_after i (here i l) in
        let u = b.unit i l in
        let same = served_same i l in
        let was = ap (λ (x : Old.Unit). x.released) w in
        record {
          released = ap (λ (x : Unit). x.released) v ∙ after_released new i ∙ u.released ∙ sym was;
          left =
              ap (λ (x : Unit). x.left) v ∙ after_left new i
              ∙ ap₂ (λ (n : ℕ) (t : Bool). n - cond t 1 0) u.left same ∙ sym (ap (λ (x : Old.Unit). x.left) w);
          gone = λ r.
              let more = gone_more (kind_at new i).separation (unit_of new i) (u.released ∙ sym was ∙ r) in
              omega (
                arith,
                ap (λ (x : Unit). x.gone) v,
                after_gone new i,
                more,
                u.gone (sym was ∙ r),
                ap (λ (x : Old.Unit). x.at) w,
                c.release_clock i (here i l),
              );
          never = λ r.
              ap (λ (x : Unit). x.gone) v ∙ after_gone new i
              ∙ gone_never (kind_at new i).separation (unit_of new i) (u.released ∙ sym was ∙ r) ∙ u.never (sym was ∙ r);
        }

    sums_after : (j : ℕ) → Advance.sum_after new j ≡ OldAdvance.sum_after old j
    unfolding Advance.sum_after Advance.served_for OldAdvance.sum_after OldAdvance.served_for
    sums_after j =
        let mine : ℕ → Bool = λ i. eqb (kind_at new i).project j && Rank.served new i in
        let theirs : ℕ → Bool = λ i. eqb (Old.kind_at old i).project j && OldRank.served old i in
        let each : (i : ℕ) → i < new.plan.kinds → mine i ≡ theirs i = λ i l.
        ap₂ (λ (k : Kind) (t : Bool). eqb k.project j && t) (kind_same i) (served_same i l) in
        ap₂ (λ (x y : ℕ). x - y) (sum_same j)
        (count_cong new.plan.kinds mine theirs each ∙ ap (λ (p : Plan). count_to p.kinds theirs) b.plan)

    pub beside_advanced : Beside (OldAdvance.advanced old) (Advance.advanced new)
    unfolding OldAdvance.advanced Advance.advanced
    beside_advanced = record {
      plan = b.plan;
      slice =
          ap₂ (λ (x : ℕ) (p : Plan). (x + 1) % p.frame) b.slice b.plan ∙ mod-add-mod old.clock old.plan.frame 1;
      unit = unit_beside_after;
      sum =
          written_cong new.plan.projects (Advance.sum_after new) (OldAdvance.sum_after old) new.sum (λ j l. sums_after j)
          ∙ ap₂ (λ (p : Plan) (l : List ℕ). written p.projects (OldAdvance.sum_after old) l) b.plan b.sum;
    }

    pub clocked_advanced : Clocked (OldAdvance.advanced old)
    unfolding OldAdvance.advanced OldAdvance.unit_after
    clocked_advanced = record {
      clock_most = omega arith;
      release_clock = λ i l. omega (arith, ap (λ (x : Old.Unit). x.at) (old_after i l), c.release_clock i l);
      never = λ i l r.
          ap (λ (x : Old.Unit). x.at) (old_after i l) ∙ c.never i l (sym (ap (λ (x : Old.Unit). x.released) (old_after i l)) ∙ r);
      unused = λ i m l. old_beyond i l ∙ c.unused i m l;
      sixteen = written_length old.plan.kinds (OldAdvance.unit_after old) old.unit ∙ c.sixteen;
    }

  -- ---- after a release in both

  module _ (places : Places new) (i e : ℕ) (may : Releasable new i e) where
    its_place : i < 16
    its_place = omega (arith, may.its_kind, ready.order.counts.kinds_most)

    old_started : Old.unit_of (OldRelease.released old i e) i ≡ OldRelease.started_unit old e
    unfolding OldRelease.released
    old_started = get_or-set_same old.unit i (OldRelease.started_unit old e) Old.no_unit (omega (arith, c.sixteen, its_place))

    old_others : (k : ℕ) → k ≢ i → Old.unit_of (OldRelease.released old i e) k ≡ Old.unit_of old k
    unfolding OldRelease.released
    old_others k z = get_or-set_other old.unit i k (OldRelease.started_unit old e) Old.no_unit z

    unit_beside_started : (k : ℕ) → InUse new k → UnitBeside (OldRelease.released old i e) (Release.released new i e) k
    unfolding OldRelease.released Release.released
    unit_beside_started k l = elim (ℕ_discrete k i) [ yes z ↦ rw z started | no z ↦ kept z ]
      where
        started : UnitBeside (OldRelease.released old i e) (Release.released new i e) i
        started =
            let v = release_unit new i e may places in
            let was = ap (λ (x : Old.Unit). x.released) old_started in
            record {
              released = ap (λ (x : Unit). x.released) v ∙ sym was;
              left = ap (λ (x : Unit). x.left) v ∙ sym (ap (λ (x : Old.Unit). x.left) old_started);
              gone = λ r. omega (arith, ap (λ (x : Unit). x.gone) v, ap (λ (x : Old.Unit). x.at) old_started);
              never = λ r. absurd (true≢false (sym was ∙ r));
            }

        kept : k ≢ i → UnitBeside (OldRelease.released old i e) (Release.released new i e) k
        kept z =
            let v = release_others new i e may places k z in
            let w = old_others k z in
            let u = b.unit k l in
            let was = ap (λ (x : Old.Unit). x.released) w in
            record {
              released = ap (λ (x : Unit). x.released) v ∙ u.released ∙ sym was;
              left = ap (λ (x : Unit). x.left) v ∙ u.left ∙ sym (ap (λ (x : Old.Unit). x.left) w);
              gone = λ r.
                  ap (λ (x : Unit). x.gone) v ∙ u.gone (sym was ∙ r)
                  ∙ ap (λ (x : Old.Unit). min (kind_at new k).separation (old.clock - x.at)) (sym w);
              never = λ r. ap (λ (x : Unit). x.gone) v ∙ u.never (sym was ∙ r);
            }

    pub beside_released : Beside (OldRelease.released old i e) (Release.released new i e)
    unfolding OldRelease.released Release.released
    beside_released = record {
      plan = b.plan;
      slice = b.slice;
      unit = unit_beside_started;
      sum =
          ap₂ (λ (l : List ℕ) (p : Plan). set l (kind_of p i).project (lib.ListN.get_or l (kind_of p i).project 0 + e)) b.sum b.plan;
    }

    pub clocked_released : Clocked (OldRelease.released old i e)
    unfolding OldRelease.released
    clocked_released = record {
      clock_most = c.clock_most;
      release_clock = λ k l.
          elim (ℕ_discrete k i) [
            | yes z ↦ rw z (omega (arith, ap (λ (x : Old.Unit). x.at) old_started))
            | no z ↦ omega (arith, ap (λ (x : Old.Unit). x.at) (old_others k z), c.release_clock k l)
          ];
      never = λ k l r.
          elim (ℕ_discrete k i) [
            | yes z ↦
                let here = ap (λ (x : ℕ). (Old.unit_of (OldRelease.released old i e) x).released) z in
                absurd (true≢false (sym (here ∙ ap (λ (x : Old.Unit). x.released) old_started) ∙ r))
            | no z ↦
                let same = ap (λ (x : Old.Unit). x.released) (old_others k z) in
                ap (λ (x : Old.Unit). x.at) (old_others k z) ∙ c.never k l (sym same ∙ r)
          ];
      unused = λ k m l. old_others k (λ z. omega (arith, kinds_same, may.its_kind)) ∙ c.unused k m l;
      sixteen = length-set old.unit i (OldRelease.started_unit old e) ∙ c.sixteen;
    }
