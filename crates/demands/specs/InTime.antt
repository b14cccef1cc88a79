-- A unit in a run: the rows name its kind no more often than it has slices left, and until it is due as often.
-- Assumes nothing.
use Rattle.std.specs.Prelude.{◌≡◌, ◌≢◌, true, false, List, [], ◌∷◌, ℕ, zero, suc, ◌+◌, ◌-◌, ◌≤◌, min, length, take}
use Rattle.std.proofs.Math.Path.{ap}
use Rattle.std.proofs.Common.{◌∙◌}
use Rattle.std.proofs.Math.Decide.{ℕ_discrete}
use native.Mathlib.Omega.{arith}
use Rattle.std.proofs.Math.Seq.{take-nil}
use Rattle.plan.specs.declared.Plan.{Plan}
use Rattle.answer.specs.declared.Answer.TheVariants.{Good}
use Rattle.plan.specs.Order.{kind_of}
use Rattle.unit.specs.declared.Unit.{Unit}
use Rattle.unit.specs.Step.{until_due}
use Rattle.rack.specs.declared.State.{State}
use Rattle.rack.specs.State.{unit_of, kind_at, InUse}
use Rattle.rack.specs.Rank.{until}
use Rattle.rack.specs.Release.{started_unit, released, release_answer, Releasable}
use Rattle.rack.specs.Release.Properties.{release_says, release_unit, release_others}
use Rattle.rack.specs.Advance.{advanced}
use Rattle.demands.specs.Run.{Call, run_from, Accepted, accepted, slices_of}
use Rattle.demands.specs.Run.Properties.{Claim, WithSlice, WithRelease, along, run_plan}
use Rattle.demands.specs.Named.{names_kind, bytes_in, bytes_naming}
use Rattle.demands.specs.Served.{named_falls}
use Rattle.demands.specs.View.Steps.{sliced_released, sliced_until, new_until, kept_until}
use Rattle.demands.specs.Safe.{Safe}
use Rattle.demands.specs.Safe.Properties.{safe_left, advance_safe, release_safe, run_safe}
use Rattle.demands.specs.Shown.{shown, restarted}
use Rattle.demands.specs.Shown.Properties.{Its, gone_counts}

-- with so much left, due in so many slices: in the rows until then kind i is named no more often, and no less but for the slices to come
pub record OnTime (i left t : ℕ) (slices : List Accepted) : Type 0 where
  pub most : bytes_naming (names_kind i) (take t slices) ≤ left
  pub least : left ≤ bytes_naming (names_kind i) (take t slices) + (t - length slices)

-- ---- one step more

no_bytes : (i t : ℕ) → bytes_naming (names_kind i) (take t []) ≡ 0
unfolding bytes_naming
no_bytes i t = ap (bytes_naming (names_kind i)) (take-nil {A = Accepted} t)

none_yet : (i left t : ℕ) → left ≤ t → OnTime i left t []
none_yet i left t l = record { most = omega (arith, no_bytes i t); least = omega (arith, no_bytes i t) }

over : (i left : ℕ) (slices : List Accepted) → left ≡ 0 → OnTime i left 0 slices
unfolding bytes_naming
over i left slices e = record { most = omega arith; least = omega arith }

-- a row more, which names the kind as often as what is left falls
one_more : (i left next t : ℕ) (w : Accepted) (slices : List Accepted) → left ≤ t → next + bytes_in (names_kind i) w.row ≡ left →
    OnTime i next (t - 1) slices → OnTime i left t (w ∷ slices)
unfolding bytes_naming
one_more i left next zero w slices l e n = over i left (w ∷ slices) (omega arith)
one_more i left next (suc t) w slices l e n =
    let z : suc t - 1 ≡ t = omega arith in
    let h : OnTime i next t slices = rw z at n in
    record { most = omega (arith, h.most); least = omega (arith, h.least) }

-- ---- along a run

-- kind i has been released
pub record Under (i : ℕ) (s : State) : Type 0 where
  pub safe : Safe s
  pub its_kind : InUse s i
  pub released : (unit_of s i).released ≡ true

module _ (i : ℕ) where
  -- so far, and from now on
  abbrev NamedIn : Claim
  NamedIn s slices end = Under i s → OnTime i (unit_of s i).left (until s i) slices

  none_late : (s : State) → Under i s → (unit_of s i).left ≤ until s i
  none_late s u = safe_left s u.safe i u.its_kind

  with_slice : WithSlice NamedIn
  unfolding advanced
  with_slice s end slices good h u =
      let ready = u.safe.ready in
      let kept = sliced_released s ready u.safe.places i u.its_kind ∙ u.released in
      let next : Under i (advanced s) = record { safe = advance_safe s u.safe; its_kind = u.its_kind; released = kept } in
      one_more i (unit_of s i).left (unit_of (advanced s) i).left (until s i) (accepted s) slices (none_late s u)
      (named_falls s u.safe good i u.its_kind)
      (rw (← (sliced_until s ready u.safe.places i u.its_kind u.released)) (h next))

  -- where the kind is released again, its unit's deadline has come
  again : (s : State) (e : ℕ) → release_answer s i e ≡ Good → Under i s → until s i ≡ 0
  unfolding until_due
  again s e good u =
      let r = release_says s i e good in
      omega (arith, r.start.separated u.released, (u.safe.ready.order.kind_at_law i u.its_kind).deadline_most)

  with_release : WithRelease NamedIn
  unfolding released
  with_release s end k e slices good h u = elim (ℕ_discrete i k) [ yes q ↦ same (rw (← q) at good) | no q ↦ other q ]
    where
      same : release_answer s i e ≡ Good → OnTime i (unit_of s i).left (until s i) slices
      same g = let z = again s e g u in rw z (over i (unit_of s i).left slices (omega (arith, none_late s u)))

      other : i ≢ k → OnTime i (unit_of s i).left (until s i) slices
      other q =
          let may = release_says s k e good in
          let v = release_others s k e may u.safe.places i q in
          let kept = ap (λ (x : Unit). x.released) v ∙ u.released in
          let safe = release_safe s u.safe k e good in
          let next : Under i (released s k e) = record { safe = safe; its_kind = u.its_kind; released = kept } in
          rw (kept_until s k e may u.safe.places i q, v) at (h next)

  pub unit_named : (calls : List Call) (s : State) → Under i s → OnTime i (unit_of s i).left (until s i) (slices_of s calls)
  unit_named = along NamedIn (λ s u. none_yet i (unit_of s i).left (until s i) (none_late s u)) with_slice with_release

-- ---- after an accepted release

module _ (s : State) (safe : Safe s) (i e : ℕ) (good : release_answer s i e ≡ Good) where
  may : Releasable s i e
  may = release_says s i e good

  new : unit_of (released s i e) i ≡ started_unit e
  new = release_unit s i e may safe.places

  -- the unit in the rows that follow
  pub release_named : (more : List Call) → OnTime i e (kind_at s i).deadline (slices_of (released s i e) more)
  unfolding released
  release_named more =
      let under : Under i (released s i e) = record {
        safe = release_safe s safe i e good;
        its_kind = may.its_kind;
        released = ap (λ (x : Unit). x.released) new;
      } in
      rw (ap (λ (x : Unit). x.left) new, new_until s i e may safe.places) at (unit_named i more (released s i e) under)

  its : Its i (released s i e)
  unfolding released
  its = record { safe = release_safe s safe i e good; its_kind = may.its_kind }

  -- in the state that they lead to, as long as no other unit of the kind is released: the slices gone since
  pub release_gone : (more : List Call) → let end = run_from (released s i e) more in restarted i (shown (released s i e) more) ≡ false →
      (unit_of end i).gone ≡ min (kind_at s i).separation (length (slices_of (released s i e) more))
  unfolding released
  release_gone more same =
      omega (
        arith,
        gone_counts i more (released s i e) its (ap (λ (x : Unit). x.released) new) same,
        ap (λ (x : Unit). x.gone) new,
      )

  -- and what is left
  pub release_left : (more : List Call) → let end = run_from (released s i e) more in restarted i (shown (released s i e) more) ≡ false →
      (unit_of end i).left ≤ (kind_at s i).deadline - length (slices_of (released s i e) more)
  unfolding until_due released
  release_left more same =
      let start = released s i e in
      let end = run_from start more in
      let p = run_plan more start in
      let safe-then = run_safe more start (release_safe s safe i e good) in
      let left = safe_left end safe-then i (omega (arith, may.its_kind, ap (λ (x : Plan). x.kinds) p)) in
      let most = (may.ready.order.kind_at_law i may.its_kind).deadline_most in
      omega (arith, left, release_gone more same, ap (λ (x : Plan). (kind_of x i).deadline) p, most)
