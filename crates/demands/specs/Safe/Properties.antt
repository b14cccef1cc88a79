-- A fresh start on an admitted plan is safe, every call keeps it so, and what that says of a kind.
-- Assumes nothing.
use Rattle.std.specs.Prelude.{◌≡◌, refl, List, ℕ, ◌≤◌, ◌<◌}
use Rattle.std.proofs.Common.{ap, arith, eq-eqb}
use Rattle.std.proofs.lemmas.List.{get_or-replicate}
use Rattle.plan.specs.declared.Plan.{Plan}
use Rattle.plan.specs.Order.{InOrder}
use Rattle.answer.specs.declared.Answer.TheVariants.{Good}
use Rattle.verdict.specs.Verdict.{judged}
use Rattle.verdict.specs.Admission.Properties.{judged_in_order}
use Rattle.unit.specs.declared.Unit.{Unit}
use Rattle.rack.specs.declared.State.{State}
use Rattle.unit.specs.Unit.{no_unit}
use Rattle.rack.specs.State.{unit_of, kind_at, fresh_of, InUse}
use Rattle.unit.specs.Form.{UnitInForm}
use Rattle.unit.specs.Step.{until_due}
use Rattle.rack.specs.Rank.{until, served}
use Rattle.rack.specs.Start.{start_answer, start_of}
use Rattle.rack.specs.Start.Properties.{start_good, fresh_form, fresh_places}
use Rattle.rack.specs.Release.{released, release_answer}
use Rattle.rack.specs.Release.Properties.{release_says, release_form, release_places}
use Rattle.rack.specs.Advance.{unit_after, advanced}
use Rattle.rack.proofs.Laws.Advance.{unit_after_law, advance_places, advance_form}
use Rattle.analysis.specs.Setup.{Own}
use Rattle.analysis.specs.Moment.{Idle}
use Rattle.analysis.specs.Reached.{idle, slice, release}
use Rattle.analysis.proofs.InTime.{in_time}
use Rattle.demands.specs.View.{setup_of, moment_of}
use Rattle.demands.specs.View.Properties.{view_admitted, cards_supplied}
use Rattle.demands.specs.View.Steps.{slice_step, release_step}
use Rattle.demands.specs.Run.{Call, run_from, after}
use Rattle.demands.specs.Run.Properties.{Claim, along}
use Rattle.demands.specs.Safe.{Safe}

-- ---- what it says of a kind

module _ (s : State) (safe : Safe s) (i : ℕ) (l : InUse s i) where
  abbrev j : ℕ
  j = (kind_at s i).project

  own : Own (setup_of s.plan j) i
  own = record { below = l; mine = eq-eqb (kind_at s i).project (kind_at s i).project refl }

  pub safe_unit : UnitInForm (kind_at s i) (unit_of s i)
  safe_unit = safe.ready.form.unit_at i (omega (arith, safe.ready.order.counts.kinds_most)) l

  -- no more is left of a unit than there are slices until it is due
  pub safe_left : (unit_of s i).left ≤ until s i
  safe_left = in_time (setup_of s.plan j) (view_admitted s.plan safe.admitted j) (moment_of s j) (safe.reached j) i own

-- ---- what keeps it

fresh_idle : (p : Plan) → InOrder p → (j : ℕ) → Idle (setup_of p j) (moment_of (fresh_of p) j)
fresh_idle p order j = record { supplied = cards_supplied (fresh_of p) j order.counts.some_slice; none_left = none_left }
  where
    none_left : (i : ℕ) → Own (setup_of p j) i → (unit_of (fresh_of p) i).left ≡ 0
    none_left i o =
        let below : i < 16 = omega (arith, o.below, order.counts.kinds_most) in
        ap (λ (v : Unit). v.left) (get_or-replicate 16 i no_unit no_unit below)

fresh_safe : (p : Plan) → (judged p).answer ≡ Good → Safe (fresh_of p)
fresh_safe p good =
    let order = judged_in_order p good in
    record { admitted = good; ready = fresh_form p order; places = fresh_places p; reached = λ j. idle (fresh_idle p order j) }

-- the fresh start refuses what the verdict does
pub start_admitted : (p : Plan) → (start_of p).answer ≡ Good → (judged p).answer ≡ Good
unfolding start_of start_answer judged
start_admitted p good = good

pub start_safe : (p : Plan) → (start_of p).answer ≡ Good → Safe (start_of p).state
start_safe p good = rw (start_good p good) (fresh_safe p (start_admitted p good))

-- after a slice no unit with work left has reached its deadline
none_late : (s : State) → Safe s → (i : ℕ) → InUse s i → 0 < (unit_after s i).left → (unit_after s i).gone < (kind_at s i).deadline
unfolding until_due advanced
none_late s safe i l w =
    let j = (kind_at s i).project in
    let own : Own (setup_of s.plan j) i = record { below = l; mine = eq-eqb (kind_at s i).project (kind_at s i).project refl } in
    let there = slice (served s) (safe.reached j) (slice_step s safe.ready safe.places j) in
    let left = in_time (setup_of s.plan j) (view_admitted s.plan safe.admitted j) (moment_of (advanced s) j) there i own in
    let v = unit_after_law s safe.ready safe.places i l in
    omega (arith, left, ap (λ (x : Unit). x.left) v, ap (λ (x : Unit). x.gone) v)

pub advance_safe : (s : State) → Safe s → Safe (advanced s)
unfolding advanced
advance_safe s safe =
    record {
      admitted = safe.admitted;
      ready = advance_form s safe.ready safe.places (none_late s safe);
      places = advance_places s safe.ready safe.places;
      reached = λ j. slice (served s) (safe.reached j) (slice_step s safe.ready safe.places j);
    }

pub release_safe : (s : State) → Safe s → (k e : ℕ) → release_answer s k e ≡ Good → Safe (released s k e)
unfolding released
release_safe s safe k e good =
    let may = release_says s k e good in
    record {
      admitted = safe.admitted;
      ready = release_form s k e may safe.places;
      places = release_places s k e may safe.places;
      reached = λ j. release k e (safe.reached j) (release_step s k e may safe.places j);
    }

pub run_safe : (calls : List Call) (s : State) → Safe s → Safe (run_from s calls)
run_safe =
    along Keeps (λ s h. h)
    (λ s end slices g h t. h (advance_safe s t))
    (λ s end i e slices g h t. h (release_safe s t i e g))
  where
    Keeps : Claim
    Keeps s slices end = Safe s → Safe end

-- every state that a run from a fresh start on an admitted plan comes to
pub after_safe : (p : Plan) → (start_of p).answer ≡ Good → (calls : List Call) → Safe (after p calls)
after_safe p good calls = run_safe calls (start_of p).state (start_safe p good)
