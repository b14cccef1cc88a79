-- An accepted slice and an accepted release are steps of every project's view.
-- Assumes nothing.
use Rattle.std.specs.Prelude.{◌≡◌, ◌≢◌, Bool}
use Rattle.std.proofs.Math.Path.{refl, ap}
use Rattle.std.proofs.Common.{◌∙◌, arith}
use Rattle.std.proofs.Math.Bool.{true, false, cond}
use Prim.Native.Nat.{ℕ, ◌+◌, ◌-◌, ◌<◌, min}
use Rattle.unit.specs.declared.Unit.{Unit}
use Rattle.unit.specs.Step.{until_due, gone_after}
use Rattle.unit.specs.Step.Properties.{gone_more}
use Rattle.rack.specs.declared.State.{State}
use Rattle.rack.specs.State.{unit_of, kind_at, InUse, Places}
use Rattle.rack.specs.Form.{Ready}
use Rattle.rack.specs.Form.Properties.{unit_form}
use Rattle.rack.specs.Rank.{until, served}
use Rattle.rack.specs.Release.{released, Releasable}
use Rattle.rack.specs.Release.Properties.{release_unit, release_others}
use Rattle.rack.specs.Advance.{advanced}
use Rattle.rack.proofs.Laws.Advance.{unit_after_law, after_released, after_gone, after_left}
use Rattle.analysis.specs.Step.{Slice, Release}
use Rattle.analysis.specs.EarliestFirst.{no_later}
use Rattle.demands.specs.View.{setup_of, wait_of, moment_of}
use Rattle.demands.specs.View.Properties.{cards_later, cards_kept}
use Rattle.demands.specs.View.Ranks.{view_serves}

-- ---- a slice

module _ (s : State) (ready : Ready s) (places : Places s) where
  module _ (i : ℕ) (l : InUse s i) where
    pub sliced_released : (unit_of (advanced s) i).released ≡ (unit_of s i).released
    sliced_released = ap (λ (v : Unit). v.released) (unit_after_law s ready places i l) ∙ after_released s i

    pub sliced_left : (unit_of (advanced s) i).left ≡ (unit_of s i).left - cond (served s i) 1 0
    sliced_left = ap (λ (v : Unit). v.left) (unit_after_law s ready places i l) ∙ after_left s i

    sliced_after : (unit_of (advanced s) i).gone ≡ gone_after (kind_at s i).separation (unit_of s i)
    sliced_after = ap (λ (v : Unit). v.gone) (unit_after_law s ready places i l) ∙ after_gone s i

    -- "held at T"
    pub sliced_gone : (unit_of s i).released ≡ true → (unit_of (advanced s) i).gone ≡ min (kind_at s i).separation ((unit_of s i).gone + 1)
    sliced_gone r = sliced_after ∙ gone_more (kind_at s i).separation (unit_of s i) r

    pub sliced_until : (unit_of s i).released ≡ true → until (advanced s) i ≡ until s i - 1
    unfolding until_due advanced
    sliced_until r = omega (arith, sliced_gone r, (ready.order.kind_at_law i l).deadline_most)

    sliced_wait : wait_of (advanced s) i ≡ wait_of s i - 1
    unfolding wait_of advanced
    sliced_wait = rw sliced_released (go (unit_of s i).released refl)
      where
        T : ℕ
        T = (kind_at s i).separation

        go : (b : Bool) → (unit_of s i).released ≡ b → cond b (T - (unit_of (advanced s) i).gone) 0 ≡ cond b (T - (unit_of s i).gone) 0 - 1
        go true r = omega (arith, sliced_gone r)
        go false r = refl

    -- a kind with slices left was released
    left_released : 0 < (unit_of (advanced s) i).left → (unit_of s i).released ≡ true
    left_released w = go (unit_of s i).released refl
      where
        go : (b : Bool) → (unit_of s i).released ≡ b → (unit_of s i).released ≡ true
        go true r = r
        go false r = absurd (omega (arith, sliced_left, ((unit_form s i ready l).never r).1))

  pub slice_step : (j : ℕ) → Slice (setup_of s.plan j) (no_later (setup_of s.plan j)) (served s) (moment_of s j) (moment_of (advanced s) j)
  unfolding advanced
  slice_step j = record {
    serves = view_serves s j;
    cards = cards_later s j;
    left = λ i o. sliced_left i o.below;
    until = λ i o p. sliced_until i o.below (left_released i o.below p);
    wait = λ i o. sliced_wait i o.below;
  }

-- ---- a release

module _ (s : State) (k e : ℕ) (may : Releasable s k e) (places : Places s) where
  waited : wait_of s k ≡ 0
  unfolding wait_of
  waited = go (unit_of s k).released refl
    where
      go : (b : Bool) → (unit_of s k).released ≡ b → cond b ((kind_at s k).separation - (unit_of s k).gone) 0 ≡ 0
      go true r = omega (arith, may.start.separated r)
      go false r = refl

  pub new_gone : (unit_of (released s k e) k).gone ≡ 0
  new_gone = ap (λ (v : Unit). v.gone) (release_unit s k e may places)

  pub new_until : until (released s k e) k ≡ (kind_at s k).deadline
  unfolding until_due released
  new_until = omega (arith, new_gone)

  new_wait : wait_of (released s k e) k ≡ (kind_at s k).separation
  unfolding wait_of released
  new_wait = rw (release_unit s k e may places) (omega arith)

  pub kept_until : (i : ℕ) → i ≢ k → until (released s k e) i ≡ until s i
  unfolding released
  kept_until i d = ap (until_due (kind_at s i).deadline) (release_others s k e may places i d)

  kept_wait : (i : ℕ) → i ≢ k → wait_of (released s k e) i ≡ wait_of s i
  unfolding wait_of released
  kept_wait i d =
      ap (λ (v : Unit). cond v.released ((kind_at s i).separation - v.gone) 0) (release_others s k e may places i d)

  pub release_step : (j : ℕ) → Release (setup_of s.plan j) k e (moment_of s j) (moment_of (released s k e) j)
  unfolding released
  release_step j = record {
    cards = cards_kept s j k e;
    started = λ o. record {
      some = may.start.some;
      fits = may.start.length_most;
      left = ap (λ (v : Unit). v.left) (release_unit s k e may places);
      until = omega (arith, new_until);
      may = omega (arith, waited, new_until);
      wait = omega (arith, new_until, new_wait);
    };
    others = λ i o d. record {
      left = ap (λ (v : Unit). v.left) (release_others s k e may places i d);
      until = kept_until i d;
      wait = kept_wait i d;
    };
  }
