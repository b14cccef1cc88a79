-- Laws of a kind that may start a unit: what a good answer says, that nothing less is asked, and that one with work left may not.
-- Assumes nothing.
use Rattle.std.specs.Prelude.{◌≡◌, refl, Bool, true, false, not, ◌&&◌, ℕ, ◌≤◌, ◌<◌, ltb}
use Rattle.std.proofs.Math.Decide.{ℕ_discrete}
use Rattle.std.proofs.Common.{arith, lt-ltb, le-ltb, ltb-false}
use Rattle.std.proofs.lemmas.Bool.{not-false}
use Rattle.answer.specs.declared.Answer.TheVariants.{Good}
use Rattle.answer.specs.Answer.{bare, refuse}
use Rattle.answer.specs.Answer.Properties.{and_then_left, and_then_right, refuse_good}
use Rattle.plan.specs.declared.Kind.{Kind}
use Rattle.plan.specs.Order.{within}
use Rattle.plan.specs.Order.Properties.{within_low, within_high, within_of}
use Rattle.unit.specs.declared.Unit.{Unit}
use Rattle.unit.specs.Form.{UnitInForm}
use Rattle.unit.specs.Start.{Startable, early, startable}

-- ---- "fewer than T slices ago"

pub early_says : (separation : ℕ) (v : Unit) → early separation v ≡ false → v.released ≡ true → separation ≤ v.gone
unfolding early
early_says separation v e r = ltb-false v.gone separation (rw r at e)

pub early_of : (separation : ℕ) (v : Unit) → (v.released ≡ true → separation ≤ v.gone) → early separation v ≡ false
unfolding early
early_of separation v h = go v.released refl
  where
    go : (b : Bool) → v.released ≡ b → (b && ltb v.gone separation) ≡ false
    go true p = le-ltb v.gone separation (h p)
    go false p = refl

-- ---- a kind that may start a unit

-- neither 13 nor 14
pub start_says : (k : Kind) (v : Unit) (e : ℕ) → startable k v e ≡ Good → Startable k v e
unfolding startable
start_says k v e h =
    let thirteen = refuse (not (within k.length e)) (bare 13) in
    let fourteen = refuse (early k.separation v) (bare 14) in
    let t = not-false (within k.length e) (refuse_good (not (within k.length e)) _ (and_then_left thirteen fourteen h)) in
    record {
      some = within_low k.length e t;
      length_most = within_high k.length e t;
      separated = early_says k.separation v (refuse_good (early k.separation v) _ (and_then_right thirteen fourteen h));
    }

-- and nothing more is asked
pub start_of : (k : Kind) (v : Unit) (e : ℕ) → Startable k v e → startable k v e ≡ Good
unfolding startable
start_of k v e h = rw (within_of k.length e h.some h.length_most, early_of k.separation v h.separated)

-- ---- "15 can then never occur"

-- a unit in form with work left was released fewer than T slices ago
pub left_early : (k : Kind) (v : Unit) → UnitInForm k v → k.deadline ≤ k.separation → 0 < v.left → early k.separation v ≡ true
unfolding early
left_early k v u d l = go v.released refl
  where
    go : (b : Bool) → v.released ≡ b → (b && ltb v.gone k.separation) ≡ true
    go true p = lt-ltb v.gone k.separation (omega (arith, u.in_time l))
    go false p = absurd (omega (arith, (u.never p).1))

-- so where one may start, nothing of the last is left
pub start_none_left : (k : Kind) (v : Unit) (e : ℕ) → UnitInForm k v → k.deadline ≤ k.separation → Startable k v e → v.left ≡ 0
start_none_left k v e u d s = go v.released refl
  where
    go : (b : Bool) → v.released ≡ b → v.left ≡ 0
    go true p =
        let apart = s.separated p in
        elim (ℕ_discrete v.left 0) [ yes z ↦ z | no z ↦ absurd (omega (arith, u.in_time (omega arith))) ]
    go false p = (u.never p).1
