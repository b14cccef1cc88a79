-- Laws of a unit in form: what the test says, and that nothing less is asked.
-- Assumes nothing.
use Rattle.std.specs.Prelude.{◌≡◌, refl, Bool, true, false, not, cond, ◌&&◌, ℕ, ◌≤◌, ◌<◌, leb, eqb}
use Rattle.std.proofs.Common.{sym, ◌∙◌, true≢false, arith, le-leb, lt-ltb, eq-eqb, ne_eqb, leb-true, ltb-true, eqb-true}
use Rattle.std.proofs.Math.Decide.{ℕ_discrete}
use Rattle.std.proofs.lemmas.Bool.{lt-leb, not-true}
use Rattle.laws.specs.Tests.{and_left, and_right, and_both}
use Rattle.plan.specs.declared.Kind.{Kind}
use Rattle.unit.specs.declared.Unit.{Unit}
use Rattle.unit.specs.Unit.{no_unit}
use Rattle.unit.specs.Form.{UnitInForm, untouched, due_in_time, underway, unit_in_form, empty_unit}

untouched_says : (v : Unit) → untouched v ≡ true → (v.gone ≡ 0) × (v.left ≡ 0)
unfolding untouched
untouched_says v e = (
  eqb-true v.gone 0 (and_left (eqb v.gone 0) (eqb v.left 0) e),
  eqb-true v.left 0 (and_right (eqb v.gone 0) (eqb v.left 0) e),
)

untouched_of : (v : Unit) → (v.gone ≡ 0) × (v.left ≡ 0) → untouched v ≡ true
unfolding untouched
untouched_of v e = and_both (eqb v.gone 0) (eqb v.left 0) (eq-eqb v.gone 0 e.0) (eq-eqb v.left 0 e.1)

-- ---- "below D where work is left"

pub in_time_says : (deadline : ℕ) (v : Unit) → due_in_time deadline v ≡ true → 0 < v.left → v.gone < deadline
unfolding due_in_time
in_time_says deadline v e l = ltb-true v.gone deadline (rw (ne_eqb v.left 0 (λ z. omega arith)) at e)

pub in_time_of : (deadline : ℕ) (v : Unit) → (0 < v.left → v.gone < deadline) → due_in_time deadline v ≡ true
unfolding due_in_time
in_time_of deadline v h =
    elim (ℕ_discrete v.left 0) [
      | yes z ↦ rw (eq-eqb v.left 0 z)
      | no z ↦ rw (ne_eqb v.left 0 z) (lt-ltb v.gone deadline (h (omega arith)))
    ]

-- ---- the code's exits: r is whether it is in time

pub too_long : (k : Kind) (v : Unit) → v.gone ≤ k.separation → k.length < v.left → false ≡ underway k v
unfolding underway
too_long k v g l = rw (le-leb v.gone k.separation g, lt-leb v.left k.length l)

pub all_three : (k : Kind) (v : Unit) (r : Bool) → v.gone ≤ k.separation → v.left ≤ k.length →
    r ≡ due_in_time k.deadline v → r ≡ underway k v
unfolding underway
all_three k v r g l e = rw (le-leb v.gone k.separation g, le-leb v.left k.length l) e

-- ---- the whole test

-- what the test says of each field
pub unit_says : (k : Kind) (v : Unit) → unit_in_form k v ≡ true → UnitInForm k v
unfolding unit_in_form underway
unit_says k v e = go v.released refl e
  where
    gone : Bool
    gone = leb v.gone k.separation

    left : Bool
    left = leb v.left k.length

    go : (b : Bool) → v.released ≡ b → cond b (gone && (left && due_in_time k.deadline v)) (untouched v) ≡ true → UnitInForm k v
    go true p q =
        let rest = and_right gone (left && due_in_time k.deadline v) q in
        record {
          gone_most = leb-true v.gone k.separation (and_left gone (left && due_in_time k.deadline v) q);
          left_most = leb-true v.left k.length (and_left left (due_in_time k.deadline v) rest);
          in_time = in_time_says k.deadline v (and_right left (due_in_time k.deadline v) rest);
          never = λ n. absurd (true≢false (sym p ∙ n));
        }
    go false p q =
        let u = untouched_says v q in
        record { gone_most = omega arith; left_most = omega arith; in_time = λ l. absurd (omega arith); never = λ n. u }

-- and nothing more is asked
pub unit_of_law : (k : Kind) (v : Unit) → UnitInForm k v → unit_in_form k v ≡ true
unfolding unit_in_form underway
unit_of_law k v r = go v.released refl
  where
    gone : Bool
    gone = leb v.gone k.separation

    left : Bool
    left = leb v.left k.length

    go : (b : Bool) → v.released ≡ b → cond b (gone && (left && due_in_time k.deadline v)) (untouched v) ≡ true
    go true p =
        and_both gone (left && due_in_time k.deadline v) (le-leb v.gone k.separation r.gone_most)
        (and_both left (due_in_time k.deadline v) (le-leb v.left k.length r.left_most) (in_time_of k.deadline v r.in_time))
    go false p = untouched_of v (r.never p)

-- an empty place is the unit that never was
pub empty_says : (v : Unit) → empty_unit v ≡ true → v ≡ no_unit
unfolding empty_unit
empty_says v e =
    let u = untouched_says v (and_right (not v.released) (untouched v) e) in
    let n = not-true v.released (and_left (not v.released) (untouched v) e) in
    λ i. record { released = n i; gone = u.0 i; left = u.1 i }

pub empty_of : (v : Unit) → v ≡ no_unit → empty_unit v ≡ true
unfolding empty_unit untouched
empty_of v e = rw e
