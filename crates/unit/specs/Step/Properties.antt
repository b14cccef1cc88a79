-- Laws of a unit as a slice goes by.
-- Assumes nothing.
use Rattle.std.specs.Prelude.{◌≡◌, Bool, true, false, not, ℕ, ◌+◌, ◌-◌, ◌≤◌, ◌<◌, min}
use Rattle.std.proofs.Common.{arith}
use Rattle.std.proofs.lemmas.Bool.{not-true, not-false}
use Rattle.unit.specs.declared.Unit.{Unit}
use Rattle.unit.specs.Step.{until_due, gone_after, left_after, unit_after}

-- ---- the slices until it is due

pub until_none : (deadline : ℕ) (v : Unit) → deadline ≤ v.gone → 0 ≡ until_due deadline v
unfolding until_due
until_none deadline v l = omega arith

pub until_some : (deadline : ℕ) (v : Unit) → deadline - v.gone ≡ until_due deadline v
unfolding until_due
until_some deadline v = omega arith

-- ---- the slices gone

pub gone_never : (separation : ℕ) (v : Unit) → v.released ≡ false → gone_after separation v ≡ v.gone
unfolding gone_after
gone_never separation v e = rw e

pub gone_more : (separation : ℕ) (v : Unit) → v.released ≡ true → gone_after separation v ≡ min separation (v.gone + 1)
unfolding gone_after
gone_more separation v e = rw e

-- the code's exits

pub counts_never : (separation : ℕ) (v : Unit) → not v.released ≡ true → v.gone ≡ gone_after separation v
unfolding gone_after
counts_never separation v e = rw (not-true v.released e)

pub counts_held : (separation : ℕ) (v : Unit) → not v.released ≡ false → separation ≤ v.gone → separation ≡ gone_after separation v
counts_held separation v e l = omega (arith, gone_more separation v (not-false v.released e))

pub counts_more : (separation : ℕ) (v : Unit) → not v.released ≡ false → v.gone < separation → v.gone + 1 ≡ gone_after separation v
counts_more separation v e l = omega (arith, gone_more separation v (not-false v.released e))

-- ---- the slices left

pub left_unserved : (served : Bool) (v : Unit) → not served ≡ true → v.left ≡ left_after served v
unfolding left_after
left_unserved served v e = rw (not-true served e) (omega arith)

pub left_nothing : (served : Bool) (v : Unit) → v.left ≡ 0 → 0 ≡ left_after served v
unfolding left_after
left_nothing served v e = omega arith

pub left_served : (served : Bool) (v : Unit) → not served ≡ false → v.left - 1 ≡ left_after served v
unfolding left_after
left_served served v e = rw (not-false served e)

-- ---- both

pub after_is : (served : Bool) (separation gone left : ℕ) (v : Unit) → gone ≡ gone_after separation v → left ≡ left_after served v →
    record { released = v.released; gone = gone; left = left } ≡ unit_after served separation v
after_is served separation gone left v g l = λ i. record { released = v.released; gone = g i; left = l i }
