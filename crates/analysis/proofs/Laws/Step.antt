-- Laws of a slice: what is left of a kind after it.
-- Assumes nothing.
use Rattle.std.specs.Prelude.{◌≡◌, Bool, true, false, ℕ, ◌+◌, ◌≤◌}
use Rattle.std.proofs.Common.{arith}
use Rattle.analysis.specs.Setup.{Setup, Own}
use Rattle.analysis.specs.Moment.{Moment}
use Rattle.analysis.specs.Step.{Priority, Slice}

module _ {S : Setup} {prior : Priority} {served : ℕ → Bool} {before after : Moment} (s : Slice S prior served before after)
    (i : ℕ) (o : Own S i) where
  pub left_served : served i ≡ true → after.left i + 1 ≡ before.left i
  left_served e = omega (arith, (rw e at (s.left i o)), s.serves.some_left i o e)

  pub left_unserved : served i ≡ false → after.left i ≡ before.left i
  left_unserved e = omega (arith, (rw e at (s.left i o)))

  pub left_no_more : after.left i ≤ before.left i
  left_no_more = omega (arith, s.left i o)
