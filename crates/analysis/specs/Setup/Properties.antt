-- Laws of `other`.
-- Assumes nothing.
use Rattle.std.specs.Prelude.{◌≡◌, ◌≢◌, true, not, ℕ, ◌<◌, eqb}
use Rattle.std.proofs.Common.{ne_eqb}
use Rattle.laws.specs.Tests.{and_right, and_both}
use Rattle.analysis.specs.Setup.{Setup, Own, other}

module _ (S : Setup) (i j : ℕ) where
  pub other_of : Own S j → j ≢ i → other S i j ≡ true
  unfolding other
  other_of o d = and_both (not (eqb j i)) (S.mine j) (rw (ne_eqb j i d)) o.mine

  pub other_own : j < S.kinds → other S i j ≡ true → Own S j
  unfolding other
  other_own l e = record { below = l; mine = and_right (not (eqb j i)) (S.mine j) e }
