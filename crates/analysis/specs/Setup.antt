-- One project: what never changes while it runs.
-- Assumes nothing.
use Rattle.std.specs.Prelude.{◌≡◌, Bool, true, not, ◌&&◌, ℕ, ◌≤◌, ◌<◌, eqb}
pub mod Properties

-- "A unit kind names its project and has a separation T, deadline D and length C"; the verdict gives each kind a width k
pub record Setup : Type 0 where
  pub kinds : ℕ
  -- whether a kind is one of the project's
  pub mine : ℕ → Bool
  -- T, from one release to the next
  pub separation : ℕ → ℕ
  -- D, from a release until the unit is due: how far off its deadline can be (Step)
  pub deadline : ℕ → ℕ
  -- the length that the test judges, in W and in S(k,t): so many slices before it is due a unit is here at the latest, and from then
  -- on the invariant is claimed of it. It is D where units come as they are released
  pub reach : ℕ → ℕ
  -- C
  pub length : ℕ → ℕ
  -- k
  pub width : ℕ → ℕ
  -- S(k,t), what the project holds of cards in any t slices in a row, at most k of each slice's
  pub supply : ℕ → ℕ → ℕ

-- kind i is one of the project's
pub record Own (S : Setup) (i : ℕ) : Type 0 where
  pub below : i < S.kinds
  pub mine : S.mine i ≡ true

-- "every other kind j of the same project"
unfoldable pub other : Setup → ℕ → ℕ → Bool
other S i j = not (eqb j i) && S.mine j

-- "1 <= C <= D <= T", the reach between C and D
pub record Timed (S : Setup) (i : ℕ) : Type 0 where
  pub some_length : 1 ≤ S.length i
  pub length_fits : S.length i ≤ S.reach i
  pub reach_fits : S.reach i ≤ S.deadline i
  pub deadline_fits : S.deadline i ≤ S.separation i
