-- Who goes first, as the invariant sees it: a bound on what can still get ahead of a unit, with its laws. Earliest deadline first is one.
-- Three laws are here: after a slice, after a release, where a window starts. The fourth is owed by every slice to the same priority
-- (`Serves`): one that waits does so for as many as the project holds cards.
-- Assumes nothing.
use Rattle.std.specs.Prelude.{◌≡◌, ◌≢◌, Bool, ◌&&◌, ℕ, ◌+◌, ◌≤◌, ◌<◌}
use Rattle.laws.specs.Count.{count_to}
use Rattle.analysis.specs.Setup.{Setup, Own}
use Rattle.analysis.specs.Moment.{Moment, UnderWay, NoneLate}
use Rattle.analysis.specs.Step.{Priority, Slice, Release}

pub record Policy (S : Setup) (prior : Priority) (workload : ℕ → ℕ) : Type 0 where
  -- the most that can still get ahead of kind i's unit before it is due
  pub ahead : Moment → ℕ → ℕ
  -- a slice takes one of it for each kind that it serves before i
  pub after_slice : (served : ℕ → Bool) (before after : Moment) → Slice S prior served before after →
      (i : ℕ) → Own S i → 0 < after.left i → 0 < before.until i →
      ahead after i + count_to S.kinds (λ j. served j && prior before j i) ≤ ahead before i
  -- a release of another kind adds nothing to it
  pub after_release : (before after : Moment) (j e : ℕ) → Release S j e before after →
      (i : ℕ) → Own S i → i ≢ j → ahead after i ≤ ahead before i
  -- where the unit comes within its reach, and none is late, the workload has room for it
  pub at_start : (m : Moment) → UnderWay S m → NoneLate S m → (i : ℕ) → Own S i → m.until i ≡ S.reach i → ahead m i ≤ workload i
