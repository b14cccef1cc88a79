-- Earliest deadline first is a policy: what all the other kinds can still put ahead of a unit, and its laws.
-- Assumes nothing.
use Rattle.std.specs.Prelude.{◌≡◌, ◌≢◌, Bool, ◌&&◌, ℕ, ◌+◌, ◌≤◌, ◌<◌}
use Rattle.std.proofs.Math.Bool.{cond}
use Rattle.std.proofs.Math.Decide.{ℕ_discrete}
use Rattle.std.proofs.Math.Nat.{le_of_eq}
use Rattle.std.proofs.Common.{arith}
use Rattle.laws.specs.Count.{count_to}
use Rattle.laws.specs.Tests.{and_right}
use Rattle.laws.specs.Where.{sum_where}
use Rattle.laws.specs.Where.Properties.{where_le, where_falls}
use Rattle.supply.specs.Workload.{workload_part}
use Rattle.analysis.specs.Setup.{Setup, Own, Timed, other}
use Rattle.analysis.specs.Setup.Properties.{other_own}
use Rattle.analysis.specs.Moment.{Moment, UnderWay, NoneLate}
use Rattle.analysis.specs.Step.{Slice, Release}
use Rattle.analysis.specs.Policy.{Policy}
use Rattle.analysis.specs.EarliestFirst.{no_later, workload}
use Rattle.analysis.proofs.Laws.Ahead.{ahead_of, later_other, pair_slice, pair_release, pair_kept, pair_start}

-- of all the other kinds
unfoldable pub ahead : Setup → Moment → ℕ → ℕ
ahead S m i = sum_where S.kinds (other S i) (ahead_of S m i)

module _ (S : Setup) (timed : (i : ℕ) → Own S i → Timed S i) where
  separated : (j : ℕ) → Own S j → 0 < S.separation j
  separated j o = let k = timed j o in omega (arith, k.some_length, k.length_fits, k.reach_fits, k.deadline_fits)

  ahead_slice : (served : ℕ → Bool) (before after : Moment) → Slice S (no_later S) served before after →
      (i : ℕ) → Own S i → 0 < after.left i → 0 < before.until i →
      ahead S after i + count_to S.kinds (λ j. served j && no_later S before j i) ≤ ahead S before i
  unfolding ahead
  ahead_slice served before after s i o p q =
      where_falls S.kinds (other S i) (λ j. served j && no_later S before j i) (ahead_of S after i) (ahead_of S before i)
      (λ j l e. later_other S before i j (and_right (served j) (no_later S before j i) e)) (λ j l e. go j (other_own S i j l e))
    where
      go : (j : ℕ) → Own S j → ahead_of S after i j + cond (served j && no_later S before j i) 1 0 ≤ ahead_of S before i j
      go j x = pair_slice S served before after s i j o x (separated j x) p q

  ahead_release : (before after : Moment) (j e : ℕ) → Release S j e before after →
      (i : ℕ) → Own S i → i ≢ j → ahead S after i ≤ ahead S before i
  unfolding ahead
  ahead_release before after j e r i o d =
      where_le S.kinds (other S i) (ahead_of S after i) (ahead_of S before i) (λ x l t. go x (other_own S i x l t))
    where
      go : (x : ℕ) → Own S x → ahead_of S after i x ≤ ahead_of S before i x
      go x w =
          elim (ℕ_discrete x j) [
            | yes q ↦ rw q (pair_release S before after i j e (r.others i o d) (r.started (rw q at w)) (separated j (rw q at w)))
            | no q ↦ le_of_eq (pair_kept S before after i x (r.others i o d) (r.others x w q))
          ]

  ahead_start : (m : Moment) → UnderWay S m → NoneLate S m →
      (i : ℕ) → Own S i → m.until i ≡ S.reach i → ahead S m i ≤ workload S i
  unfolding ahead workload
  ahead_start m r t i o u =
      rw (← u)
      (where_le S.kinds (other S i) (ahead_of S m i) (λ j. workload_part (S.separation j) (S.deadline j) (S.length j) (m.until i))
      (λ j l e. let x = other_own S i j l e in pair_start S m i j (timed j x) (r j x) (t j x)))

  pub earliest_first : Policy S (no_later S) (workload S)
  earliest_first = record { ahead = ahead S; after_slice = ahead_slice; after_release = ahead_release; at_start = ahead_start }
