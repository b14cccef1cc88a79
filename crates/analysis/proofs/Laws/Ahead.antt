-- What one kind can still put ahead of another's unit, by earliest deadline first: after a slice, after a release, and in any window.
-- Assumes nothing.
use Rattle.std.specs.Prelude.{◌≡◌, Bool, true, false, cond, ◌&&◌, ℕ, ◌+◌, ◌-◌, ◌*◌, ◌≤◌, ◌<◌, leb}
use Rattle.std.proofs.Math.Path.{refl}
use Rattle.std.proofs.Math.Decide.{dec_le, dec_lt}
use Rattle.std.proofs.Math.Nat.{mul-le-mul_left}
use Rattle.std.proofs.Common.{arith}
use borrow.Author.Tests.{le-leb, lt-leb, leb-true}
use Rattle.laws.specs.Tests.{and_left, and_right, and_both}
use Rattle.supply.specs.Workload.{workload_part}
use Rattle.analysis.specs.Setup.{Setup, Own, Timed, other}
use Rattle.analysis.specs.Moment.{Moment, Running}
use Rattle.analysis.specs.Step.{Slice, Started, Kept}
use Rattle.analysis.proofs.Laws.Step.{left_served, left_no_more}
use Rattle.analysis.specs.EarliestFirst.{no_later}
use Rattle.analysis.specs.EarliestFirst.Coming.{coming, coming_slice, coming_release, coming_late, part_coming, part_left}

-- what is left of a unit, if it is due within t slices
unfoldable pub due : (left until t : ℕ) → ℕ
due left until t = cond (leb until t) left 0

-- the most of kind j that can get ahead of kind i's unit: what is left of one due no later, and those to come that can be due no later
unfoldable pub ahead_of : Setup → Moment → ℕ → ℕ → ℕ
ahead_of S m i j = due (m.left j) (m.until j) (m.until i) + S.length j * coming (S.separation j) (S.reach j) (m.until i) (m.wait j)

-- ---- a kind due no later

module _ (S : Setup) (m : Moment) (i j : ℕ) where
  pub later_other : no_later S m j i ≡ true → other S i j ≡ true
  unfolding no_later
  later_other e = and_left (other S i j) (leb (m.until j) (m.until i)) e

  later_until : no_later S m j i ≡ true → m.until j ≤ m.until i
  unfolding no_later
  later_until e = leb-true (m.until j) (m.until i) (and_right (other S i j) (leb (m.until j) (m.until i)) e)

  pub later_of : other S i j ≡ true → m.until j ≤ m.until i → no_later S m j i ≡ true
  unfolding no_later
  later_of p q = and_both (other S i j) (leb (m.until j) (m.until i)) p (le-leb (m.until j) (m.until i) q)

-- ---- what is due

due_in : (l u t : ℕ) → u ≤ t → due l u t ≡ l
unfolding due
due_in l u t p = rw (le-leb u t p)

due_late : (l u t : ℕ) → t < u → due l u t ≡ 0
unfolding due
due_late l u t p = rw (lt-leb u t p)

due_le : (l u t : ℕ) → due l u t ≤ l
due_le l u t = elim (dec_le u t) [ yes p ↦ omega (arith, due_in l u t p) | no p ↦ omega (arith, due_late l u t (omega arith)) ]

-- a slice leaves no more of it due one slice earlier
due_slice : (l u l' u' t : ℕ) → 0 < t → l' ≤ l → (0 < l' → u' ≡ u - 1) → due l' u' (t - 1) ≤ due l u t
due_slice l u l' u' t a b h = elim (dec_lt 0 l') [ yes p ↦ some (h p) | no p ↦ omega (arith, due_le l' u' (t - 1)) ]
  where
    some : u' ≡ u - 1 → due l' u' (t - 1) ≤ due l u t
    some e =
        elim (dec_le u t) [
          | yes q ↦ omega (arith, due_le l' u' (t - 1), due_in l u t q)
          | no q ↦ omega (arith, due_late l' u' (t - 1) (omega arith))
        ]

-- ---- a slice: one less where it serves j before i, and never more

module _ (S : Setup) (served : ℕ → Bool) (before after : Moment) (s : Slice S (no_later S) served before after)
    (i j : ℕ) (oi : Own S i) (oj : Own S j) where
  abbrev due_before : ℕ
  due_before = due (before.left j) (before.until j) (before.until i)

  abbrev due_after : ℕ
  due_after = due (after.left j) (after.until j) (before.until i - 1)

  pub pair_slice : 0 < S.separation j → 0 < after.left i → 0 < before.until i →
      ahead_of S after i j + cond (served j && no_later S before j i) 1 0 ≤ ahead_of S before i j
  unfolding ahead_of
  pair_slice p q r = rw (s.until i oi q, s.wait j oj) (omega (arith, go (served j) (no_later S before j i) refl refl, to_come_law))
    where
      to_come_law : S.length j * coming (S.separation j) (S.reach j) (before.until i - 1) (before.wait j - 1)
          ≤ S.length j * coming (S.separation j) (S.reach j) (before.until i) (before.wait j)
      to_come_law = mul-le-mul_left (S.length j) (coming_slice (S.separation j) (S.reach j) (before.until i) (before.wait j) p r)

      kept : due_after ≤ due_before
      kept =
          due_slice (before.left j) (before.until j) (after.left j) (after.until j) (before.until i) r
          (left_no_more s j oj) (s.until j oj)

      go : (a b : Bool) → served j ≡ a → no_later S before j i ≡ b → due_after + cond (a && b) 1 0 ≤ due_before
      go true true x y =
          omega (
            arith,
            left_served s j oj x,
            due_le (after.left j) (after.until j) (before.until i - 1),
            due_in (before.left j) (before.until j) (before.until i) (later_until S before i j y),
          )
      go true false x y = omega (arith, kept)
      go false b x y = omega (arith, kept)

-- ---- a release of j: no more

module _ (S : Setup) (before after : Moment) (i j e : ℕ) (kept : Kept i before after) (started : Started S j e before after) where
  -- how many of j's units to come can be due no later than i's
  abbrev comes : ℕ → ℕ
  comes wait = coming (S.separation j) (S.reach j) (before.until i) wait

  abbrev NoMore : Type 0
  NoMore = due e (after.until j) (before.until i) + S.length j * comes (after.wait j)
      ≤ due (before.left j) (before.until j) (before.until i) + S.length j * comes (before.wait j)

  -- the unit was one of them
  one_fewer : 0 < S.separation j → after.until j ≤ before.until i → comes (after.wait j) + 1 ≤ comes (before.wait j)
  one_fewer p q =
      coming_release (S.separation j) (S.reach j) (before.until i) (after.until j) (after.wait j) started.wait
      (before.wait j) p started.may q

  of_these : 0 < S.separation j → after.until j ≤ before.until i → NoMore
  of_these p q =
      omega (arith, due_le e (after.until j) (before.until i), started.fits, mul-le-mul_left (S.length j) (one_fewer p q))

  -- or it is due later, and so are all after it
  of_none : before.until i < after.until j → NoMore
  of_none q =
      rw (coming_late (S.separation j) (S.reach j) (before.until i) (after.until j) (after.wait j) started.wait q)
      (omega (arith, due_late e (after.until j) (before.until i) q))

  pub pair_release : 0 < S.separation j → ahead_of S after i j ≤ ahead_of S before i j
  unfolding ahead_of
  pair_release p =
      rw (kept.until, started.left)
      (elim (dec_le (after.until j) (before.until i)) [ yes q ↦ of_these p q | no q ↦ of_none (omega arith) ])

pub pair_kept : (S : Setup) (before after : Moment) (i j : ℕ) → Kept i before after → Kept j before after →
    ahead_of S after i j ≡ ahead_of S before i j
unfolding ahead_of
pair_kept S before after i j p q = rw (p.until, q.left, q.until, q.wait)

-- ---- any window: no more than j's part of the workload in it

module _ (S : Setup) (m : Moment) (i j : ℕ) (timed : Timed S j)
    (running : 0 < m.left j → Running S m j) (in_time : m.left j ≤ m.until j) where
  abbrev part : ℕ
  part = workload_part (S.separation j) (S.deadline j) (S.length j) (m.until i)

  abbrev to_come : ℕ
  to_come = S.length j * coming (S.separation j) (S.reach j) (m.until i) (m.wait j)

  none_left : to_come ≤ part
  none_left =
      part_coming (S.separation j) (S.deadline j) (S.reach j) (S.length j) (m.until i) (m.wait j)
      timed.some_length timed.length_fits (omega (arith, timed.reach_fits, timed.deadline_fits))

  some_left : Running S m j → m.until j ≤ m.until i → m.left j + to_come ≤ part
  some_left r =
      part_left (S.separation j) (S.deadline j) (S.reach j) (S.length j) (m.until i) (m.wait j) (m.left j) (m.until j)
      (omega (arith, timed.some_length, timed.length_fits, timed.reach_fits, timed.deadline_fits)) r.left in_time r.wait

  pub pair_start : ahead_of S m i j ≤ part
  unfolding ahead_of
  pair_start =
      elim (dec_lt 0 (m.left j)) [
        | yes p ↦ elim (dec_le (m.until j) (m.until i)) [
          | yes q ↦ omega (arith, some_left (running p) q, due_le (m.left j) (m.until j) (m.until i))
          | no q ↦ omega (arith, none_left, due_late (m.left j) (m.until j) (m.until i) (omega arith))
        ]
        | no p ↦ omega (arith, none_left, due_le (m.left j) (m.until j) (m.until i))
      ]
