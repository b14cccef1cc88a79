-- The invariant holds where nothing is left, every step keeps it, and it gives the deadlines: of every policy, by its laws alone.
-- Assumes nothing.
use Rattle.std.specs.Prelude.{◌≡◌, refl, ◌≢◌, Bool, true, false, ◌&&◌, ℕ, suc, ◌+◌, ◌*◌, ◌≤◌, ◌<◌, min}
use Rattle.std.proofs.Common.{ap, mul-le-mul_left, arith}
use Rattle.std.proofs.Math.Decide.{dec_le, dec_lt, ℕ_discrete}
use Rattle.std.proofs.Math.Nat.{le_of_mul-le-mul_left}
use Rattle.laws.specs.Count.{count_to}
use Rattle.supply.specs.Supply.{window}
use Rattle.supply.proofs.Laws.Supply.{window_most}
use Rattle.analysis.specs.Setup.{Setup, Own}
use Rattle.analysis.specs.Moment.{Moment, Supplied, Running, UnderWay, NoneLate, Idle}
use Rattle.analysis.proofs.Laws.Moment.{window_now, window_kept, supplied_later, supplied_kept}
use Rattle.analysis.specs.Step.{Priority, Slice, Release}
use Rattle.analysis.proofs.Laws.Step.{left_served, left_unserved, left_no_more}
use Rattle.analysis.specs.Reached.{Reached, idle, slice, release}
use Rattle.analysis.specs.Admitted.{Admitted}
use Rattle.analysis.specs.Policy.{Policy}
use Rattle.analysis.specs.OnTrack.{Enough, OnTrack}

module _ {S : Setup} {prior : Priority} {workload : ℕ → ℕ} (P : Policy S prior workload) (a : Admitted S workload) where
  -- ---- what it gives

  -- with supply enough, no more is left than there are slices until it is due
  enough_until : (m : Moment) (i : ℕ) → Own S i → Enough P m i → m.left i ≤ m.until i
  enough_until m i o e =
      let most = window_most (S.width i) m.cards 0 (m.until i) in
      le_of_mul-le-mul_left {k = S.width i} (omega (arith, e, most)) (a.some_width i o)

  -- before a unit comes within its reach, no more is left than its length
  far_until : (m : Moment) (i : ℕ) → Own S i → Running S m i → S.reach i ≤ m.until i → m.left i ≤ m.until i
  far_until m i o r l = omega (arith, r.left, (a.timed i o).length_fits)

  pub none_late : (m : Moment) → OnTrack P m → NoneLate S m
  none_late m t i o =
      elim (dec_lt 0 (m.left i)) [
        | yes p ↦ elim (dec_le (m.until i) (S.reach i)) [
          | yes q ↦ enough_until m i o (t.enough i o p q)
          | no q ↦ far_until m i o (t.running i o p) (omega arith)
        ]
        | no p ↦ omega arith
      ]

  -- where a kind's next unit may come, nothing is left of the last
  pub next_clear : (m : Moment) → OnTrack P m → (i : ℕ) → Own S i → m.wait i + S.reach i ≤ S.deadline i → m.left i ≡ 0
  next_clear m t i o l =
      elim (dec_lt 0 (m.left i)) [
        | yes p ↦ absurd (omega (arith, (t.running i o p).wait, none_late m t i o, (a.timed i o).deadline_fits))
        | no p ↦ omega arith
      ]

  -- ---- where a unit comes within its reach

  start_enough : (m : Moment) → Supplied S m → UnderWay S m → NoneLate S m →
      (i : ℕ) → Own S i → 0 < m.left i → m.until i ≡ S.reach i → Enough P m i
  start_enough m s r t i o p e =
      omega (
        arith,
        a.fits i o,
        s 0 (S.width i) (S.reach i),
        mul-le-mul_left (S.width i) (r i o p).left,
        P.at_start m r t i o e,
        ap (window (S.width i) m.cards 0) e,
      )

  -- ---- nothing is left

  idle_on_track : (m : Moment) → Idle S m → OnTrack P m
  idle_on_track m h = record {
    supplied = h.supplied;
    running = λ i o p. absurd (omega (arith, h.none_left i o));
    enough = λ i o p q. absurd (omega (arith, h.none_left i o));
  }

  -- ---- a slice keeps it

  module _ (served : ℕ → Bool) (before after : Moment) (s : Slice S prior served before after) (t : OnTrack P before) where
    was : (i : ℕ) → Own S i → 0 < after.left i → 0 < before.left i
    was i o p = omega (arith, left_no_more s i o)

    not_yet : (i : ℕ) → Own S i → 0 < after.left i → 0 < before.until i
    not_yet i o p = omega (arith, was i o p, none_late before t i o)

    slice_supplied : Supplied S after
    slice_supplied = supplied_later before after s.cards S t.supplied

    slice_running : UnderWay S after
    slice_running i o p =
        let r = t.running i o (was i o p) in
        let u = s.until i o p in
        let k = a.timed i o in
        record {
          left = omega (arith, left_no_more s i o);
          until = omega arith;
          wait = omega (arith, s.wait i o, not_yet i o p, k.reach_fits, k.deadline_fits);
        }

    -- a unit that was within its reach: what a slice takes of its cards, it has itself, or others before it
    slice_within : (i : ℕ) → Own S i → 0 < after.left i → before.until i ≤ S.reach i → Enough P after i
    slice_within i o p q = go (served i) refl
      where
        falls : P.ahead after i + count_to S.kinds (λ j. served j && prior before j i) ≤ P.ahead before i
        falls = P.after_slice served before after s i o p (not_yet i o p)

        had : S.width i * before.left i + P.ahead before i
            ≤ min (S.width i) (before.cards 0) + window (S.width i) after.cards 0 (after.until i)
        had =
            let u : before.until i ≡ suc (after.until i) = omega (arith, s.until i o p, not_yet i o p) in
            let now = window_now before after s.cards (S.width i) (after.until i) in
            omega (arith, t.enough i o (was i o p) q, ap (window (S.width i) before.cards 0) u, now)

        times : {l l' : ℕ} → l ≡ l' → S.width i * l ≡ S.width i * l'
        times e = ap (λ (l : ℕ). S.width i * l) e

        go : (b : Bool) → served i ≡ b → Enough P after i
        go true e = omega (arith, had, falls, times (left_served s i o e))
        go false e = omega (arith, had, falls, times (left_unserved s i o e), s.serves.waits i o (was i o p) e)

    slice_none_late : NoneLate S after
    slice_none_late i o = elim (dec_lt 0 (after.left i)) [ yes p ↦ some p | no p ↦ omega arith ]
      where
        some : 0 < after.left i → after.left i ≤ after.until i
        some p =
            elim (dec_le (before.until i) (S.reach i)) [
              | yes q ↦ enough_until after i o (slice_within i o p q)
              | no q ↦ far_until after i o (slice_running i o p) (omega (arith, s.until i o p))
            ]

    slice_enough : (i : ℕ) → Own S i → 0 < after.left i → after.until i ≤ S.reach i → Enough P after i
    slice_enough i o p q =
        elim (dec_le (before.until i) (S.reach i)) [
          | yes r ↦ slice_within i o p r
          | no r ↦ start_enough after slice_supplied slice_running slice_none_late i o p (omega (arith, s.until i o p))
        ]

    slice_on_track : OnTrack P after
    slice_on_track = record { supplied = slice_supplied; running = slice_running; enough = slice_enough }

  -- ---- a release keeps it

  module _ (before after : Moment) (j e : ℕ) (r : Release S j e before after) (t : OnTrack P before) where
    -- of the kind released, and of every other
    either : (Q : ℕ → Type 0) → (Own S j → Q j) → ((i : ℕ) → Own S i → i ≢ j → Q i) → (i : ℕ) → Own S i → Q i
    either Q here there i o = elim (ℕ_discrete i j) [ yes q ↦ rw q (here (rw q at o)) | no q ↦ there i o q ]

    release_supplied : Supplied S after
    release_supplied = supplied_kept before after r.cards S t.supplied

    release_running : UnderWay S after
    release_running = either (λ i. 0 < after.left i → Running S after i) here there
      where
        here : Own S j → 0 < after.left j → Running S after j
        here o p = let s = r.started o in record { left = omega arith; until = s.until; wait = s.wait }

        there : (i : ℕ) → Own S i → i ≢ j → 0 < after.left i → Running S after i
        there i o d p =
            let k = r.others i o d in
            let h = t.running i o (omega arith) in
            record { left = omega arith; until = omega arith; wait = omega arith }

    release_none_late : NoneLate S after
    release_none_late = either (λ i. after.left i ≤ after.until i) here there
      where
        here : Own S j → after.left j ≤ after.until j
        here o = let s = r.started o in omega (arith, (a.timed j o).length_fits)

        there : (i : ℕ) → Own S i → i ≢ j → after.left i ≤ after.until i
        there i o d = let k = r.others i o d in omega (arith, none_late before t i o)

    release_enough : (i : ℕ) → Own S i → 0 < after.left i → after.until i ≤ S.reach i → Enough P after i
    release_enough = either (λ i. 0 < after.left i → after.until i ≤ S.reach i → Enough P after i) here there
      where
        here : Own S j → 0 < after.left j → after.until j ≤ S.reach j → Enough P after j
        here o p q =
            let s = r.started o in
            start_enough after release_supplied release_running release_none_late j o p (omega arith)

        there : (i : ℕ) → Own S i → i ≢ j → 0 < after.left i → after.until i ≤ S.reach i → Enough P after i
        there i o d p q =
            let k = r.others i o d in
            omega (
              arith,
              t.enough i o (omega arith) (omega arith),
              P.after_release before after j e r i o d,
              ap (λ (l : ℕ). S.width i * l) k.left,
              window_kept before after r.cards (S.width i) 0 (after.until i),
              ap (window (S.width i) before.cards 0) k.until,
            )

    release_on_track : OnTrack P after
    release_on_track = record { supplied = release_supplied; running = release_running; enough = release_enough }

  -- ---- so it holds at every moment reached

  pub on_track : {m : Moment} → Reached S prior m → OnTrack P m
  on_track (idle {m = m} h) = idle_on_track m h
  on_track (slice {before = m} {after = n} served r s) = slice_on_track served m n s (on_track r)
  on_track (release {before = m} {after = n} j e r s) = release_on_track m n j e s (on_track r)
