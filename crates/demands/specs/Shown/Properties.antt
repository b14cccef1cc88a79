-- Laws of what a run shows: a run is the events that it shows, one after the other, and they tell what is left of each unit.
-- Assumes nothing.
use Rattle.std.specs.Prelude.{◌≡◌, List, length, get_or}
use Rattle.std.proofs.Common.{sym, ap, ◌∙◌, true≢false, add-zero, add_assoc, mod-lt, mod-eq_of_lt, one-add, arith, eq-eqb, ne_eqb}
use Rattle.std.proofs.Math.Bool.{true, false}
use Prim.Native.Nat.{ℕ, zero, suc, ◌+◌, ◌-◌, ◌%◌, ◌<◌, min}
use Rattle.std.proofs.Math.Decide.{ℕ_discrete}
use Rattle.std.proofs.Math.Nat.{mod-add-mod}
use Rattle.answer.specs.declared.Answer.TheVariants.{Good}
use Rattle.unit.specs.declared.Unit.{Unit}
use Rattle.rack.specs.declared.State.{State}
use Rattle.rack.specs.State.{unit_of, kind_at, InUse}
use Rattle.rack.specs.Release.{released, release_answer}
use Rattle.rack.specs.Release.Properties.{release_says, release_unit, release_others}
use Rattle.rack.specs.Row.{row_of}
use Rattle.rack.specs.Advance.{advanced, advance_answer}
use Rattle.demands.specs.Run.{Call, run_from, no_slice, slices_of}
use Rattle.demands.specs.Named.{names_kind, bytes_naming}
use Rattle.demands.specs.View.Steps.{sliced_released, sliced_gone}
use Rattle.demands.specs.Served.{named_falls}
use Rattle.demands.specs.Safe.{Safe}
use Rattle.demands.specs.Safe.Properties.{safe_unit, advance_safe, release_safe}
use Rattle.demands.specs.Shown.{started, ran, shown, up_to}
use Rattle.demands.specs.Shown.Along.{Claim, WithSlice, WithRelease, along_shown}
use Rattle.demands.specs.Shown.{Last, none, unit, last_after, last_from, left_of, restarted}

-- the slice before slice x of a run
pub slice_before : (calls : List Call) (s : State) → s.slice < s.plan.frame → (x : ℕ) → x < length (slices_of s calls) →
    (get_or (slices_of s calls) x no_slice).before.slice ≡ (s.slice + x) % s.plan.frame
unfolding advanced released
slice_before = along_shown Turns (λ s f x l. absurd (omega arith)) with_slice (λ s end i e events slices g f. f)
  where
    Turns : Claim
    Turns s events slices end = s.slice < s.plan.frame → (x : ℕ) → x < length slices →
        (get_or slices x no_slice).before.slice ≡ (s.slice + x) % s.plan.frame

    with_slice : WithSlice Turns
    with_slice s end events slices g f m zero l = sym (rw (add-zero s.slice) (mod-eq_of_lt m))
    with_slice s end events slices g f m (suc x) l =
        let some : 0 < s.plan.frame = omega arith in
        f (mod-lt (s.slice + 1) some) x (omega arith)
        ∙ mod-add-mod (s.slice + 1) s.plan.frame x
        ∙ ap (λ (n : ℕ). n % s.plan.frame) (add_assoc s.slice 1 x ∙ ap (λ (n : ℕ). s.slice + n) (one-add x))

-- ---- a kind along a run

-- kind i of the plan, in a safe state
pub record Its (i : ℕ) (s : State) : Type 0 where
  pub safe : Safe s
  pub its_kind : InUse s i

module _ (i : ℕ) where
  its_slice : (s : State) → advance_answer s ≡ Good → Its i s → Its i (advanced s)
  unfolding advanced
  its_slice s good t = record { safe = advance_safe s t.safe; its_kind = t.its_kind }

  its_release : (s : State) (k e : ℕ) → release_answer s k e ≡ Good → Its i s → Its i (released s k e)
  unfolding released
  its_release s k e good t = record { safe = release_safe s t.safe k e good; its_kind = t.its_kind }

  -- another kind's release leaves the kind's unit
  others : (s : State) (k e : ℕ) → release_answer s k e ≡ Good → Its i s → (k ≡ i → ⊥) → unit_of (released s k e) i ≡ unit_of s i
  others s k e good t q = release_others s k e (release_says s k e good) t.safe.places i (λ z. q (sym z))

  -- ---- what is left

  -- the events before have told so much of it
  abbrev Tells : State → Last → Type 0
  Tells s last = (unit_of s i).left ≡ left_of last

  left_slice : (s : State) (last : Last) → advance_answer s ≡ Good → Its i s → Tells s last →
      Tells (advanced s) (last_after i last (ran (row_of s)))
  left_slice s none good t h = omega (arith, named_falls s t.safe good i t.its_kind)
  left_slice s (unit e named) good t h = omega (arith, named_falls s t.safe good i t.its_kind)

  left_release : (s : State) (k e : ℕ) (last : Last) → release_answer s k e ≡ Good → Its i s → Tells s last →
      Tells (released s k e) (last_after i last (started k e))
  left_release s k e last good t h = elim (ℕ_discrete k i) [ yes q ↦ rw (eq-eqb k i q) (same q) | no q ↦ rw (ne_eqb k i q) (other q) ]
    where
      same : k ≡ i → (unit_of (released s k e) i).left ≡ e - 0
      same q = rw (← q, release_unit s k e (release_says s k e good) t.safe.places) (omega arith)

      other : (k ≡ i → ⊥) → (unit_of (released s k e) i).left ≡ left_of last
      other q = rw (others s k e good t q) h

  -- what is left at the end
  pub left_told : (calls : List Call) (s : State) → Its i s → (last : Last) → Tells s last →
      Tells (run_from s calls) (last_from i last (shown s calls))
  unfolding last_from
  left_told = along_shown Ends (λ s t last h. h) with_slice with_release
    where
      Ends : Claim
      Ends s events slices end = Its i s → (last : Last) → Tells s last → Tells end (last_from i last events)

      with_slice : WithSlice Ends
      with_slice s end events slices g f t last h =
          f (its_slice s g t) (last_after i last (ran (row_of s))) (left_slice s last g t h)

      with_release : WithRelease Ends
      with_release s end k e events slices g f t last h =
          f (its_release s k e g t) (last_after i last (started k e)) (left_release s k e last g t h)

  -- and before each slice
  abbrev Before : Claim
  Before s events slices end = Its i s → (last : Last) → Tells s last → (x : ℕ) → x < length slices →
      Tells (get_or slices x no_slice).before (last_from i last (up_to x events))

  pub left_before : (calls : List Call) (s : State) → Before s (shown s calls) (slices_of s calls) (run_from s calls)
  unfolding last_from up_to
  left_before = along_shown Before (λ s t last h x l. absurd (omega arith)) with_slice with_release
    where
      with_slice : WithSlice Before
      with_slice s end events slices g f t last h zero l = h
      with_slice s end events slices g f t last h (suc x) l =
          f (its_slice s g t) (last_after i last (ran (row_of s))) (left_slice s last g t h) x (omega arith)

      with_release : WithRelease Before
      with_release s end k e events slices g f t last h x l =
          f (its_release s k e g t) (last_after i last (started k e)) (left_release s k e last g t h) x l

  -- ---- while the unit is the kind's last

  -- with no release of the kind, what is left falls by the bytes that name it
  abbrev Falls : Claim
  Falls s events slices end = Its i s → restarted i events ≡ false →
      (unit_of end i).left + bytes_naming (names_kind i) slices ≡ (unit_of s i).left

  pub left_falls : (calls : List Call) (s : State) → Falls s (shown s calls) (slices_of s calls) (run_from s calls)
  unfolding restarted bytes_naming
  left_falls = along_shown Falls (λ s t h. omega arith) with_slice with_release
    where
      with_slice : WithSlice Falls
      with_slice s end events slices g f t h =
          omega (arith, f (its_slice s g t) h, named_falls s t.safe g i t.its_kind)

      with_release : WithRelease Falls
      with_release s end k e events slices g f t h =
          elim (ℕ_discrete k i) [ yes q ↦ absurd (true≢false (sym (rw (eq-eqb k i q)) ∙ h)) | no q ↦ other q (rw (ne_eqb k i q) at h) ]
        where
          other : (k ≡ i → ⊥) → restarted i events ≡ false → (unit_of end i).left + bytes_naming (names_kind i) slices ≡ (unit_of s i).left
          other q n = rw (others s k e g t q) at (f (its_release s k e g t) n)

  -- and the slices gone rise by the slices, held at T
  abbrev Counts : Claim
  Counts s events slices end = Its i s → (unit_of s i).released ≡ true → restarted i events ≡ false →
      (unit_of end i).gone ≡ min (kind_at s i).separation ((unit_of s i).gone + length slices)

  pub gone_counts : (calls : List Call) (s : State) → Counts s (shown s calls) (slices_of s calls) (run_from s calls)
  unfolding restarted advanced released
  gone_counts = along_shown Counts none_yet with_slice with_release
    where
      none_yet : (s : State) → Its i s → (unit_of s i).released ≡ true → false ≡ false →
          (unit_of s i).gone ≡ min (kind_at s i).separation ((unit_of s i).gone + 0)
      none_yet s t r h = omega (arith, (safe_unit s t.safe i t.its_kind).gone_most)

      with_slice : WithSlice Counts
      with_slice s end events slices g f t r h =
          let ready = t.safe.ready in
          let still = sliced_released s ready t.safe.places i t.its_kind in
          let one = sliced_gone s ready t.safe.places i t.its_kind r in
          omega (arith, f (its_slice s g t) (still ∙ r) h, one)

      with_release : WithRelease Counts
      with_release s end k e events slices g f t r h =
          elim (ℕ_discrete k i) [ yes q ↦ absurd (true≢false (sym (rw (eq-eqb k i q)) ∙ h)) | no q ↦ other q (rw (ne_eqb k i q) at h) ]
        where
          other : (k ≡ i → ⊥) → restarted i events ≡ false →
              (unit_of end i).gone ≡ min (kind_at s i).separation ((unit_of s i).gone + length slices)
          other q n =
              let v = others s k e g t q in
              f (its_release s k e g t) (ap (λ (x : Unit). x.released) v ∙ r) n
              ∙ ap (λ (x : Unit). min (kind_at s i).separation (x.gone + length slices)) v
