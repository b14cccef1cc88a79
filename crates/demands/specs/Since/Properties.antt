-- Laws of the slices since a release: a safe state counts them too.
-- Assumes nothing.
use Rattle.std.specs.Prelude.{◌≡◌, ◌≢◌, true, false, cond, ℕ, ◌+◌, min, ltb, eqb}
use Rattle.std.proofs.Math.Path.{refl}
use Rattle.std.proofs.Common.{sym, ap, ◌∙◌, arith, lt-ltb, le-ltb, eq-eqb, ne_eqb}
use mathlib.Core.List.{List, [], ◌∷◌}
use Rattle.std.proofs.Math.Decide.{dec_lt, ℕ_discrete}
use Rattle.answer.specs.declared.Answer.{Answer}
use Rattle.answer.specs.declared.Answer.TheVariants.{Good, No}
use Rattle.answer.specs.Answer.{if_good}
use Rattle.unit.specs.declared.Unit.{Unit}
use Rattle.rack.specs.declared.State.{State}
use Rattle.rack.specs.State.{unit_of, kind_at, InUse}
use Rattle.unit.specs.Start.{early}
use Rattle.rack.specs.Release.{release_answer, released, release_of, Releasable}
use Rattle.rack.specs.Release.Properties.{release_says, release_unit, release_others}
use Rattle.rack.specs.Advance.{advanced, advance_answer, advance_of}
use Rattle.rack.proofs.Laws.Advance.{advance_says}
use Rattle.demands.specs.Run.{Call, show, advance, release, next_after, run_from}
use Rattle.demands.specs.View.Steps.{sliced_released, sliced_gone, new_gone}
use Rattle.demands.specs.Safe.{Safe}
use Rattle.demands.specs.Safe.Properties.{advance_safe, release_safe}
use Rattle.demands.specs.Since.{Since, never, ago, later, since_call, since_from, fewer}

-- the state counts the same of kind i, held at T
abbrev pub Tells : State → ℕ → Since → Type 0
Tells s i never = (unit_of s i).released ≡ false
Tells s i (ago slices) = ((unit_of s i).released ≡ true) × ((unit_of s i).gone ≡ min (kind_at s i).separation slices)

-- a number held at T is below T exactly when it was
pub held_test : (separation slices : ℕ) → ltb (min separation slices) separation ≡ ltb slices separation
held_test separation slices =
    elim (dec_lt slices separation) [
      | yes l ↦ lt-ltb (min separation slices) separation (omega arith) ∙ sym (lt-ltb slices separation l)
      | no l ↦ le-ltb (min separation slices) separation (omega arith) ∙ sym (le-ltb slices separation (omega arith))
    ]

-- so 14 is told by the one as by the other
pub tells_early : (s : State) (i : ℕ) (since : Since) → Tells s i since →
    early (kind_at s i).separation (unit_of s i) ≡ fewer (kind_at s i).separation since
unfolding early
tells_early s i never t = rw t
tells_early s i (ago slices) t = rw (t.0, t.1) (held_test (kind_at s i).separation slices)

tells_later : (s next : State) (i : ℕ) (since : Since) → (kind_at next i).separation ≡ (kind_at s i).separation →
    (unit_of next i).released ≡ (unit_of s i).released →
    ((unit_of s i).released ≡ true → (unit_of next i).gone ≡ min (kind_at s i).separation ((unit_of s i).gone + 1)) →
    Tells s i since → Tells next i (later since)
tells_later s next i never k p q t = p ∙ t
tells_later s next i (ago slices) k p q t = (p ∙ t.0, omega (arith, q t.0, t.1))

tells_kept : (s next : State) (i : ℕ) (since : Since) →
    (kind_at next i).separation ≡ (kind_at s i).separation →
    unit_of next i ≡ unit_of s i →
    Tells s i since →
    Tells next i since
tells_kept s next i never k v t = ap (λ (x : Unit). x.released) v ∙ t
tells_kept s next i (ago slices) k v t =
    (ap (λ (x : Unit). x.released) v ∙ t.0, ap (λ (x : Unit). x.gone) v ∙ t.1 ∙ ap (λ (x : ℕ). min x slices) (sym k))

-- what a good answer moves, and a refusal keeps
chosen : (P : State → Since → Type 0) (a : Answer) (new old : State) (more since : Since) →
    (a ≡ Good → P new more) → P old since → P (if_good a new old) (if_good a more since)
chosen P Good new old more since g h = g refl
chosen P (No r) new old more since g h = h

-- a safe state, of which a run tells so much of kind i
pub record Told (i : ℕ) (s : State) (since : Since) : Type 0 where
  pub safe : Safe s
  pub its_kind : InUse s i
  pub tells : Tells s i since

module _ (i : ℕ) where
  told_slice : (s : State) (since : Since) → Told i s since → advance_answer s ≡ Good → Told i (advanced s) (later since)
  unfolding advanced
  told_slice s since t good =
      let may = advance_says s good in
      record {
        safe = advance_safe s t.safe;
        its_kind = t.its_kind;
        tells =
            tells_later s (advanced s) i since refl (sliced_released s may t.safe.places i t.its_kind)
            (sliced_gone s may t.safe.places i t.its_kind) t.tells;
      }

  told_release : (s : State) (since : Since) (k e : ℕ) → Told i s since → release_answer s k e ≡ Good →
      Told i (released s k e) (cond (eqb k i) (ago 0) since)
  unfolding released
  told_release s since k e t good = record {
    safe = release_safe s t.safe k e good;
    its_kind = t.its_kind;
    tells = elim (ℕ_discrete k i) [ yes q ↦ rw (eq-eqb k i q) (same q) | no q ↦ rw (ne_eqb k i q) (other q) ];
  }
    where
      may : Releasable s k e
      may = release_says s k e good

      same : k ≡ i → Tells (released s k e) i (ago 0)
      same q =
          rw (← q) (
            ap (λ (v : Unit). v.released) (release_unit s k e may t.safe.places),
            omega (arith, new_gone s k e may t.safe.places),
          )

      other : (k ≡ i → ⊥) → Tells (released s k e) i since
      other q =
          let d : i ≢ k = λ z. q (sym z) in
          tells_kept s (released s k e) i since refl (release_others s k e may t.safe.places i d) t.tells

  told_call : (s : State) (since : Since) (call : Call) → Told i s since → Told i (next_after s call).state (since_call i s since call)
  unfolding advance_of release_of since_call
  told_call s since (show bytes) t = t
  told_call s since advance t = chosen (Told i) (advance_answer s) (advanced s) s (later since) since (told_slice s since t) t
  told_call s since (release k e) t =
      chosen (Told i) (release_answer s k e) (released s k e) s (cond (eqb k i) (ago 0) since) since (told_release s since k e t) t

  pub told_run : (calls : List Call) (s : State) (since : Since) → Told i s since → Told i (run_from s calls) (since_from i s since calls)
  unfolding run_from since_from
  told_run [] s since t = t
  told_run (call ∷ calls) s since t = told_run calls (next_after s call).state (since_call i s since call) (told_call s since call t)
