-- What holds of every run: a claim that stays with each accepted call before holds of the calls that show something, one after the other.
-- Assumes nothing.
use Rattle.std.specs.Prelude.{◌≡◌, ℕ}
use Rattle.std.proofs.Math.Path.{refl}
use mathlib.Core.List.{List, [], ◌∷◌}
use Rattle.answer.specs.declared.Answer.{Answer}
use Rattle.answer.specs.declared.Answer.TheVariants.{Good, No}
use Rattle.rack.specs.declared.State.{State}
use Rattle.rack.specs.Release.{released, release_answer, release_of}
use Rattle.rack.specs.Row.{row_of}
use Rattle.rack.specs.Advance.{advanced, advance_answer, advance_of}
use Rattle.demands.specs.Run.{Call, show, advance, release, run_from, Accepted, accepted, accepted_in, slices_of}
use Rattle.demands.specs.Shown.{Event, started, ran, shown_by, shown}

-- ---- the calls that show something: showings and refusals change nothing

-- a claim on what a run shows: the state that it starts from, its events, its accepted advances, and the state that it leads to
abbrev pub Claim : Type 1
Claim = State → List Event → List Accepted → State → Type 0

-- it stays with an accepted advance before
abbrev pub WithSlice : Claim → Type 0
WithSlice P = (s end : State) (events : List Event) (slices : List Accepted) → advance_answer s ≡ Good →
    P (advanced s) events slices end → P s (ran (row_of s) ∷ events) (accepted s ∷ slices) end

-- and with an accepted release before
abbrev pub WithRelease : Claim → Type 0
WithRelease P = (s end : State) (i e : ℕ) (events : List Event) (slices : List Accepted) → release_answer s i e ≡ Good →
    P (released s i e) events slices end → P s (started i e ∷ events) slices end

module _ (P : Claim) (nothing : (s : State) → P s [] [] s) (with_slice : WithSlice P) (with_release : WithRelease P) where
  abbrev Of : List Call → State → Type 0
  Of calls s = P s (shown s calls) (slices_of s calls) (run_from s calls)

  -- then it holds of every run
  pub along_shown : (calls : List Call) (s : State) → Of calls s
  unfolding shown shown_by slices_of run_from accepted_in advance_of release_of
  along_shown [] s = nothing s
  along_shown (show bytes ∷ calls) s = along_shown calls s
  along_shown (advance ∷ calls) s = go (advance_answer s) refl (along_shown calls (advanced s)) (along_shown calls s)
    where
      go : (a : Answer) → advance_answer s ≡ a → Of calls (advanced s) → Of calls s → Of (advance ∷ calls) s
      go Good e p q =
          let next = advanced s in
          rw e (with_slice s (run_from next calls) (shown next calls) (slices_of next calls) e p)
      go (No r) e p q = rw e q
  along_shown (release i e ∷ calls) s = go (release_answer s i e) refl (along_shown calls (released s i e)) (along_shown calls s)
    where
      go : (a : Answer) → release_answer s i e ≡ a → Of calls (released s i e) → Of calls s → Of (release i e ∷ calls) s
      go Good g p q =
          let next = released s i e in
          rw g (with_release s (run_from next calls) i e (shown next calls) (slices_of next calls) g p)
      go (No r) g p q = rw g q
