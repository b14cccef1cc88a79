-- Two runs side by side, by the rules with a clock and without: until the clock ends at an advance their states are beside each other.
-- Assumes nothing.
use Rattle.std.specs.Prelude.{◌≡◌, ◌≢◌, Bool, true, false, ◌||◌, List, [], ◌∷◌, ℕ, ◌+◌, ◌≤◌, ◌<◌, length}
use Rattle.std.proofs.Math.Path.{refl, sym}
use Rattle.std.proofs.Common.{ap, ◌∙◌, true≢false, mod-eq_of_lt, arith}
use Rattle.std.proofs.lemmas.List.{get_or-replicate, length-replicate}
use borrow.Author.Tests.{ne_eqb, eqb-false}
use Rattle.plan.specs.declared.Plan.{Plan}
use Rattle.answer.specs.declared.Answer.{Answer}
use Rattle.answer.specs.declared.Answer.TheVariants.{Good, No}
use Rattle.answer.specs.Answer.{number}
use Rattle.unit.specs.declared.Unit.{Unit}
use Rattle.unit.specs.Unit.{no_unit}
use Rattle.rack.specs.declared.State.{State}
use Rattle.rack.specs.State.{fresh_of}
use Rattle.rack.specs.Form.Properties.{ready_of}
use Rattle.rack.specs.Start.{start_of}
use Rattle.rack.specs.Start.Properties.{start_good}
use Rattle.rack.specs.Release.{release_answer, release_of}
use Rattle.rack.specs.Release.Properties.{release_says}
use Rattle.rack.specs.Advance.{advance_answer, advance_of}
use Rattle.demands.specs.Run.{Call, show, advance, release, next_after, row_after, run_from}
use Rattle.demands.specs.Safe.{Safe}
use Rattle.demands.specs.Safe.Properties.{start_safe, advance_safe, release_safe}
use Rattle.demands.specs.AbsoluteClock.State as Old
use Rattle.demands.specs.AbsoluteClock.Release as OldRelease
use Rattle.demands.specs.AbsoluteClock.Advance as OldAdvance
use Rattle.demands.specs.AbsoluteClock.Run as OldRun
use Rattle.demands.specs.Beside.{UnitBeside, Beside, Clocked}
use Rattle.demands.specs.Beside.Properties.{old_ready, show_same, buffer_same, advance_same, release_same}
use Rattle.demands.specs.Beside.Properties.{beside_advanced, clocked_advanced, beside_released, clocked_released}

-- a safe state, and one with a clock beside it
pub record Together (old : Old.State) (new : State) : Type 0 where
  pub beside : Beside old new
  pub clocked : Clocked old
  pub safe : Safe new

-- ---- a call in both

module _ (old : Old.State) (new : State) (t : Together old new) where
  -- it has the old answer, but for 11, and leaves the old row
  pub told_same : (call : Call) → number (OldRun.next_after old call).answer ≢ 11 →
      ((next_after new call).answer ≡ (OldRun.next_after old call).answer) × (row_after new call ≡ OldRun.row_after old call)
  unfolding advance_of release_of OldAdvance.advance_of OldRelease.release_of
  told_same (show bytes) h = (
    show_same old new t.beside t.clocked t.safe.ready (length bytes) h,
    buffer_same old new t.beside t.clocked t.safe.ready bytes h,
  )
  told_same advance h = ((advance_same old new t.beside t.clocked t.safe.ready h).0, refl)
  told_same (release i e) h = (release_same old new t.beside t.clocked t.safe.ready i e, refl)

  -- and so it is again after it, unless the clock ends at it
  advance_together : number (OldAdvance.advance_answer old) ≢ 11 → Together (OldAdvance.advance_of old).state (advance_of new).state
  unfolding advance_of OldAdvance.advance_of
  advance_together h =
      let same = advance_same old new t.beside t.clocked t.safe.ready h in
      let good : advance_answer new ≡ Good = ready_of new t.safe.ready in
      let old-good : OldAdvance.advance_answer old ≡ Good = sym same.0 ∙ good in
      rw (good, old-good) (record {
        beside = beside_advanced old new t.beside t.clocked t.safe.ready t.safe.places same.1;
        clocked = clocked_advanced old new t.beside t.clocked t.safe.ready t.safe.places same.1;
        safe = advance_safe new t.safe;
      })

  release_together : (i e : ℕ) → Together (OldRelease.release_of old i e).state (release_of new i e).state
  unfolding release_of OldRelease.release_of
  release_together i e = go (release_answer new i e) refl
    where
      same : release_answer new i e ≡ OldRelease.release_answer old i e
      same = release_same old new t.beside t.clocked t.safe.ready i e

      go : (a : Answer) → release_answer new i e ≡ a → Together (OldRelease.release_of old i e).state (release_of new i e).state
      go Good h =
          let may = release_says new i e h in
          rw (h, sym same ∙ h) (record {
            beside = beside_released old new t.beside t.clocked t.safe.ready t.safe.places i e may;
            clocked = clocked_released old new t.beside t.clocked t.safe.ready t.safe.places i e may;
            safe = release_safe new t.safe i e h;
          })
      go (No w) h = rw (h, sym same ∙ h) t

  together_call : (call : Call) → OldRun.ends_at old call ≡ false → Together (OldRun.next_after old call).state (next_after new call).state
  unfolding OldAdvance.advance_of
  together_call (show bytes) h = t
  together_call advance h = advance_together (eqb-false (number (OldAdvance.advance_answer old)) 11 h)
  together_call (release i e) h = release_together i e

  -- before its end the clock does not end at a call
  not_yet : old.clock < Old.last_clock → OldAdvance.advance_answer old ≡ Good
  unfolding OldAdvance.advance_answer OldAdvance.time_left
  not_yet l =
      rw (old_ready old new t.beside t.clocked t.safe.ready, ne_eqb old.clock Old.last_clock (λ e. omega arith))

-- ---- any calls

or_left : (a b : Bool) → (a || b) ≡ false → a ≡ false
or_left true b e = e
or_left false b e = refl

or_right : (a b : Bool) → (a || b) ≡ false → b ≡ false
or_right true b e = absurd (true≢false e)
or_right false b e = e

pub together_run : (calls : List Call) (old : Old.State) (new : State) → Together old new → OldRun.ended old calls ≡ false →
    Together (OldRun.run_from old calls) (run_from new calls)
unfolding OldRun.ended OldRun.run_from run_from
together_run [] old new t h = t
together_run (call ∷ calls) old new t h =
    let next = (OldRun.next_after old call).state in
    let first = or_left (OldRun.ends_at old call) (OldRun.ended next calls) h in
    let rest = or_right (OldRun.ends_at old call) (OldRun.ended next calls) h in
    together_run calls next (next_after new call).state (together_call old new t call first) rest

-- ---- how far the clock reaches

told_good : (old : Old.State) → OldAdvance.advance_answer old ≡ Good → (OldAdvance.advance_of old).answer ≡ Good
unfolding OldAdvance.advance_of
told_good old good = good

clock_after : (old : Old.State) → OldAdvance.advance_answer old ≡ Good → (OldAdvance.advance_of old).state.clock ≡ old.clock + 1
unfolding OldAdvance.advance_of OldAdvance.advanced
clock_after old good = rw good

clock_kept : (old : Old.State) (i e : ℕ) → (OldRelease.release_of old i e).state.clock ≡ old.clock
unfolding OldRelease.release_of OldRelease.released
clock_kept old i e = go (OldRelease.release_answer old i e) refl
  where
    go : (a : Answer) → OldRelease.release_answer old i e ≡ a → (OldRelease.release_of old i e).state.clock ≡ old.clock
    go Good h = rw h
    go (No w) h = rw h

pub not_ended : (calls : List Call) (old : Old.State) (new : State) → Together old new →
    old.clock + OldRun.advances calls ≤ Old.last_clock → OldRun.ended old calls ≡ false
unfolding OldRun.ended OldRun.advances
not_ended [] old new t l = refl
not_ended (show bytes ∷ calls) old new t l = not_ended calls old new t l
not_ended (advance ∷ calls) old new t l = rw first (not_ended calls next (advance_of new).state (together_call old new t advance first) on)
  where
    next : Old.State
    next = (OldAdvance.advance_of old).state

    good : OldAdvance.advance_answer old ≡ Good
    good = not_yet old new t (omega arith)

    first : OldRun.ends_at old advance ≡ false
    first = ne_eqb (number (OldAdvance.advance_of old).answer) 11 (λ z. omega (arith, z, ap number (told_good old good)))

    on : next.clock + OldRun.advances calls ≤ Old.last_clock
    on = omega (arith, clock_after old good)
not_ended (release i e ∷ calls) old new t l =
    not_ended calls (OldRelease.release_of old i e).state (release_of new i e).state (together_call old new t (release i e) refl)
    (omega (arith, clock_kept old i e))

-- ---- from a fresh start

fresh_beside : (p : Plan) → 0 < p.frame → p.kinds ≤ 16 → Beside (Old.fresh_of p) (fresh_of p)
fresh_beside p some most = record {
  plan = refl;
  slice = sym (mod-eq_of_lt some);
  unit = λ i l. unit i (omega arith);
  sum = refl;
}
  where
    unit : (i : ℕ) → i < 16 → UnitBeside (Old.fresh_of p) (fresh_of p) i
    unit i l =
        let v = get_or-replicate 16 i no_unit no_unit l in
        let w = get_or-replicate 16 i Old.no_unit Old.no_unit l in
        record {
          released = ap (λ (x : Unit). x.released) v ∙ sym (ap (λ (x : Old.Unit). x.released) w);
          left = ap (λ (x : Unit). x.left) v ∙ sym (ap (λ (x : Old.Unit). x.left) w);
          gone = λ r. absurd (true≢false (sym r ∙ ap (λ (x : Old.Unit). x.released) w));
          never = λ r. ap (λ (x : Unit). x.gone) v;
        }

fresh_clocked : (p : Plan) → p.kinds ≤ 16 → Clocked (Old.fresh_of p)
fresh_clocked p most = record {
  clock_most = omega arith;
  release_clock = λ i l. omega (arith, ap (λ (x : Old.Unit). x.at) (none i (omega arith)));
  never = λ i l r. ap (λ (x : Old.Unit). x.at) (none i (omega arith));
  unused = λ i m l. none i m;
  sixteen = length-replicate 16 Old.no_unit;
}
  where
    none : (i : ℕ) → i < 16 → Old.unit_of (Old.fresh_of p) i ≡ Old.no_unit
    none i l = get_or-replicate 16 i Old.no_unit Old.no_unit l

pub start_together : (p : Plan) → (start_of p).answer ≡ Good → Together (Old.start_of p).state (start_of p).state
unfolding start_of Old.start_of
start_together p admitted =
    let safe : Safe (fresh_of p) = rw (start_good p admitted) at (start_safe p admitted) in
    let counts = safe.ready.order.counts in
    rw admitted (record {
      beside = fresh_beside p counts.some_slice counts.kinds_most;
      clocked = fresh_clocked p counts.kinds_most;
      safe = safe;
    })
