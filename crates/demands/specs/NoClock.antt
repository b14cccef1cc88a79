-- Document 02 (ix), "The clock must not run out": what the rules without a clock owe those with one, and what is promised in its place.
-- Demand 3 for runs without end is in Deadlines, where `slice_tells` and `gone_tells` say what the state counts.
-- Assumes nothing.
use Rattle.std.specs.Prelude.{◌≡◌, ◌≢◌, true, false, List, ℕ, ◌≤◌, ◌<◌}
use Rattle.std.proofs.Common.{arith}
use Rattle.plan.specs.declared.Plan.{Plan}
use Rattle.plan.specs.Order.{within}
use Rattle.answer.specs.declared.Answer.TheVariants.{Good}
use Rattle.answer.specs.Answer.{number}
use Rattle.rack.specs.declared.State.{State}
use Rattle.rack.specs.State.{unit_of, kind_at}
use Rattle.rack.specs.Form.{in_form, ready}
use Rattle.rack.specs.Form.Properties.{ready_says, form_of}
use Rattle.rack.specs.Start.{start_of}
use Rattle.rack.specs.Release.{release_of}
use Rattle.rack.specs.Release.Properties.{release_says, release_none_left}
use Rattle.demands.specs.Run.{Call, next_after, row_after, after}
use Rattle.demands.specs.Refusals.{left_fourteen}
use Rattle.demands.specs.Safe.Properties.{after_safe}
use Rattle.demands.specs.AbsoluteClock.State as Old
use Rattle.demands.specs.AbsoluteClock.Run as OldRun
use Rattle.demands.specs.Beside.{Beside}
use Rattle.demands.specs.Beside.Runs.{told_same, together_run, not_ended, start_together}

-- ---- 1. "From a fresh start on an admitted plan, rows and refusals equal the old ones wherever the old clock hadn't ended"

module _ (p : Plan) (admitted : (start_of p).answer ≡ Good) where
  -- after any calls among which the old clock did not end at an advance, a call that the old rules do not answer with 11 has their answer,
  -- and leaves the row that they leave
  pub as_before : (calls : List Call) (call : Call) →
      let old = OldRun.after p calls in
      let new = after p calls in
      OldRun.ended (Old.start_of p).state calls ≡ false →
      number (OldRun.next_after old call).answer ≢ 11 →
      ((next_after new call).answer ≡ (OldRun.next_after old call).answer) × (row_after new call ≡ OldRun.row_after old call)
  as_before calls call on =
      told_same (OldRun.after p calls) (after p calls)
      (together_run calls (Old.start_of p).state (start_of p).state (start_together p admitted) on) call

  -- the states then stand beside each other: the slice is the clock modulo F, and slices gone are the lesser of T and clock less
  -- release clock
  pub beside_before : (calls : List Call) → OldRun.ended (Old.start_of p).state calls ≡ false →
      Beside (OldRun.after p calls) (after p calls)
  beside_before calls on = (together_run calls (Old.start_of p).state (start_of p).state (start_together p admitted) on).beside

  -- and for so many advances the old clock did not end
  pub a_billion_slices : (calls : List Call) → OldRun.advances calls ≤ 1000000000 → OldRun.ended (Old.start_of p).state calls ≡ false
  unfolding Old.start_of start_of
  a_billion_slices calls few =
      not_ended calls (Old.start_of p).state (start_of p).state (start_together p admitted) (omega (arith, few, starts))
    where
      starts : (Old.start_of p).state.clock ≡ 0
      starts = rw admitted

  -- ---- 2. "In form" is kept by every call

  pub in_form_kept : (calls : List Call) → in_form (after p calls) ≡ true
  in_form_kept calls = form_of (after p calls) (after_safe p admitted calls).ready.form

-- ---- 3. "Show that 15 can then never occur": in every state in form, reached or not

-- a kind with work left is refused by 14
pub left_is_early : (s : State) (i e : ℕ) →
    ready s ≡ Good →
    i < s.plan.kinds →
    within (kind_at s i).length e ≡ true →
    0 < (unit_of s i).left →
    number (release_of s i e).answer ≡ 14
unfolding release_of
left_is_early s i e good l w some = left_fourteen s (ready_says s good) i e l w some

-- so a release that is accepted finds nothing left
pub accepted_clear : (s : State) (i e : ℕ) → (release_of s i e).answer ≡ Good → (unit_of s i).left ≡ 0
unfolding release_of
accepted_clear s i e good = release_none_left s i e (release_says s i e good)
