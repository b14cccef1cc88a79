-- The invariant of a running rack: nothing to refuse in the state itself, and every project where the theory's steps lead.
-- Assumes nothing.
use Rattle.std.specs.Prelude.{◌≡◌, ℕ}
use Rattle.answer.specs.declared.Answer.TheVariants.{Good}
use Rattle.verdict.specs.Verdict.{judged}
use Rattle.rack.specs.declared.State.{State}
use Rattle.rack.specs.State.{Places}
use Rattle.rack.specs.Form.{Ready}
use Rattle.analysis.specs.Reached.{Reached}
use Rattle.analysis.specs.EarliestFirst.{no_later}
use Rattle.demands.specs.View.{setup_of, moment_of}
pub mod Properties

-- a state that a run can come to: its plan admitted, in form with its sums right, with all its places, and each project at a moment that
-- its steps reach
pub record Safe (s : State) : Type 0 where
  pub admitted : (judged s.plan).answer ≡ Good
  pub ready : Ready s
  pub places : Places s
  pub reached : (j : ℕ) → Reached (setup_of s.plan j) (no_later (setup_of s.plan j)) (moment_of s j)
