-- The accepted advances of a run since the last accepted release of a kind: what 14 speaks of.
-- Assumes nothing.
use Rattle.std.specs.Prelude.{ℕ, ◌+◌, Bool, false, cond, List, [], ◌∷◌, ltb, eqb}
use Rattle.answer.specs.Answer.{if_good}
use Rattle.rack.specs.declared.State.{State}
use Rattle.rack.specs.Release.{release_answer}
use Rattle.rack.specs.Advance.{advance_answer}
use Rattle.demands.specs.Run.{Call, show, advance, release, next_after}
pub mod Properties

-- how many, or that the kind was never released
pub data Since : Type 0 where
  never : Since
  ago : ℕ → Since

-- one slice more
abbrev pub later : Since → Since
later never = never
later (ago slices) = ago (slices + 1)

-- after a call, for kind i
unfoldable pub since_call : ℕ → State → Since → Call → Since
since_call i s since (show bytes) = since
since_call i s since advance = if_good (advance_answer s) (later since) since
since_call i s since (release k e) = if_good (release_answer s k e) (cond (eqb k i) (ago 0) since) since

-- after all the calls
unfoldable pub since_from : ℕ → State → Since → List Call → Since
since_from i s since [] = since
since_from i s since (call ∷ calls) = since_from i (next_after s call).state (since_call i s since call) calls

-- "released before, and fewer than T slices ago"
abbrev pub fewer : ℕ → Since → Bool
fewer separation never = false
fewer separation (ago slices) = ltb slices separation
