-- What the steps of judging a plan hand on. No statement to a caller cites these.
-- Assumes nothing.
use Rattle.std.specs.Prelude.{ℕ, List, replicate}
use Rattle.laws.specs.Written.{written}
use Rattle.plan.specs.declared.Plan.{Plan}
use Rattle.layout.specs.Layout.{held}
use Rattle.layout.specs.Cards.{held_from}
use Rattle.supply.specs.declared.Fit.{Fit}
use Rattle.verdict.specs.Verdict.{width_of, excess_of, bad_slice_of}
pub mod Properties

-- the cards that a run of cells holds at each slice of the frame
unfoldable pub run_cards : ℕ → ℕ → ℕ → List ℕ
run_cards first budget frame = written frame (held_from first budget frame) (replicate 64 0)

-- the cards that project j holds at each slice of the frame
unfoldable pub project_cards : Plan → ℕ → List ℕ
project_cards p j = written p.frame (held p j) (replicate 64 0)

-- a row of them for each project
unfoldable pub all_cards : Plan → List (List ℕ)
all_cards p = written p.projects (project_cards p) (replicate 8 (replicate 64 0))

-- the k, the excess and the bad slice of kind i
abbrev pub fit_on : Plan → ℕ → Fit
fit_on p i = record { width = width_of p i; excess = excess_of p i; slice = bad_slice_of p i }
