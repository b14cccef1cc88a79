-- `verdict::all_cards` meets its contract.
-- Assumes nothing.
use Rattle.std.proofs.Math.Path.{◌≡◌}
use Rattle.std.specs.Prelude.{replicate}
use Rattle.laws.specs.Written.{written}
use Rattle.layout.specs.Layout.{first_cell}
use Rattle.verdict.specs.Steps.{project_cards}
use Rattle.verdict.proofs.all_cards.Given as goal

abbrev pub invariant-loop-j : goal.invariant-loop-j
invariant-loop-j l =
    (l.first ≡ first_cell l.fn.ordered.plan l.j) × (l.cards ≡ written l.j (project_cards l.fn.ordered.plan) (replicate 8 (replicate 64 0)))
