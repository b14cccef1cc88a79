-- `smallest_budget::cards_with` meets its contract.
-- Assumes nothing.
use Rattle.std.proofs.Math.Path.{◌≡◌}
use Rattle.std.specs.Prelude.{replicate, take}
use Rattle.laws.specs.Written.{written}
use Rattle.layout.specs.Cards.{held_from}
use Rattle.smallest_budget.proofs.cards_with.Given as goal

abbrev pub invariant-loop-s : goal.invariant-loop-s
invariant-loop-s l = l.held-items ≡ written l.s (held_from 0 l.budget l.frame) (take l.frame (replicate 64 0))
