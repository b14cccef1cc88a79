-- `verdict::run_cards` meets its contract.
-- Assumes nothing.
use Rattle.std.proofs.Math.Path.{◌≡◌}
use Rattle.std.specs.Prelude.{replicate, take}
use Rattle.laws.specs.Written.{written}
use Rattle.layout.specs.Cards.{held_from}
use Rattle.verdict.proofs.run_cards.Given as goal

abbrev pub invariant-loop-s : goal.invariant-loop-s
invariant-loop-s l = l.held-items ≡ written l.s (held_from l.first l.budget l.frame) (take l.frame (replicate 64 0))
