-- `smallest_budget::Open::asked` meets its contract.
-- Assumes nothing.
use Rattle.std.proofs.Math.Path.{◌≡◌}
use Rattle.std.specs.Prelude.{replicate}
use Rattle.laws.specs.Written.{written}
use Rattle.smallest_budget.specs.Steps.{asked_at, nothing_asked}
use Rattle.smallest_budget.proofs.Open.asked.Given as goal

abbrev pub invariant-loop-i : goal.invariant-loop-i
invariant-loop-i l = l.asked ≡ written l.i (asked_at l.fn.self.plan) (replicate 16 nothing_asked)
