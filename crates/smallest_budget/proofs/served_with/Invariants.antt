-- `smallest_budget::served_with` meets its contract.
-- Assumes nothing.
use Rattle.std.proofs.Math.Path.{◌≡◌}
use Rattle.answer.specs.declared.Answer.TheVariants.{Good}
use Rattle.answer.specs.Answer.{each_to}
use Rattle.smallest_budget.specs.Steps.{fit_by, fitted_by}
use Rattle.smallest_budget.proofs.served_with.Given as goal

abbrev pub invariant-loop-i : goal.invariant-loop-i
invariant-loop-i l = Good ≡ each_to l.i (fitted_by l.project l.asked (fit_by l.frame l.ceiling l.asked l.budget))
