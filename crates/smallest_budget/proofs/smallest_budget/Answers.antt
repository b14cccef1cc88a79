-- `smallest_budget::smallest_budget` meets its contract.
-- Assumes nothing.
use Rattle.std.proofs.Common.{◌∙◌}
use Rattle.plan.specs.Open.Properties.{open_opened}
use Rattle.smallest_budget.specs.Smallest.Properties.{order_refused, order_passed}
use Rattle.smallest_budget.specs.Steps.Properties.{project_fits}
use Rattle.smallest_budget.proofs.smallest_budget.Goals as goal

pub returns-in_default : goal.returns-in_default
returns-in_default c = c.refused.ensures ∙ search order_refused

pub overflow_cast-open : goal.overflow_cast-open
overflow_cast-open c = record { fits = search project_fits }

pub invariant_of-open : goal.invariant_of-open
invariant_of-open c = record { in_order = search open_opened }

pub returns : goal.returns
returns c = search order_passed
