-- `verdict::judge` meets its contract.
-- Assumes nothing.
use Rattle.std.proofs.Math.Path.{◌∙◌}
use Rattle.plan.specs.Order.Properties.{check_opened}
use Rattle.verdict.specs.Steps.Properties.{judged_no, judged_on}
use Rattle.verdict.proofs.judge.Goals as goal

pub returns-in_default : goal.returns-in_default
returns-in_default c = c.refused.ensures ∙ search judged_no

pub invariant_of-fits : goal.invariant_of-fits
invariant_of-fits c = record { in_order = search check_opened }

pub returns : goal.returns
returns c = search judged_on
