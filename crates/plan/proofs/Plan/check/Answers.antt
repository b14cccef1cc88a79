-- `plan::Plan::check` meets its contract.
-- Assumes nothing.
use Rattle.std.proofs.Common.{rules}
use Rattle.answer.specs.Answer.Properties.{opened_no, opened_on, above_refused, most_passed}
use Rattle.plan.specs.Order.{budgets_fit, ranges, checked}
use Rattle.plan.specs.Order.Properties.{projects_opened, kinds_opened}
use Rattle.plan.proofs.Plan.check.Goals as goal

pub returns-in_default : goal.returns-in_default
unfolding checked
returns-in_default c = search (opened_no, opened_on)

pub returns-in_default-unused : goal.returns-in_default-unused
unfolding checked
returns-in_default-unused c = search (opened_no, opened_on)

pub projects_in_range-projects-requires : goal.projects_in_range-projects-requires
projects_in_range-projects-requires c = projects_opened _ _ c.in-Good.is c.sizes-sizes.ensures

pub returns-in_default-projects : goal.returns-in_default-projects
unfolding checked ranges
returns-in_default-projects c = search (opened_no, opened_on)

pub kinds_in_range-kinds-requires : goal.kinds_in_range-kinds-requires
kinds_in_range-kinds-requires c = kinds_opened _ _ c.in-Good.is c.sizes-sizes.ensures

pub returns-in_default-kinds : goal.returns-in_default-kinds
unfolding checked ranges
returns-in_default-kinds c = search (opened_no, opened_on)

pub returns-then-from-budgets : goal.returns-then-from-budgets
unfolding checked ranges budgets_fit
returns-then-from-budgets c = search (opened_no, opened_on, above_refused, rules)

pub returns : goal.returns
unfolding checked ranges budgets_fit
returns c = search (opened_no, opened_on, most_passed, rules)
