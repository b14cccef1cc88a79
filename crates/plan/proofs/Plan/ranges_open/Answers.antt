-- `plan::Plan::ranges_open` meets its contract.
-- Assumes nothing.
use Rattle.answer.specs.Answer.Properties.{opened_no, opened_on}
use Rattle.plan.specs.Open.{ranges_open}
use Rattle.plan.proofs.Plan.ranges_open.Goals as goal

pub returns-in_default : goal.returns-in_default
unfolding ranges_open
returns-in_default c = search (opened_no, opened_on)

pub returns-in_default-projects : goal.returns-in_default-projects
unfolding ranges_open
returns-in_default-projects c = search (opened_no, opened_on)

pub returns : goal.returns
unfolding ranges_open
returns c = search (opened_no, opened_on)
