-- `plan::Plan::check_open` meets its contract.
-- Assumes nothing.
use Rattle.answer.specs.Answer.Properties.{opened_no, opened_on}
use Rattle.plan.specs.Open.{checked_open}
use Rattle.plan.specs.Order.Properties.{projects_opened, kinds_opened}
use Rattle.plan.proofs.Plan.check_open.Goals as goal

pub returns-in_default : goal.returns-in_default
unfolding checked_open
returns-in_default c = search (opened_no, opened_on)

pub returns-in_default-unused : goal.returns-in_default-unused
unfolding checked_open
returns-in_default-unused c = search (opened_no, opened_on)

pub ranges_open-requires : goal.ranges_open-requires
ranges_open-requires c = (search projects_opened, search kinds_opened)

pub returns : goal.returns
unfolding checked_open
returns c = search (opened_no, opened_on)
