-- `plan::Plan::unused` meets its contract.
-- Assumes nothing.
use Rattle.answer.specs.Answer.Properties.{stages}
use Rattle.plan.specs.Order.{unused}
use Rattle.plan.proofs.Plan.unused.Goals as goal

pub returns-then-not-tidy : goal.returns-then-not-tidy
unfolding unused
returns-then-not-tidy c = search stages

pub returns : goal.returns
unfolding unused
returns c = search stages
