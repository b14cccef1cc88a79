-- `plan::Plan::sizes` meets its contract.
-- Assumes nothing.
use Rattle.answer.specs.Answer.Properties.{stages}
use Rattle.plan.specs.Order.{sizes}
use Rattle.plan.proofs.Plan.sizes.Goals as goal

pub returns-then-not-sized : goal.returns-then-not-sized
unfolding sizes
returns-then-not-sized c = search stages

pub returns : goal.returns
unfolding sizes
returns c = search stages
