-- `plan::Kind::in_range` meets its contract.
-- Assumes nothing.
use Rattle.answer.specs.Answer.Properties.{stages}
use Rattle.laws.specs.Tests.{tests}
use Rattle.plan.specs.Order.{kind_in_range}
use Rattle.plan.proofs.Kind.in_range.Goals as goal

pub returns-then-projects-self : goal.returns-then-projects-self
unfolding kind_in_range
returns-then-projects-self c = search (stages, tests)

pub returns-then-not-timed : goal.returns-then-not-timed
unfolding kind_in_range
returns-then-not-timed c = search (stages, tests)

pub returns : goal.returns
unfolding kind_in_range
returns c = search (stages, tests)
