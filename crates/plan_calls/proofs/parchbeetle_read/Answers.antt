-- `plan_calls::parchbeetle_read` meets its contract.
-- Assumes nothing.
use Rattle.plan_calls.specs.Exports.Properties.{read_count, read_refused, read_short, read_good}
use borrow.Author.Rules.{Fits-under}
use Rattle.plan_calls.proofs.parchbeetle_read.Goals as goal

pub returns-in_default : goal.returns-in_default
returns-in_default c = search read_refused

pub returns-in_default-stored : goal.returns-in_default-stored
returns-in_default-stored c = search read_short

pub overflow_cast-taken : goal.overflow_cast-taken
overflow_cast-taken c = Fits-under _ _ 65536 (search read_count) tt

pub returns : goal.returns
returns c = search read_good
