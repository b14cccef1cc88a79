-- `smallest_budget::served_with` meets its contract.
-- Assumes nothing.
use Rattle.answer.specs.Answer.Properties.{each_none, each_more, each_stop, each_opened}
use Rattle.smallest_budget.specs.Steps.{served_by}
use Rattle.smallest_budget.specs.Steps.Properties.{by_skipped, excess_room, by_lacks, by_fits}
use Rattle.smallest_budget.proofs.served_with.Goals as goal

pub loop-i-init : goal.loop-i-init
loop-i-init c = each_none _

pub loop-i-preserved-then-kind-project : goal.loop-i-preserved-then-kind-project
loop-i-preserved-then-kind-project c = each_more _ _ (search) (search by_skipped)

pub overflow_cast-fit : goal.overflow_cast-fit
overflow_cast-fit c = record { fits = search excess_room }

pub returns-then-fit-eq0 : goal.returns-then-fit-eq0
unfolding served_by
returns-then-fit-eq0 c = search (each_opened, by_lacks)

pub loop-i-preserved : goal.loop-i-preserved
loop-i-preserved c = each_more _ _ (search) (search by_fits)

pub returns : goal.returns
unfolding served_by
returns c = search each_stop
