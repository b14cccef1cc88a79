-- `smallest_budget::Open::asked` meets its contract.
-- Assumes nothing.
use Rattle.std.proofs.Common.{rules}
use Rattle.laws.specs.Written.Properties.{written_none}
use Rattle.layout.proofs.Laws.Front.{front_below}
use Rattle.smallest_budget.specs.Steps.Properties.{workload_room, asked_again, asked_stop}
use Rattle.smallest_budget.proofs.Open.asked.Goals as goal

pub loop-i-init : goal.loop-i-init
loop-i-init c = written_none _ _

pub overflow_cast-asked : goal.overflow_cast-asked
overflow_cast-asked c = search (rules, workload_room, front_below)

pub loop-i-preserved : goal.loop-i-preserved
loop-i-preserved c = asked_again _ _ _ _ _ c.loop-i-test.true c.loop-i.invariant c.workload.ensures

pub returns : goal.returns
returns c = asked_stop _ _ _ _ c.args.self.in_order (search rules) c.loop-i.invariant c.loop-i.auto.i-end c.loop-i-test.false
