-- `smallest_budget::cards_with` meets its contract.
-- Assumes nothing.
use Rattle.laws.specs.Written.Properties.{written_none}
use Rattle.layout.proofs.Laws.Front.{front_below, front_stop}
use Rattle.smallest_budget.specs.Steps.{cards_with}
use Rattle.smallest_budget.specs.Steps.Properties.{cards_again}
use Rattle.smallest_budget.proofs.cards_with.Goals as goal

pub loop-s-init : goal.loop-s-init
loop-s-init c = written_none _ _

pub loop-s-preserved : goal.loop-s-preserved
loop-s-preserved c = cards_again _ _ _ (front_below _ _ _ c.loop-s-test.true) _ _ _ c.from.ensures c.loop-s.invariant

pub returns : goal.returns
unfolding cards_with
returns c = front_stop _ _ _ _ _ c.requires.1 c.loop-s.invariant c.loop-s.auto.s-end c.loop-s-test.false
