-- `verdict::run_cards` meets its contract.
-- Assumes nothing.
use Rattle.laws.specs.Written.Properties.{written_none}
use Rattle.layout.proofs.Laws.Front.{front_below, front_stop}
use Rattle.verdict.specs.Steps.{run_cards}
use Rattle.verdict.specs.Steps.Properties.{run_ordered, run_small, run_again}
use Rattle.verdict.proofs.run_cards.Goals as goal

pub loop-s-init : goal.loop-s-init
loop-s-init c = written_none _ _

pub overflow_sub-held : goal.overflow_sub-held
overflow_sub-held c = search (run_ordered, front_below)

pub overflow_cast-held : goal.overflow_cast-held
overflow_cast-held c = record { fits = search (run_small, front_below) }

pub loop-s-preserved : goal.loop-s-preserved
loop-s-preserved c = search (run_again, front_below)

pub returns : goal.returns
unfolding run_cards
returns c = front_stop _ _ _ _ _ c.requires.1 c.loop-s.invariant c.loop-s.auto.s-end c.loop-s-test.false
