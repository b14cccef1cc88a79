-- `verdict::figures::kind_figures` meets its contract.
-- Assumes nothing.
use Rattle.std.proofs.Common.{rules}
use Rattle.plan.specs.Order.Properties.{check_opened}
use Rattle.verdict.specs.Figures.Properties.{figures_no, figures_absent, figures_on}
use Rattle.verdict.proofs.figures.kind_figures.Goals as goal

pub returns-in_default : goal.returns-in_default
returns-in_default c = search figures_no

pub returns-then-plan-kind : goal.returns-then-plan-kind
returns-then-plan-kind c = search figures_absent

pub figures_on-requires : goal.figures_on-requires
figures_on-requires c = search rules

pub invariant_of-figures_on : goal.invariant_of-figures_on
invariant_of-figures_on c = record { in_order = search check_opened }

pub returns : goal.returns
returns c = search figures_on
