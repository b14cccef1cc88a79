-- `verdict::fit_on` meets its contract.
-- Assumes nothing.
use Rattle.verdict.specs.Steps.Properties.{project_place, workload_room, fit_is}
use Rattle.verdict.proofs.fit_on.Goals as goal

pub bounds-plan-kind : goal.bounds-plan-kind
bounds-plan-kind c = search project_place

pub overflow_cast-others : goal.overflow_cast-others
overflow_cast-others c = search workload_room

pub returns : goal.returns
returns c = search fit_is
