-- `smallest_budget::Open::sum_fits` meets its contract.
-- Assumes nothing.
use Rattle.std.proofs.Common.{rules}
use Rattle.smallest_budget.specs.Steps.Properties.{project_place, filled_is}
use Rattle.smallest_budget.proofs.Open.sum_fits.Goals as goal

pub offset_bounds-filled-self : goal.offset_bounds-filled-self
offset_bounds-filled-self c = search (rules, project_place)

pub bounds-filled-self : goal.bounds-filled-self
bounds-filled-self c = search (rules, project_place)

pub returns : goal.returns
returns c = search filled_is
