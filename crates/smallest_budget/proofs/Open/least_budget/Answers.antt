-- `smallest_budget::Open::least_budget` meets its contract.
-- Assumes nothing.
use Rattle.std.proofs.Common.{arith, rules}
use Rattle.laws.specs.First.Properties.{first_none}
use Rattle.smallest_budget.specs.Smallest.Properties.{below_again, enough_again, least_found}
use Rattle.smallest_budget.specs.Steps.Properties.{some_frame, frame_room, asked_most, project_place}
use Rattle.smallest_budget.specs.Steps.Properties.{most_room, most_above, middle_room, served_is}
use Rattle.smallest_budget.proofs.Open.least_budget.Goals as goal

pub offset_bounds-self-self : goal.offset_bounds-self-self
offset_bounds-self-self c = search (rules, project_place)

pub bounds-self-self : goal.bounds-self-self
bounds-self-self c = search project_place

pub loop-below-init : goal.loop-below-init
loop-below-init c = (search most_above, omega arith, search most_room, first_none _, search enough_again)

pub served_with-served-requires : goal.served_with-served-requires
served_with-served-requires c = (search asked_most, search some_frame, search frame_room, search middle_room)

pub loop-below-preserved-in_default : goal.loop-below-preserved-in_default
loop-below-preserved-in_default c = (omega arith, search, search, search (below_again, served_is), search)

pub loop-below-preserved : goal.loop-below-preserved
loop-below-preserved c = (omega arith, omega arith, search, search, search (enough_again, served_is))

pub returns : goal.returns
returns c = search least_found
