-- `smallest_budget::Open::smallest` meets its contract.
-- Assumes nothing.
use Rattle.std.specs.Prelude.{refl, take}
use Rattle.std.proofs.Common.{ap, ◌∙◌, rules}
use Rattle.answer.specs.Answer.Properties.{opened_is}
use Rattle.smallest_budget.specs.Smallest.Properties.{eight, seven, found}
use Rattle.smallest_budget.specs.Steps.Properties.{some_frame, frame_room, open_most, project_place}
use Rattle.smallest_budget.specs.Steps.Properties.{most_fits, most_eight, found_some, found_room, served_open}
use Rattle.smallest_budget.proofs.Open.smallest.Goals as goal

pub offset_bounds-self-self : goal.offset_bounds-self-self
offset_bounds-self-self c = search (rules, project_place)

pub bounds-self-self : goal.bounds-self-self
bounds-self-self c = search project_place

pub overflow_mul-most : goal.overflow_mul-most
overflow_mul-most c = record { fits = search most_fits }

pub served_with-served-requires : goal.served_with-served-requires
served_with-served-requires c = (search open_most, search some_frame, search frame_room, search most_eight)

pub returns-in_default : goal.returns-in_default
returns-in_default c = c.refused.ensures ∙ search (eight, served_open)

pub least_budget-budget-requires : goal.least_budget-budget-requires
least_budget-budget-requires c =
    (ap (take _) c.asked-all.ensures, refl, search (opened_is, served_open))

pub sum_fits-sum-requires : goal.sum_fits-sum-requires
sum_fits-sum-requires c = (search (found_some, served_open), search found_room)

pub returns-in_default-sum : goal.returns-in_default-sum
returns-in_default-sum c = c.refused-in_default-sum.ensures ∙ search (seven, served_open)

pub returns : goal.returns
returns c = search (found, served_open)
