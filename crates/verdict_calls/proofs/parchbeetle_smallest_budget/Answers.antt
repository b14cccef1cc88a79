-- `verdict_calls::parchbeetle_smallest_budget` meets its contract.
-- Assumes nothing.
use Rattle.verdict_calls.specs.Exports.Properties.{budget_unfound, budget_told_law}
use Rattle.verdict_calls.proofs.parchbeetle_smallest_budget.Goals as goal

pub returns-in-Err : goal.returns-in-Err
returns-in-Err c = search (budget_unfound, c.in-Err.ensures)

pub returns : goal.returns
returns c = search (budget_told_law, c.in-Ok.ensures)
