-- `plan_calls::parchbeetle_check` meets its contract.
-- Assumes nothing.
use Rattle.plan_calls.specs.Exports.Properties.{check_unfound, check_told}
use Rattle.plan_calls.proofs.parchbeetle_check.Goals as goal

pub returns-in-Err : goal.returns-in-Err
returns-in-Err c = search (check_unfound, c.in-Err.ensures)

pub returns-in-Ok : goal.returns-in-Ok
returns-in-Ok c = search (check_told, c.in-Ok.ensures)
