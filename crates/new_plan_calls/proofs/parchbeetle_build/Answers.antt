-- `new_plan_calls::parchbeetle_build` meets its contract.
-- Assumes nothing.
use Rattle.new_plan_calls.specs.Exports.Properties.{build_refused, build_stored}
use Rattle.new_plan_calls.proofs.parchbeetle_build.Goals as goal

pub returns-in_default : goal.returns-in_default
returns-in_default c = search build_refused

pub returns : goal.returns
returns c = search build_stored
