-- `plan_calls::parchbeetle_slot_table` meets its contract.
-- Assumes nothing.
use Rattle.plan_calls.specs.Exports.{slots_answer}
use Rattle.images.specs.Outcome.Properties.{unfound_outcome}
use Rattle.plan_calls.specs.Exports.Properties.{slots_count, slots_told}
use Rattle.std.proofs.Common.{rules}
use Rattle.plan_calls.proofs.parchbeetle_slot_table.Goals as goal

pub returns-in-Err : goal.returns-in-Err
unfolding slots_answer
returns-in-Err c = search (unfound_outcome, c.in-Err.ensures)

pub overflow_cast-slots : goal.overflow_cast-slots
overflow_cast-slots c = search (slots_count, rules)

pub returns : goal.returns
returns c = search (slots_told, c.in-Ok.ensures)
