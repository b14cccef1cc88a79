-- `plan_calls::parchbeetle_write` meets its contract.
-- Assumes nothing.
use Rattle.plan_calls.specs.Exports.{writes_answer}
use Rattle.images.specs.Outcome.Properties.{unfound_outcome}
use Rattle.plan_calls.specs.Exports.Properties.{write_count, write_told}
use Rattle.std.proofs.Common.{rules}
use Rattle.plan_calls.proofs.parchbeetle_write.Goals as goal

pub returns-in-Err : goal.returns-in-Err
unfolding writes_answer
returns-in-Err c = search (unfound_outcome, c.in-Err.ensures)

pub overflow_cast-written : goal.overflow_cast-written
overflow_cast-written c = search (write_count, rules)

pub returns : goal.returns
returns c = search (write_told, c.in-Ok.ensures)
