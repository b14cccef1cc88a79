-- `rack_calls::parchbeetle_fresh` meets its contract.
-- Assumes nothing.
use Rattle.rack_calls.specs.Exports.{fresh_answer}
use Rattle.images.specs.Outcome.Properties.{unfound_outcome}
use Rattle.rack_calls.specs.Exports.Properties.{fresh_refused, fresh_stored}
use Rattle.rack_calls.proofs.parchbeetle_fresh.Goals as goal

pub returns-in-Err : goal.returns-in-Err
unfolding fresh_answer
returns-in-Err c = search (unfound_outcome, c.in-Err.ensures)

pub returns-in_default : goal.returns-in_default
returns-in_default c = search (fresh_refused, c.in-Ok.ensures)

pub returns : goal.returns
returns c = search (fresh_stored, c.in-Ok.ensures)
