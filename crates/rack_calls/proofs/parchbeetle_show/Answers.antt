-- `rack_calls::parchbeetle_show` meets its contract.
-- Assumes nothing.
use Rattle.rack_calls.specs.Exports.Properties.{show_unfound, show_told}
use Rattle.rack_calls.proofs.parchbeetle_show.Goals as goal

pub returns-in-Err : goal.returns-in-Err
returns-in-Err c = search (show_unfound, c.in-Err.ensures)

pub returns : goal.returns
returns c = search (show_told, c.in-Ok.ensures)
