-- `rack_calls::parchbeetle_advance` meets its contract.
-- Assumes nothing.
use Rattle.rack_calls.specs.Exports.Properties.{advance_unfound, advance_refused, advance_stored}
use Rattle.codec.specs.Bytes.{AreBytes}
use Rattle.rack_calls.proofs.parchbeetle_advance.Goals as goal

pub returns-in-Err : goal.returns-in-Err
returns-in-Err c = search (advance_unfound, c.in-Err.ensures)

pub returns-in_default : goal.returns-in_default
returns-in_default c = search (advance_refused, c.in-Ok.ensures)

pub returns : goal.returns
returns c =
    let start = c in
    let bytes : AreBytes start.args.state.now = λ i. (start.slice_known-1.given i).fits in
    search (advance_stored, bytes, c.in-Ok.ensures)
