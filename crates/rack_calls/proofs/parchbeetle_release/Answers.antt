-- `rack_calls::parchbeetle_release` meets its contract.
-- Assumes nothing.
use Rattle.rack_calls.specs.Exports.Properties.{release_unfound, release_refused, release_stored}
use Rattle.codec.specs.Bytes.{AreBytes}
use Rattle.rack_calls.proofs.parchbeetle_release.Goals as goal

pub returns-in-Err : goal.returns-in-Err
returns-in-Err c = search (release_unfound, c.in-Err.ensures)

pub returns-in_default : goal.returns-in_default
returns-in_default c = search (release_refused, c.in-Ok.ensures)

pub returns : goal.returns
returns c =
    let start = c in
    let bytes : AreBytes start.args.state.now = λ i. (start.slice_known-1.given i).fits in
    search (release_stored, bytes, c.in-Ok.ensures)
