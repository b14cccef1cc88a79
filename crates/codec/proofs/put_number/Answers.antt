-- `codec::put_number` meets its contract.
-- Assumes nothing.
use Rattle.codec.specs.Bytes.Properties.{stored_none, stored_again, stored_rest}
use Rattle.codec.proofs.put_number.Goals as goal

pub loop-i-init : goal.loop-i-init
loop-i-init c = search stored_none

pub loop-i-preserved : goal.loop-i-preserved
loop-i-preserved c = (search stored_rest, search stored_again)
