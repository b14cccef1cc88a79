-- `rescue::mended::kind_for` meets its contract.
-- Assumes nothing.
use Rattle.rescue.specs.Mended.{lowered, kind_for}
use Rattle.rescue.proofs.mended.kind_for.Goals as goal

pub returns : goal.returns
unfolding kind_for lowered
returns c = rw c.min.ensures
