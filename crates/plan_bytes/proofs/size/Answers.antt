-- `plan_bytes::size` meets its contract.
-- Assumes nothing.
use Rattle.std.specs.Prelude.{refl}
use Rattle.plan_bytes.specs.Parts.{size}
use Rattle.plan_bytes.proofs.size.Goals as goal

pub returns : goal.returns
unfolding size
returns c = refl
