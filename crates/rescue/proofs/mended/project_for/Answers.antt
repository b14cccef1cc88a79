-- `rescue::mended::project_for` meets its contract.
-- Assumes nothing.
use Rattle.std.proofs.Common.{rules}
use Rattle.rescue.specs.Mended.{raised, lowered, project_for}
use Rattle.rescue.proofs.mended.project_for.Goals as goal

pub returns : goal.returns
unfolding project_for raised lowered
returns c = search rules
