-- `rescue::mended::kept` meets its contract.
-- Assumes nothing.
use Rattle.std.proofs.Common.{arith}
use Rattle.std.proofs.lemmas.Grind.{common_steps}
use Rattle.laws.specs.Tests.{tests}
use Rattle.rescue.specs.Mended.{kind_for, kept}
use Rattle.rescue.proofs.mended.kept.Goals as goal

pub returns-then-mended-ne0 : goal.returns-then-mended-ne0
unfolding kept kind_for
returns-then-mended-ne0 c = grind (arith, common_steps, tests)

pub returns-else-mended-ne0 : goal.returns-else-mended-ne0
unfolding kept kind_for
returns-else-mended-ne0 c = grind (arith, common_steps, tests)
