-- `layout::cards_below` meets its contract.
-- Assumes nothing.
use Rattle.std.proofs.Common.{arith, rules}
use Rattle.layout.specs.Cards.Properties.{below_none, below_computed, computed_most}
use Rattle.layout.proofs.cards_below.Goals as goal

pub returns-then-frame-slice : goal.returns-then-frame-slice
returns-then-frame-slice c = search below_none

pub overflow_cast-result-4 : goal.overflow_cast-result-4
overflow_cast-result-4 c = let a = c.args in omega (arith, computed_most a.frame a.cell a.slice (search rules))

pub returns : goal.returns
returns c = search below_computed
