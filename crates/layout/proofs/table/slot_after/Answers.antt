-- `layout::table::slot_after` meets its contract.
-- Assumes nothing.
use Rattle.laws.specs.Tests.{tests}
use Rattle.layout.specs.Walk.{slot_after}
use Rattle.layout.proofs.table.slot_after.Goals as goal

pub returns-then-before-eq0 : goal.returns-then-before-eq0
unfolding slot_after
returns-then-before-eq0 c = search tests

pub returns-then-cell-end : goal.returns-then-cell-end
unfolding slot_after
returns-then-cell-end c = search tests

pub returns-then-before-projects : goal.returns-then-before-projects
unfolding slot_after
returns-then-before-projects c = search tests

pub returns : goal.returns
unfolding slot_after
returns c = search tests
