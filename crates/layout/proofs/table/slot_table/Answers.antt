-- `layout::table::slot_table` meets its contract.
-- Assumes nothing.
use borrow.Author.Rules.{Fits-under}
use Rattle.plan.specs.Order.Properties.{check_opened}
use Rattle.layout.proofs.Laws.Table.{table_ways, opened_cells, opened_room}
use Rattle.layout.proofs.table.slot_table.Goals as goal

pub returns-in_default : goal.returns-in_default
returns-in_default c = search table_ways

pub overflow_mul-needed : goal.overflow_mul-needed
overflow_mul-needed c = Fits-under _ _ 513 (search opened_cells) tt

pub returns-then-out-needed : goal.returns-then-out-needed
returns-then-out-needed c = search table_ways

pub invariant_of-write_slots : goal.invariant_of-write_slots
invariant_of-write_slots c = record { in_order = search check_opened }

pub write_slots-requires : goal.write_slots-requires
write_slots-requires c = search opened_room

pub returns : goal.returns
returns c = search table_ways
