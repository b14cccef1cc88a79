-- `layout::table::write_slots` meets its contract.
-- Assumes nothing.
use Rattle.std.proofs.Common.{arith, ap}
use Rattle.laws.specs.Written.Properties.{written_none, written_again}
use Rattle.layout.proofs.Laws.Walk.{rows_stop, rows_start, rows_back, bytes_start, bytes_next, bytes_most, bytes_fit, bytes_again}
use Rattle.layout.proofs.Laws.Walk.{bytes_done}
use Rattle.layout.proofs.Laws.Front.{front_below}
use borrow.Author.Rules.{Fits-under}
use Rattle.std.specs.Prelude.{take}
use Rattle.layout.proofs.table.write_slots.Goals as goal

pub loop-c-init : goal.loop-c-init
loop-c-init c = (search rows_start, written_none _ _)

pub row-requires : goal.row-requires
row-requires c = (search, front_below _ _ _ c.loop-c-test.true, search)

pub loop-c-preserved : goal.loop-c-preserved
loop-c-preserved c = (search rows_back, search written_again)

pub loop-slots-init : goal.loop-slots-init
loop-slots-init c = (
  search bytes_start,
  ap (take _) (rows_stop _ _ _ c.args.ordered.in_order c.loop-c.invariant.1 c.loop-c.auto.c-end c.loop-c-test.false),
  written_none _ _,
)

pub overflow_add-at : goal.overflow_add-at
overflow_add-at c =
    Fits-under _ _ 513 (bytes_most _ _ _ _ c.args.ordered.in_order c.loop-slots.invariant.1 c.loop-slots-test.true
    c.loop-slots.invariant.0) tt

pub slice_bounds-copy_from_slice-end : goal.slice_bounds-copy_from_slice-end
slice_bounds-copy_from_slice-end c =
    bytes_fit _ _ _ _ _ _ c.loop-slots.invariant.1 c.loop-slots-test.true c.loop-slots.invariant.0 c.requires c.loop-slots.invariant.2

pub loop-slots-preserved : goal.loop-slots-preserved
loop-slots-preserved c = (
  search bytes_next,
  search,
  bytes_again _ _ _ _ _ _ _ _ _ c.args.ordered.in_order c.loop-slots.invariant.1 c.loop-slots-test.true c.loop-slots.invariant.0 c.requires
      c.loop-slots.invariant.2 (omega arith) c.copy_from_slice.ensures.after,
)

pub returns : goal.returns
returns c =
    bytes_done _ _ _ _ _ _ c.args.ordered.in_order c.loop-slots.invariant.1 c.loop-slots.invariant.0 c.loop-slots.auto.slots-index-end
    c.loop-slots-test.false c.loop-slots.invariant.2
