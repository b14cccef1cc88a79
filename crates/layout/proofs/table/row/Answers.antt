-- `layout::table::row` meets its contract.
-- Assumes nothing.
use Rattle.std.specs.Prelude.{ℕ, replicate}
use Rattle.std.proofs.Common.{arith}
use Rattle.laws.specs.Written.Properties.{written_none, written_again}
use Rattle.layout.proofs.Laws.Front.{front_most, front_stop}
use Rattle.layout.proofs.Laws.Walk.{row_slot, row_start, row_next, row_back, row_most, row_index, slot_index}
use Rattle.layout.specs.Walk.{row_of}
use Rattle.layout.proofs.table.row.Goals as goal

pub overflow_mul-cell : goal.overflow_mul-cell
overflow_mul-cell c = omega (arith, row_most c.args.ordered.plan c.args.card c.args.ordered.in_order c.requires.1)

pub loop-s-init : goal.loop-s-init
loop-s-init c = (
  search row_start,
  omega (arith, row_most c.args.ordered.plan c.args.card c.args.ordered.in_order c.requires.1),
  search slot_index,
  search,
  written_none _ _,
)

pub overflow_add-cell : goal.overflow_add-cell
overflow_add-cell c = omega (arith, front_most {A = ℕ} c.args.ordered.plan.frame (replicate 64 0))

pub loop-s-preserved : goal.loop-s-preserved
loop-s-preserved c = (
  search row_next,
  omega (arith, front_most {A = ℕ} c.args.ordered.plan.frame (replicate 64 0)),
  search row_index,
  search
      (row_back, row_slot),
  search (written_again, row_slot),
)

pub returns : goal.returns
unfolding row_of
returns c = front_stop _ _ _ _ _ c.args.ordered.in_order.counts.frame_most c.loop-s.invariant.4 c.loop-s.auto.s-index-end
    c.loop-s-test.false
