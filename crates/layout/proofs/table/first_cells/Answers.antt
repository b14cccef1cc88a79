-- `layout::table::first_cells` meets its contract.
-- Assumes nothing.
use Rattle.std.proofs.Common.{sym, arith, rules}
use Rattle.laws.specs.Written.Properties.{written_none, written_again}
use Rattle.layout.proofs.Laws.Walk.{first_cells_end, first_cells_more, first_cells_most}
use Rattle.layout.proofs.Laws.Layout.{first_start}
use Rattle.layout.proofs.table.first_cells.Goals as goal

pub loop-j-init : goal.loop-j-init
loop-j-init c = (written_none _ _, sym (first_start _))

pub overflow_add-cell : goal.overflow_add-cell
overflow_add-cell c = omega (
  arith,
  first_cells_most c.args.ordered.plan c.loop-j.j c.loop-j.cell c.loop-j.invariant.1 c.loop-j-test.true
      c.args.ordered.in_order,
)

pub loop-j-preserved : goal.loop-j-preserved
loop-j-preserved c = (search written_again, search first_cells_more)

pub returns : goal.returns
returns c = first_cells_end _ _ _ c.loop-j.invariant.1 _ c.args.ordered.in_order
    (search rules) c.loop-j.invariant.0 c.loop-j.auto.j-end c.loop-j-test.false
