-- `layout::table::first_cells` meets its contract.
-- Assumes nothing.
use Rattle.std.proofs.Math.Path.{◌≡◌}
use Rattle.std.specs.Prelude.{replicate}
use Rattle.laws.specs.Written.{written}
use Rattle.layout.specs.Layout.{first_cell}
use Rattle.layout.proofs.table.first_cells.Given as goal

abbrev pub invariant-loop-j : goal.invariant-loop-j
invariant-loop-j l = (l.first ≡ written l.j (first_cell l.fn.ordered.plan) (replicate 9 0)) × (l.cell ≡ first_cell l.fn.ordered.plan l.j)
