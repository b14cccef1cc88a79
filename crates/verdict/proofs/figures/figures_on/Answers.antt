-- `verdict::figures::figures_on` meets its contract.
-- Assumes nothing.
use Rattle.std.proofs.Common.{arith}
use Rattle.laws.specs.Written.Properties.{written_none}
use Rattle.verdict.specs.Steps.Properties.{project_place, row_at, workload_room}
use Rattle.verdict.specs.Figures.Properties.{ceiling_room, supplies_again, bad_slices_again, figures_made}
use Rattle.verdict.proofs.figures.figures_on.Goals as goal

pub bounds-plan-project : goal.bounds-plan-project
bounds-plan-project c = search project_place

pub bounds-all-project : goal.bounds-all-project
bounds-all-project c = search project_place

pub overflow_cast-others : goal.overflow_cast-others
overflow_cast-others c = search workload_room

pub loop-below-init : goal.loop-below-init
loop-below-init c = (omega arith, search ceiling_room, search row_at, written_none _ _, written_none _ _)

pub loop-below-preserved : goal.loop-below-preserved
loop-below-preserved c =
    let order = c.args.ordered.in_order in
    let there = c.requires in
    let inv = c.loop-below.invariant in
    let given = c.supply-given.ensures in (
      omega arith,
      search,
      search,
      supplies_again _ order _ there _ _ _ inv.2 given _ _ inv.3,
      bad_slices_again _ order _ there _ _ _ inv.2 given _ _ inv.4,
    )

pub returns : goal.returns
returns c = search figures_made
