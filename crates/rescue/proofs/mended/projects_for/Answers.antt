-- `rescue::mended::projects_for` meets its contract.
-- Assumes nothing.
use Rattle.std.proofs.Common.{arith, get_or-take}
use Rattle.laws.specs.Written.Properties.{written_none, written_again}
use Rattle.rescue.proofs.mended.projects_for.Goals as goal

pub loop-j-init : goal.loop-j-init
loop-j-init c = rw c.empty.ensures (written_none _ _)

pub loop-j-preserved : goal.loop-j-preserved
loop-j-preserved c =
    let l = c.loop-j in
    let h = rw (get_or-take c.from.result c.args.plan.project l.j _ (omega arith)) at c.project_for.ensures in
    written_again _ _ _ _ _ l.invariant h
