-- `rescue::entries::Notes::projects` meets its contract.
-- Assumes nothing.
use Rattle.std.proofs.Common.{arith, get_or-take}
use Rattle.plan.specs.Record.{no_project}
use Rattle.rescue.specs.Entry.Properties.{noted_start}
use Rattle.rescue.specs.Rescue.Properties.{project_again}
use Rattle.rescue.proofs.entries.Notes.projects.Goals as goal

pub loop-j-init : goal.loop-j-init
loop-j-init c = (noted_start _ _ _, omega arith)

pub loop-j-preserved : goal.loop-j-preserved
loop-j-preserved c =
    let l = c.loop-j in
    let e = get_or-take c.from.result c.args.plan.project l.j no_project (omega arith) in
    (project_again _ _ _ _ _ _ _ _ _ l.invariant.0 (rw e at c.note_project.ensures.0) (rw e at c.project_for-mended.ensures), omega arith)
