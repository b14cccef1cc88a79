-- `rescue::entries::Notes::spare_projects` meets its contract.
-- Assumes nothing.
use Rattle.std.proofs.Common.{◌∙◌, arith}
use Rattle.rescue.specs.Entry.Properties.{noted_start}
use Rattle.rescue.specs.Rescue.Properties.{project_spare_law, project_spare_again}
use Rattle.rescue.proofs.entries.Notes.spare_projects.Goals as goal

pub loop-j-init : goal.loop-j-init
loop-j-init c = (noted_start _ _ _, omega arith)

pub loop-j-preserved : goal.loop-j-preserved
loop-j-preserved c =
    let l = c.loop-j in
    let x = rw c.from.ensures at c.spare.ensures in
    (project_spare_again _ _ _ _ _ _ _ _ _ l.invariant.0 c.note.ensures.0 (x ∙ project_spare_law c.args.bytes.now l.j), omega arith)
