-- `rescue::entries::Notes::spare_kinds` meets its contract.
-- Assumes nothing.
use Rattle.std.proofs.Common.{◌∙◌, arith, get_or-take}
use Rattle.plan_bytes.specs.Parts.{size}
use Rattle.rescue.specs.Entry.Properties.{noted_start}
use Rattle.rescue.specs.Rescue.Properties.{kind_spare_law, kind_spare_again}
use Rattle.rescue.proofs.entries.Notes.spare_kinds.Goals as goal

pub loop-i-init : goal.loop-i-init
loop-i-init c = (noted_start _ _ _, omega arith)

pub spare-spare-requires : goal.spare-spare-requires
unfolding size
spare-spare-requires c = (omega arith, omega arith, omega arith, omega arith)

pub loop-i-preserved : goal.loop-i-preserved
loop-i-preserved c =
    let l = c.loop-i in
    let x = rw c.from.ensures at c.spare-spare.ensures in
    let b = rw (get_or-take c.from-2.result c.args.plan.kind l.i _ (omega arith)) at c.kept-kept.ensures in (
      kind_spare_again _ _ _ _ _ _ _ _ _ _ _ l.invariant.0 c.note_spare.ensures.0 b
          (x ∙ kind_spare_law c.args.bytes.now c.args.plan.projects l.i),
      omega arith,
    )
