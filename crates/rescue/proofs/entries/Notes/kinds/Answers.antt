-- `rescue::entries::Notes::kinds` meets its contract.
-- Assumes nothing.
use Rattle.std.proofs.Common.{arith, get_or-take}
use Rattle.plan.specs.Record.{no_kind}
use Rattle.rescue.specs.Entry.Properties.{noted_start}
use Rattle.rescue.specs.Rescue.Properties.{kind_again}
use Rattle.rescue.proofs.entries.Notes.kinds.Goals as goal

pub loop-i-init : goal.loop-i-init
loop-i-init c = (noted_start _ _ _, omega arith)

pub loop-i-preserved : goal.loop-i-preserved
loop-i-preserved c =
    let l = c.loop-i in
    let e = get_or-take c.from.result c.args.plan.kind l.i no_kind (omega arith) in (
      kind_again _ _ _ _ _ _ _ _ _ _ l.invariant.0 (rw e at c.note_kind.ensures.0) (rw e at c.kept-kept.ensures)
          (rw e at c.kind_for-mended.ensures),
      omega arith,
    )
