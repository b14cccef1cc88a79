-- `rescue::mended::plan_for` meets its contract.
-- Assumes nothing.
use Rattle.std.proofs.Common.{sym, ◌∙◌, arith, get_or-take}
use Rattle.laws.specs.Count.Properties.{count_none, count_yes, count_no, count_stop}
use Rattle.plan.specs.Record.{no_kind}
use Rattle.rescue.specs.Mended.{plan_for}
use Rattle.rescue.specs.Mended.Properties.{kept_none, kept_skip, kept_put, kept_stop, plan_made}
use Rattle.rescue.proofs.mended.plan_for.Goals as goal
use Rattle.rescue.proofs.mended.plan_for.Goals.{then-kept, else-kept}

pub loop-damaged-init : goal.loop-damaged-init
loop-damaged-init c = (rw c.empty.ensures (kept_none _), count_none _, omega arith)

pub loop-damaged-preserved : goal.loop-damaged-preserved
loop-damaged-preserved c =
    let l = c.loop-damaged in
    let v = l.invariant in
    let e = get_or-take c.from.result c.args.plan.kind l.damaged-index no_kind (omega arith) in
    let k = rw e at c.kept.ensures in
    elim c.if-kept.branch [
      | then-kept w ↦
          let t = sym k ∙ w.if-kept.true in
          let m = rw e at w.kind_for.ensures in (
            rw w.kind-is (kept_put _ _ _ _ _ v.0 (w.from-then-kept.ensures ∙ v.1) t m),
            rw w.kinds-is (count_yes _ _ _ v.1 t),
            omega arith,
          )
      | else-kept w ↦
          let t = sym k ∙ w.if-kept.false in
          (rw w.kind-is (kept_skip _ _ _ v.0 t), rw w.kinds-is (count_no _ _ _ v.1 t), omega arith)
    ]

pub returns : goal.returns
unfolding plan_for
returns c =
    let v = c.loop-damaged.invariant in
    plan_made _ _ _ _ c.projects_for.ensures (kept_stop _ _ _ _ v.0 (omega arith) (omega arith))
    (count_stop _ _ _ _ v.1 (omega arith) (omega arith))
