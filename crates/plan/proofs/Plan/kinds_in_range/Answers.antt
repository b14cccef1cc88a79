-- `plan::Plan::kinds_in_range` meets its contract.
-- Assumes nothing.
use Rattle.std.proofs.Common.{get_or-take, arith}
use Rattle.answer.specs.Answer.Properties.{each_none, each_more, each_stop, each_opened, opened_good}
use Rattle.plan.specs.Order.{kinds_in_range}
use Rattle.plan.proofs.Plan.kinds_in_range.Goals as goal

pub loop-i-init : goal.loop-i-init
loop-i-init c = each_none _

pub returns-in_default : goal.returns-in_default
unfolding kinds_in_range
returns-in_default c =
    let l = c.loop-i in
    let h = rw (get_or-take c.from.result c.args.self.now.kind l.i _ (omega arith)) at c.in_range-answer.ensures in
    each_opened _ _ _ _ _ l.invariant c.in_default.is h (omega arith)

pub loop-i-preserved : goal.loop-i-preserved
loop-i-preserved c =
    let l = c.loop-i in
    let h = rw (get_or-take c.from.result c.args.self.now.kind l.i _ (omega arith)) at c.in_range-answer.ensures in
    each_more _ _ l.invariant (opened_good _ _ c.in-Good.is h)

pub returns : goal.returns
unfolding kinds_in_range
returns c = each_stop _ _ _ _ c.loop-i.invariant (omega arith) (omega arith)
