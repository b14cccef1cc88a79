-- `one_kind::finished` meets its contract.
-- Assumes nothing.
use Rattle.std.proofs.Common.{arith}
use Rattle.one_kind.specs.Steps.Properties.{framed_whole, framed, nineteen, seven, finished_good}
use Rattle.one_kind.proofs.finished.Goals as goal

pub common_divisor-frame-requires : goal.common_divisor-frame-requires
common_divisor-frame-requires c = framed_whole _ _ _ c.requires

pub returns-then-frame : goal.returns-then-frame
returns-then-frame c = search (nineteen, framed)

pub plan_for-plan-requires : goal.plan_for-plan-requires
plan_for-plan-requires c = (c.requires, (search framed, omega arith))

pub returns-in_default : goal.returns-in_default
returns-in_default c = search (seven, framed)

pub returns : goal.returns
returns c = search (finished_good, framed)
