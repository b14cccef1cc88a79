-- `new_plan_calls::parchbeetle_rescue` meets its contract.
-- Assumes nothing.
use Prim.Native.Nat.{◌≤◌}
use Rattle.std.proofs.Common.{arith}
use Rattle.new_plan_calls.specs.Exports.Properties.{rescue_count, rescue_refused, rescue_stored, rescue_tried, rescue_short}
use borrow.Author.Rules.{Fits-under}
use Rattle.new_plan_calls.proofs.parchbeetle_rescue.Goals as goal

pub returns-in_default : goal.returns-in_default
returns-in_default c = let l : 342 ≤ 342 = omega arith in search (rescue_tried, l)

pub returns-then-plan-lt-PLAN : goal.returns-then-plan-lt-PLAN
returns-then-plan-lt-PLAN c = let l : 342 ≤ 342 = omega arith in search (rescue_short, l)

pub returns-in_default-answer : goal.returns-in_default-answer
returns-in_default-answer c = search rescue_refused

pub overflow_cast-count : goal.overflow_cast-count
overflow_cast-count c = Fits-under _ _ 65536 (search rescue_count) tt

pub returns : goal.returns
returns c = search rescue_stored
