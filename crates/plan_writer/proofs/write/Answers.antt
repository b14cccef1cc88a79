-- `plan_writer::write` meets its contract.
-- Assumes nothing.
use Rattle.std.proofs.Common.{arith}
use Rattle.plan.specs.Order.Properties.{check_projects, check_kinds}
use Rattle.plan_bytes.specs.Writing.Properties.{write_unchecked, write_short, write_good}
use Rattle.plan_writer.proofs.write.Goals as goal

pub returns-in_default : goal.returns-in_default
returns-in_default c = search write_unchecked

pub returns-then-out-count : goal.returns-then-out-count
returns-then-out-count c = search write_short

pub put-requires : goal.put-requires
put-requires c = (search check_projects, search check_kinds, omega arith)

pub returns : goal.returns
returns c = search write_good
