-- `plan_reader::standing` meets its contract.
-- Assumes nothing.
use Rattle.std.proofs.Common.{arith}
use Rattle.plan.specs.Order.Properties.{projects_opened, kinds_opened}
use Rattle.plan_bytes.specs.Reading.{standing_in}
use Rattle.plan_bytes.specs.Reading.Properties.{refused_reading, counts_short, counts_sizes, counts_total, standing_good}
use Rattle.plan_reader.proofs.standing.Goals as goal

pub returns-then-held-lt-HEADER : goal.returns-then-held-lt-HEADER
unfolding standing_in
returns-then-held-lt-HEADER c = search (refused_reading, counts_short)

pub returns-in_default : goal.returns-in_default
unfolding standing_in
returns-in_default c = search (refused_reading, counts_sizes)

pub returns-then-held-total : goal.returns-then-held-total
unfolding standing_in
returns-then-held-total c = search (refused_reading, counts_total)

pub places-requires : goal.places-requires
places-requires c = (search, search projects_opened, search kinds_opened, omega arith)

pub returns : goal.returns
returns c = search standing_good
