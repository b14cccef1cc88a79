-- `supply::workload_part` meets its contract.
-- Assumes nothing.
use Rattle.supply.specs.Workload.Properties.{part_without, part_of}
use Rattle.supply.proofs.workload_part.Goals as goal

pub returns-then-separation-eq0 : goal.returns-then-separation-eq0
returns-then-separation-eq0 c = search part_without

pub returns : goal.returns
returns c = search part_of
