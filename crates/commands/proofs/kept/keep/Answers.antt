-- `commands::kept::keep` meets its contract.
-- Assumes nothing.
use Rattle.commands.specs.Kept.Properties.{keeps_none, keeps_outside, keeps_part}
use Rattle.commands.proofs.kept.keep.Goals as goal

pub returns-then-to-from : goal.returns-then-to-from
returns-then-to-from c = search keeps_none

pub returns-then-bytes-to : goal.returns-then-bytes-to
returns-then-bytes-to c = search keeps_outside

pub returns : goal.returns
returns c = search keeps_part
