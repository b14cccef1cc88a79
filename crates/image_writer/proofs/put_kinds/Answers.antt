-- `image_writer::put_kinds` meets its contract.
-- Assumes nothing.
use Rattle.plan.specs.Record.{no_kind}
use Rattle.image_writer.proofs.put_kinds.Goals as goal

pub returns : goal.returns
returns c = c.put_row.ensures no_kind
