-- `image_writer::put_units` meets its contract.
-- Assumes nothing.
use Rattle.unit.specs.Unit.{no_unit}
use Rattle.image_writer.proofs.put_units.Goals as goal

pub returns : goal.returns
returns c = c.put_row.ensures no_unit
