-- `image_writer::put_fields` meets its contract.
-- Assumes nothing.
use Rattle.codec.specs.Places.Properties.{number_lent}
use Rattle.image_writer.proofs.put_fields.Goals as goal

pub returns : goal.returns
returns c = search number_lent
