-- `image_reader::state_from` meets its contract.
-- Assumes nothing.
use Rattle.images.specs.Image.Properties.{state_from_law}
use Rattle.image_reader.proofs.state_from.Goals as goal

pub returns : goal.returns
returns c = search state_from_law
