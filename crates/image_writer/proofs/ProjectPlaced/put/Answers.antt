-- `image_writer::ProjectPlaced::put` meets its contract.
-- Assumes nothing.
use Rattle.images.specs.Image.Properties.{put_project}
use Rattle.image_writer.proofs.ProjectPlaced.put.Goals as goal

pub returns : goal.returns
returns c = search put_project
