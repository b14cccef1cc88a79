-- `image_writer::put_projects` meets its contract.
-- Assumes nothing.
use Rattle.plan.specs.Record.{no_project}
use Rattle.image_writer.proofs.put_projects.Goals as goal

pub returns : goal.returns
returns c = c.put_row.ensures no_project
