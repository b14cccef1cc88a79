-- `image_reader::projects_from` meets its contract.
-- Assumes nothing.
use Rattle.std.specs.Prelude.{drop}
use Rattle.std.proofs.Common.{rules}
use Rattle.plan.specs.Record.{no_project}
use Rattle.images.specs.Image.{project_place, project_from}
use Rattle.image_reader.proofs.Arrays.{from_fn_written}
use Rattle.image_reader.proofs.projects_from.Goals as goal

pub returns : goal.returns
returns c =
    from_fn_written _ (λ j. project_from (drop (project_place j) c.args.s.now)) _
    (λ k y q e. search rules) _ no_project 8 c.from_fn.ensures.items
