-- `rescue::entries::changes` meets its contract.
-- Assumes nothing.
use Rattle.std.proofs.Common.{◌∙◌, arith}
use Rattle.plan_bytes.specs.Parts.{size}
use Rattle.rescue.specs.Rescue.Properties.{header_spare_law, changes_noted}
use Rattle.rescue.proofs.entries.changes.Goals as goal

pub spare-requires : goal.spare-requires
unfolding size
spare-requires c = (omega arith, omega arith, omega arith, omega arith)

pub spare_projects-requires : goal.spare_projects-requires
unfolding size
spare_projects-requires c = (c.requires.0, omega arith, omega arith)

pub returns : goal.returns
returns c = (
  changes_noted _ _ _ _ _ _ _ _ _ _ _ _ _ _ (c.spare.ensures ∙ header_spare_law c.args.bytes.now) c.note.ensures.0
      c.spare_projects.ensures.0
      c.spare_kinds.ensures.0 c.projects.ensures.0 c.kinds.ensures.0,
  omega arith,
)
