-- `image_writer::store_plan` meets its contract.
-- Assumes nothing.
use Rattle.std.proofs.Common.{◌≤◌, length, ◌∙◌, arith}
use Rattle.images.specs.Image.{plan_size, plan_image}
use Rattle.images.specs.Image.Properties.{store_plan}
use Rattle.image_writer.proofs.Chunk.{filled}
use Rattle.image_writer.proofs.store_plan.Goals as goal

pub returns : goal.returns
returns c =
    let out = c.args.out.now in
    let p = c.args.plan in
    let room : plan_size ≤ length out = omega arith in
    store_plan p out _ _ _ room c.put_counts.ensures c.put_projects.ensures c.put_kinds.ensures
    ∙ filled (plan_image p) out plan_size (omega arith)
