-- `image_writer::put_plan` meets its contract.
-- Assumes nothing.
use Rattle.std.proofs.Common.{ap, List, ℕ, ◌++◌, drop}
use Rattle.images.specs.Image.{plan_size, plan_image}
use Rattle.images.specs.Lent.Properties.{stores_good}
use Rattle.image_writer.proofs.put_plan.Goals as goal

pub returns : goal.returns
returns c =
    let s = c.args.image.now in
    stores_good (plan_image c.args.plan) plan_size s _ c.in-Some.ensures.cases.enough
    (ap (λ (x : List ℕ). x ++ drop plan_size s) c.store_plan.ensures)
