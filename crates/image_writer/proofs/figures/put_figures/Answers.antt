-- `image_writer::figures::put_figures` meets its contract.
-- Assumes nothing.
use Rattle.std.proofs.Common.{ap, List, ℕ, ◌++◌, drop}
use Rattle.images.specs.FiguresImage.{figures_size, figures_image}
use Rattle.images.specs.Lent.Properties.{stores_good}
use Rattle.image_writer.proofs.figures.put_figures.Goals as goal

pub returns : goal.returns
returns c =
    let s = c.args.out.now in
    stores_good (figures_image c.args.figures) figures_size s _ c.in-Some.ensures.cases.enough
    (ap (λ (x : List ℕ). x ++ drop figures_size s) c.store_figures.ensures)
