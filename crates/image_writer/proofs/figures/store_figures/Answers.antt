-- `image_writer::figures::store_figures` meets its contract.
-- Assumes nothing.
use Rattle.std.proofs.Common.{◌≤◌, length, ◌∙◌, arith}
use Rattle.images.specs.FiguresImage.{figures_size, figures_image}
use Rattle.images.specs.FiguresImage.Properties.{store_figures}
use Rattle.image_writer.proofs.Chunk.{filled}
use Rattle.image_writer.proofs.figures.store_figures.Goals as goal

pub returns : goal.returns
returns c =
    let out = c.args.out.now in
    let f = c.args.figures in
    let room : figures_size ≤ length out = omega arith in
    store_figures f out _ _ _ room c.put.ensures c.put_supplies.ensures c.put_slices.ensures
    ∙ filled (figures_image f) out figures_size (omega arith)
