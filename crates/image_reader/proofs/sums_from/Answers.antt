-- `image_reader::sums_from` meets its contract.
-- Assumes nothing.
use Rattle.std.specs.Prelude.{drop}
use Rattle.std.proofs.Common.{rules}
use Rattle.images.specs.Image.{sum_place, sum_from}
use Rattle.image_reader.proofs.Arrays.{from_fn_written}
use Rattle.image_reader.proofs.sums_from.Goals as goal

pub returns : goal.returns
returns c =
    from_fn_written _ (λ j. sum_from (drop (sum_place j) c.args.s.now)) _ (λ k y q e. search rules) _ 0 8 c.from_fn.ensures.items
