-- `image_reader::units_from` meets its contract.
-- Assumes nothing.
use Rattle.std.specs.Prelude.{drop}
use Rattle.std.proofs.Common.{rules}
use Rattle.unit.specs.Unit.{no_unit}
use Rattle.images.specs.Image.{unit_place, unit_from}
use Rattle.image_reader.proofs.Arrays.{from_fn_written}
use Rattle.image_reader.proofs.units_from.Goals as goal

pub returns : goal.returns
returns c =
    from_fn_written _ (λ i. unit_from (drop (unit_place i) c.args.s.now)) _ (λ k y q e. search rules) _ no_unit 16 c.from_fn.ensures.items
