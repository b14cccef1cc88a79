-- `image_reader::kinds_from` meets its contract.
-- Assumes nothing.
use Rattle.std.specs.Prelude.{drop}
use Rattle.std.proofs.Common.{rules}
use Rattle.plan.specs.Record.{no_kind}
use Rattle.images.specs.Image.{kind_place, kind_from}
use Rattle.image_reader.proofs.Arrays.{from_fn_written}
use Rattle.image_reader.proofs.kinds_from.Goals as goal

pub returns : goal.returns
returns c =
    from_fn_written _ (λ i. kind_from (drop (kind_place i) c.args.s.now)) _ (λ k y q e. search rules) _ no_kind 16 c.from_fn.ensures.items
