-- `image_writer::put_row` meets its contract.
-- Assumes nothing.
use Rattle.std.proofs.Common.{refl, arith}
use Rattle.std.proofs.lemmas.List.{get_or_default}
use Rattle.codec.specs.Places.Properties.{put_none, put_again, put_stop}
use Rattle.image_writer.proofs.put_row.Goals as goal

pub loop-j-init : goal.loop-j-init
loop-j-init g c = (refl, λ d. put_none _ _ _ _)

pub loop-j-preserved : goal.loop-j-preserved
loop-j-preserved g c = (
  omega arith,
  λ d.
      let same = get_or_default c.args.row.now c.loop-j.j c.index-row-j.result d (omega arith) in
      put_again _ _ _ _ _ _ _ (c.loop-j.invariant.1 d) (rw (c.BYTES.ensures, same) at c.put.ensures),
)

pub returns : goal.returns
returns g c = λ d. put_stop _ _ _ _ _ _ _ (c.loop-j.invariant.1 d) (omega arith) (omega arith)
