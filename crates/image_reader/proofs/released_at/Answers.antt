-- `image_reader::released_at` meets its contract.
-- Assumes nothing.
use Rattle.images.specs.Image.Properties.{released_at_law}
use Rattle.codec.specs.Bytes.{AreBytes}
use Rattle.image_reader.proofs.released_at.Goals as goal

pub returns : goal.returns
returns c =
    let bytes : AreBytes c.args.s.now = λ i. (c.shared_slice_known-1.given i).fits in
    search (released_at_law, bytes)
