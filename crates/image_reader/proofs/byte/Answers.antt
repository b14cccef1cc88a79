-- `image_reader::byte` meets its contract.
-- Assumes nothing.
use Rattle.codec.specs.Bytes.Properties.{number_one}
use Rattle.std.proofs.Common.{arith}
use Rattle.image_reader.proofs.byte.Goals as goal

pub returns : goal.returns
returns c = (search number_one, omega (arith, c.shared_slice_known-1.given c.args.at))
