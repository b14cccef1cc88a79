-- `image_reader::two_bytes` meets its contract.
-- Assumes nothing.
use Rattle.std.proofs.Common.{refl, ◌∙◌, arith}
use Rattle.codec.specs.Bytes.Properties.{number_two}
use Rattle.image_reader.proofs.two_bytes.Goals as goal

pub returns : goal.returns
returns c = (c.from_be_bytes.ensures ∙ number_two c.args.s.now c.args.at _ _ refl refl, omega arith)
