-- `plan_reader::part::KindPlace::from_front` meets its contract.
-- Assumes nothing.
use Rattle.std.specs.Prelude.{◌≡◌}
use Rattle.std.proofs.Common.{arith}
use Rattle.codec.specs.Bytes.{number_to}
use Rattle.codec.specs.Bytes.Properties.{number_whole}
use Rattle.plan_bytes.specs.Parts.{kind_from}
use Rattle.plan_bytes.specs.Reading.{kind_spare}
use Rattle.plan_bytes.specs.Parts.Properties.{kind_fields_law}
use Rattle.plan_reader.proofs.part.KindPlace.from_front.Goals as goal

pub returns : goal.returns
unfolding kind_from kind_spare
returns c =
    let n : c.number-fields.result ≡ number_to 5 c.args.s.now =
    number_whole 5 c.args.s.now _ c.number-fields.ensures (omega arith) c.requires in
    let e = kind_fields_law c.args.s.now c.number-fields.result n in
    (rw (← e), rw (← e))
