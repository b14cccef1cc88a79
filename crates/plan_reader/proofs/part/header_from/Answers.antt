-- `plan_reader::part::header_from` meets its contract.
-- Assumes nothing.
use Rattle.std.specs.Prelude.{◌≡◌}
use Rattle.std.proofs.Common.{arith}
use Rattle.codec.specs.Bytes.{number_to}
use Rattle.codec.specs.Bytes.Properties.{number_whole}
use Rattle.plan_bytes.specs.Parts.{headed}
use Rattle.plan_bytes.specs.Reading.{header_spare}
use Rattle.plan_bytes.specs.Parts.Properties.{header_fields_law}
use Rattle.plan_reader.proofs.part.header_from.Goals as goal

pub returns : goal.returns
unfolding headed header_spare
returns c =
    let n : c.number-fields.result ≡ number_to 3 c.args.s.now =
    number_whole 3 c.args.s.now _ c.number-fields.ensures (omega arith) c.requires in
    let e = header_fields_law c.args.s.now c.number-fields.result n in
    (rw (c.empty.ensures, ← e), rw (← e))
