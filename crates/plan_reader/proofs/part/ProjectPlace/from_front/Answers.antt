-- `plan_reader::part::ProjectPlace::from_front` meets its contract.
-- Assumes nothing.
use Rattle.std.specs.Prelude.{◌≡◌}
use Rattle.std.proofs.Common.{arith}
use Rattle.codec.specs.Bytes.{number_to}
use Rattle.codec.specs.Bytes.Properties.{number_whole}
use Rattle.plan_bytes.specs.Parts.{project_from}
use Rattle.plan_bytes.specs.Reading.{project_spare}
use Rattle.plan_bytes.specs.Parts.Properties.{project_fields_law}
use Rattle.plan_reader.proofs.part.ProjectPlace.from_front.Goals as goal

pub returns : goal.returns
unfolding project_from project_spare
returns c =
    let n : c.number-fields.result ≡ number_to 2 c.args.s.now =
    number_whole 2 c.args.s.now _ c.number-fields.ensures (omega arith) c.requires in
    let e = project_fields_law c.args.s.now c.number-fields.result n in
    (rw (← e), rw (← e))
