-- `plan_writer::part::ProjectPlace::fields` meets its contract.
-- Assumes nothing.
use Rattle.std.proofs.Common.{arith}
use Rattle.codec.specs.Pack.{pack}
use Rattle.plan_writer.proofs.part.ProjectPlace.fields.Goals as goal

pub returns : goal.returns
unfolding pack
returns c = omega arith
