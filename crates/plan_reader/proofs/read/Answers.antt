-- `plan_reader::read` meets its contract.
-- Assumes nothing.
use Rattle.answer.specs.Answer.Properties.{opened_is}
use Rattle.plan_bytes.specs.Reading.{read_of}
use Rattle.plan_bytes.specs.Reading.Properties.{refused_reading, read_short, read_sizes, read_body}
use Rattle.plan_reader.proofs.read.Goals as goal

pub returns-then-bytes-lt-HEADER : goal.returns-then-bytes-lt-HEADER
unfolding read_of
returns-then-bytes-lt-HEADER c = search (refused_reading, read_short)

pub returns-in_default : goal.returns-in_default
unfolding read_of
returns-in_default c = search (refused_reading, read_sizes)

pub body-requires : goal.body-requires
body-requires c = (search, search, search opened_is)

pub returns : goal.returns
returns c = search read_body
