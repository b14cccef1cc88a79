-- `one_kind::unit_length` meets its contract.
-- Assumes nothing.
use Rattle.one_kind.specs.Wanted.{field_at}
use Rattle.one_kind.proofs.unit_length.Goals as goal

pub returns : goal.returns
unfolding field_at
returns c = search
