-- The cycle of calls {divisor} meets its contract.
-- Assumes nothing.
use Rattle.one_kind.specs.Divisor.Properties.{divisor_end, divisor_next}
use Rattle.one_kind.proofs.+divisor.Goals as goal

pub returns-then-b-eq0 : goal.returns-then-b-eq0
returns-then-b-eq0 t c = search divisor_end

pub returns : goal.returns
returns t c = search divisor_next
