-- `plan::Kind::is_empty` meets its contract.
-- Assumes nothing.
use Rattle.std.proofs.Common.{rules}
use Rattle.plan.specs.Order.{empty_kind}
use Rattle.plan.proofs.Kind.is_empty.Goals as goal

pub returns : goal.returns
unfolding empty_kind
returns c = search rules
