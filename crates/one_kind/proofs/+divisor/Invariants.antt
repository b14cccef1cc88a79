-- The measure of the cycle of calls {divisor} is the second number, which the remainder is below.
-- Assumes nothing.
use Rattle.one_kind.proofs.+divisor.Given as goal

abbrev pub decreases-divisor : goal.decreases-divisor
decreases-divisor l = l.b
