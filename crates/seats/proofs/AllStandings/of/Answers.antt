-- `seats::AllStandings::of` meets its contract.
-- Assumes nothing.
use Rattle.std.proofs.Common.{arith, rules}
use Rattle.seats.specs.Ranks.Properties.{standings_none, standings_again, standings_most}
use Rattle.seats.proofs.AllStandings.of.Goals as goal

pub loop-i-init : goal.loop-i-init
loop-i-init c = (omega arith, search rules, standings_none _ _)

pub loop-i-preserved : goal.loop-i-preserved
loop-i-preserved c = (omega arith, search, search standings_again)

pub invariant_of-result : goal.invariant_of-result
invariant_of-result c = record { narrow = standings_most _ _ _ _ c.loop-i.invariant.2 (omega arith) }
