-- `seats::AllStandings::at_or_after` meets its contract.
-- Assumes nothing.
use Rattle.std.proofs.Common.{refl, arith, rules}
use Rattle.laws.specs.Count.Properties.{count_none}
use Rattle.seats.specs.Ranks.Properties.{counted_most, counted_more, counted_all}
use Rattle.seats.proofs.AllStandings.at_or_after.Goals as goal

pub loop-standing-init : goal.loop-standing-init
loop-standing-init c = (omega arith, search rules, refl, omega arith, count_none _)

pub loop-standing-preserved : goal.loop-standing-preserved
loop-standing-preserved c = (omega arith, search, search, search counted_most, search counted_more)

pub returns : goal.returns
returns c = search counted_all
