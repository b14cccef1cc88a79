-- `seats::standing` meets its contract.
-- Assumes nothing.
use Rattle.seats.specs.Ranks.{standing_of, least_of}
use Rattle.std.proofs.Common.{rules, arith}
use Rattle.seats.proofs.standing.Goals as goal

pub returns : goal.returns
unfolding standing_of least_of
returns c = record { value = omega arith; works_small = search rules; until_small = search rules }
