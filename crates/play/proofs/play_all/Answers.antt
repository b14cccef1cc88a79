-- `play::play_all` meets its contract: before each round, so many rounds were played.
-- Assumes nothing.
use Rattle.std.specs.Prelude.{refl}
use Rattle.std.proofs.Common.{arith}
use Rattle.play.specs.Desk.Properties.{playing_none, playing_fits, playing_again, ends_closed, ends_used}
use Rattle.play.proofs.play_all.Goals as goal

pub loop-rounds-init : goal.loop-rounds-init
loop-rounds-init c = (search playing_none, omega arith, omega arith, omega arith, refl, refl)

pub returns-then-is_closed : goal.returns-then-is_closed
returns-then-is_closed c = search ends_closed

pub round-desk-requires : goal.round-desk-requires
round-desk-requires c = (search playing_fits, omega arith, omega arith)

pub loop-rounds-preserved : goal.loop-rounds-preserved
loop-rounds-preserved c = (search playing_again, omega arith, omega arith, omega arith, omega arith, omega arith)

pub returns : goal.returns
returns c = search ends_used
