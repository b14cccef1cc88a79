-- `play::listen` meets its contract.
-- Assumes nothing.
use Rattle.play.specs.Desk.Properties.{hears_read}
use Rattle.play.proofs.listen.Goals as goal

pub returns : goal.returns
returns c = search hears_read
