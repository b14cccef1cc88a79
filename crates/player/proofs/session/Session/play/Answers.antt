-- `player::session::Session::play` meets its contract.
-- Assumes nothing.
use Rattle.player.specs.Session.Properties.{plays_runs, plays_over}
use Rattle.player.proofs.session.Session.play.Goals as goal

pub returns-in-Running : goal.returns-in-Running
returns-in-Running c = search plays_runs

pub returns-in-Over : goal.returns-in-Over
returns-in-Over c = search plays_over
