-- `player::session::refused` meets its contract.
-- Assumes nothing.
use Rattle.player.specs.Session.Properties.{refused_leaves}
use Rattle.player.proofs.session.refused.Goals as goal

pub returns : goal.returns
returns c = search refused_leaves
