-- `player::run::run` meets its contract.
-- Assumes nothing.
use Prim.Native.Nat.{◌-◌}
use Rattle.player.specs.Session.{run_from}
use Rattle.player.specs.Session.Properties.{Playing}
use Rattle.player.specs.declared.session.Session.TheVariants.{Running}
use Rattle.player.proofs.run.run.Given as goal

abbrev pub invariant-loop-played : goal.invariant-loop-played
invariant-loop-played l =
    Playing (run_from l.initial.state l.last l.bytes l.initial.taken l.initial.out l.initial.count l.most) l.last l.bytes l.initial.out
    (Running l.state) l.taken l.count (l.most - l._played) l.out
