-- `play::round` meets its contract.
-- Assumes nothing.
use Rattle.std.proofs.Common.{arith, rules}
use Rattle.play.specs.Desk.Properties.{round_tells, round_ends, round_hears, taken_fits, read_room}
use Rattle.play.proofs.round.Goals as goal

pub returns-then-is_over : goal.returns-then-is_over
returns-then-is_over c = search round_ends

pub listen-requires : goal.listen-requires
listen-requires c = (search rules, search read_room)

pub returns-then-progress-eq0 : goal.returns-then-progress-eq0
returns-then-progress-eq0 c = search round_hears

pub told-requires : goal.told-requires
told-requires c =
    omega (
      arith,
      taken_fits _ _ _ _ _ c.play-progress.ensures
          c.requires.0,
    )

pub returns : goal.returns
returns c = search round_tells
