-- `player::session::open` meets its contract.
-- Assumes nothing.
use Rattle.std.proofs.Common.{arith, refl}
use Rattle.player.specs.Session.Properties.{plays_full, plays_waits, plays_unread, plays_unstarted, plays_started, reading_fits}
use Rattle.player.proofs.session.open.Goals as goal

pub returns-then-out-lt-ROOM : goal.returns-then-out-lt-ROOM
returns-then-out-lt-ROOM c = search plays_full

pub returns-then-waits : goal.returns-then-waits
returns-then-waits c = search plays_waits

pub returns-in_default : goal.returns-in_default
returns-in_default c = search plays_unread

pub returns-in_default-started : goal.returns-in_default-started
returns-in_default-started c = search plays_unstarted

pub run-requires : goal.run-requires
run-requires c =
    let printed = c in
    let good = printed in
    let read = good in (
      reading_fits _ _ read.read-reading.ensures good.in-Good.is,
      omega (arith, printed.put-count.ensures.room, printed.put-count.auto.out, read.if-out-lt-ROOM.false),
    )

pub returns : goal.returns
returns c =
    let printed = c in
    let told = printed in
    let good = told in
    let heard = good in
    let read = heard in
    plays_started _ _ _ _ _ read.if-out-lt-ROOM.false _ _ refl read.read-reading.ensures
    heard.waits.ensures good.if-waits.false good.in-Good.is _ told.start-start.ensures
    told.in-Good-started.is _ _ _ printed.put-count.ensures _ c.run.ensures
