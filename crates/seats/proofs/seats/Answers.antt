-- `seats::seats` meets its contract.
-- Assumes nothing.
use Rattle.std.proofs.Common.{◌≤◌, ◌<◌, arith}
use Rattle.laws.specs.Written.Properties.{written_none, written_stop}
use Rattle.seats.specs.Seats.{at}
use Rattle.seats.specs.Seats.Properties.{unseated_idle, unseated_strange, unseated_project, seated, seats_none, seats_all}
use Rattle.seats.specs.Ranks.Properties.{standing_no_more, first_enough, first_most, firsts_none, first_known, firsts_again}
use Rattle.seats.proofs.seats.Goals as goal

pub returns-then-kinds-gt-KINDS : goal.returns-then-kinds-gt-KINDS
returns-then-kinds-gt-KINDS c = search seats_none

pub loop-i-init : goal.loop-i-init
loop-i-init c = (omega arith, omega arith, search, firsts_none _, written_none _ _)

pub loop-i-preserved-then-number-eq0 : goal.loop-i-preserved-then-number-eq0
loop-i-preserved-then-number-eq0 c = (omega arith, omega arith, search, search, search unseated_idle)

pub loop-i-preserved-then-project-ge-PROJECTS : goal.loop-i-preserved-then-project-ge-PROJECTS
loop-i-preserved-then-project-ge-PROJECTS c =
    let many : 8 < at c.args.works.now c.loop-i.i = omega arith in
    (omega arith, omega arith, search, search, search unseated_strange)

pub loop-i-preserved-then-end-project : goal.loop-i-preserved-then-end-project
loop-i-preserved-then-end-project c =
    let few : at c.args.works.now c.loop-i.i ≤ 8 = omega arith in
    let no_card = rw c.from-project.ensures at c.if-end-project.true in
    (omega arith, omega arith, search, search, search unseated_project)

pub first-first-requires : goal.first-first-requires
first-first-requires c =
    let few : at c.args.works.now c.loop-i.i ≤ 8 = omega arith in
    (omega arith, rw (c.from.ensures, c.from-project.ensures) (search first_known))

pub seat-requires : goal.seat-requires
seat-requires c =
    let counted = rw c.from.ensures at c.first-first.ensures in
    (search standing_no_more, search first_enough, search first_most)

pub loop-i-preserved : goal.loop-i-preserved
loop-i-preserved c =
    let inv = c.loop-i.invariant in
    let few : at c.args.works.now c.loop-i.i ≤ 8 = omega arith in
    let counted = rw c.from.ensures at c.first-first.ensures in
    let found = rw c.from-project.ensures at c.seat.ensures in
    let seat = seated _ _ _ _ _ _ _ inv.4 (omega arith) (omega arith) (search) few _ _ _ inv.2 counted found in
    (omega arith, omega arith, search, rw c.from-project.ensures (search firsts_again), seat)

pub returns : goal.returns
returns c = search (seats_all, written_stop)
