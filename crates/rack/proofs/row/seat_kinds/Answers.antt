-- `rack::row::seat_kinds` meets its contract.
-- Assumes nothing.
use Rattle.std.proofs.Common.{◌≡◌, refl, ◌∙◌, arith, rules, length-take}
use Rattle.std.proofs.lemmas.List.{get_or-take}
use Rattle.seats.specs.Seats.{at}
use Rattle.rack.proofs.Laws.Seat.{seated_none, seated_idle, seated_more}
use Rattle.rack.proofs.row.seat_kinds.Goals as goal

pub loop-i-init : goal.loop-i-init
loop-i-init c = (omega arith, refl, search seated_none)

pub loop-i-preserved-then-number-eq0 : goal.loop-i-preserved-then-number-eq0
loop-i-preserved-then-number-eq0 c =
    let inside = length-take c.args.kinds c.args.seat.now in
    let same = get_or-take c.args.kinds c.args.seat.now c.loop-i.i 0 (omega arith) in
    let none : at c.args.seat.now c.loop-i.i ≡ 0 = cc in
    (omega arith, search, search seated_idle)

pub loop-i-preserved : goal.loop-i-preserved
loop-i-preserved c =
    let inside = length-take c.args.kinds c.args.seat.now in
    let same = get_or-take c.args.kinds c.args.seat.now c.loop-i.i 0 (omega arith) in
    let number : c.from.result ≡ at c.args.seat.now c.loop-i.i = cc in
    (omega arith, search rules, rw number (seated_more _ _ _ _ c.loop-i.invariant.2 (λ z. c.if-number-eq0.false (same ∙ z))))
