-- `rack::State::show` meets its contract.
-- Assumes nothing.
use Rattle.std.proofs.Common.{refl, sym, arith}
use Rattle.rack.specs.Form.Properties.{ready_says}
use Rattle.rack.proofs.Laws.Found.{found_no, found_ok, answered_ready, answered_no}
use Rattle.rack.proofs.Laws.Show.{show_unready, show_no_room, show_row}
use Rattle.rack.proofs.State.show.Goals as goal

pub returns-in_default : goal.returns-in_default
returns-in_default c =
    show_unready _ _ _ (answered_ready _ _ _ _ c.in_default.is (search) (found_no _ _ _ c.check-checked.ensures c.in_default.is)) _
    (answered_no _ _ _ c.in_default.is (search))

pub returns-then-row-from : goal.returns-then-row-from
returns-then-row-from c = show_no_room _ _ _ (sym (found_ok _ _ _ c.check-checked.ensures c.in-Ok.is).0) refl _ (search) (omega arith)

pub seats-seat-requires : goal.seats-seat-requires
seats-seat-requires c =
    let found = found_ok _ _ _ c.check-checked.ensures c.in-Ok.is in
    (ready_says _ found.0, found.1)

pub write_row-requires : goal.write_row-requires
write_row-requires c = (ready_says _ (found_ok _ _ _ c.check-checked.ensures c.in-Ok.is).0, omega arith, search)

pub returns : goal.returns
returns c = show_row _ _ _ (sym (found_ok _ _ _ c.check-checked.ensures c.in-Ok.is).0) refl _ (omega arith) (search)
