-- `rack::row::project_cards` meets its contract.
-- Assumes nothing.
use Rattle.std.proofs.Common.{◌≤◌, ◌<◌, sym, arith}
use Rattle.laws.specs.Written.Properties.{written_none, written_again, written_stop}
use Rattle.layout.proofs.Laws.Layout.{first_start}
use Rattle.rack.proofs.Laws.Seat.{cards_start, cell_small, cell_next, card_ends, card_next, card_small}
use Rattle.rack.proofs.row.project_cards.Goals as goal

pub loop-j-init : goal.loop-j-init
loop-j-init c = (omega arith, omega arith, sym (first_start _), search cards_start, written_none _ _, written_none _ _)

pub overflow_add-cell : goal.overflow_add-cell
overflow_add-cell c =
    let below : c.loop-j.j < c.args.plan.projects = omega arith in search cell_small

pub overflow_cast-card : goal.overflow_cast-card
overflow_cast-card c =
    let below : c.loop-j.j < c.args.plan.projects = omega arith in search card_small

pub loop-j-preserved : goal.loop-j-preserved
loop-j-preserved c = (omega arith, search, search cell_next, search card_next, search written_again, search (written_again, card_ends))

pub returns : goal.returns
returns c =
    let low : c.loop-j.j ≤ c.args.plan.projects = omega arith in
    let high : c.args.plan.projects ≤ c.loop-j.j = omega arith in
    record { lowest = search written_stop; past = search written_stop }
