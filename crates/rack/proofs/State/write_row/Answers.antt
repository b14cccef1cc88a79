-- `rack::State::write_row` meets its contract.
-- Assumes nothing.
use Rattle.std.proofs.Common.{ℕ, ◌∙◌, ap, arith}
use Rattle.laws.specs.Written.{written}
use Rattle.rack.specs.Seat.{idle}
use Rattle.rack.proofs.Laws.Seat.{cards_cleared, seats_fit, row_written}
use Rattle.rack.specs.Form.Properties.{places_most}
use Rattle.rack.proofs.State.write_row.Goals as goal

pub seat_kinds-requires : goal.seat_kinds-requires
seat_kinds-requires c =
    let front = c.fill.ensures.after (λ y e. e) in
    let cleared = cards_cleared _ _ _ (omega arith) front ∙ ap (λ (n : ℕ). written n idle c.args.out.now) c.from.ensures in
    (search places_most, seats_fit _ c.requires.0 _ _ _ c.requires.1 c.requires.2 cleared)

pub returns : goal.returns
returns c =
    let front = c.fill.ensures.after (λ y e. e) in
    let cleared = cards_cleared _ _ _ (omega arith) front ∙ ap (λ (n : ℕ). written n idle c.args.out.now) c.from.ensures in
    row_written _ c.requires.0 _ _ _ c.requires.1 c.requires.2 cleared _ _ c.places.ensures c.seat_kinds.ensures
