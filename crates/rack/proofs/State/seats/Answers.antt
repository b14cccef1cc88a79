-- `rack::State::seats` meets its contract.
-- Assumes nothing.
use Rattle.rack.proofs.Laws.Seat.{slice_in_frame}
use Rattle.rack.proofs.Laws.Found.{seats_by_law}
use Rattle.rack.proofs.State.seats.Goals as goal

pub project_cards-cards-requires : goal.project_cards-cards-requires
project_cards-cards-requires c = (search, search slice_in_frame)

pub returns : goal.returns
returns c = search seats_by_law
