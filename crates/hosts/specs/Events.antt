-- What a host sees of a chain of calls, with no look at the image: the releases accepted and the rows of the slices advanced,
-- in their order.
-- Assumes nothing.
use Rattle.std.specs.Prelude.{ℕ, ◌+◌, Bool, cond, List, [], ◌∷◌, eqb, take}
use Rattle.answer.specs.Word.{number_in}
use Rattle.demands.specs.Run.{Call, show, advance, release}
use Rattle.demands.specs.Named.{bytes_in}
use Rattle.demands.specs.Since.{Since, ago, later}
use Rattle.demands.specs.Shown.{Event, started, ran}
use Rattle.hosts.specs.Chain.{Seen}
pub mod Properties

-- PARCHBEETLE_NUMBER is 0
abbrev pub accepted : ℕ → Bool
accepted word = eqb (number_in word) 0

-- on a plan of that many cards; "The row written has m bytes"; a showing counts with the advance
unfoldable pub events_seen : ℕ → List Call → List Seen → List Event
events_seen cards [] seens = []
events_seen cards (call ∷ calls) [] = []
events_seen cards (show row ∷ calls) (seen ∷ seens) = events_seen cards calls seens
events_seen cards (advance ∷ calls) (seen ∷ seens) =
    cond (accepted seen.word) (ran (take cards seen.row) ∷ events_seen cards calls seens) (events_seen cards calls seens)
events_seen cards (release i e ∷ calls) (seen ∷ seens) =
    cond (accepted seen.word) (started i e ∷ events_seen cards calls seens) (events_seen cards calls seens)

-- the rows
unfoldable pub rows_in : List Event → List (List ℕ)
rows_in [] = []
rows_in (started i e ∷ events) = rows_in events
rows_in (ran row ∷ events) = row ∷ rows_in events

-- how many bytes of rows pass a test
unfoldable pub bytes_over : (ℕ → Bool) → List (List ℕ) → ℕ
bytes_over test [] = 0
bytes_over test (row ∷ rows) = bytes_in test row + bytes_over test rows

-- the slices since the last accepted release of kind i
unfoldable pub since_seen : ℕ → Since → List Event → Since
since_seen i since [] = since
since_seen i since (started k e ∷ events) = since_seen i (cond (eqb k i) (ago 0) since) events
since_seen i since (ran row ∷ events) = since_seen i (later since) events
