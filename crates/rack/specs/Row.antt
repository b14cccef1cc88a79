-- Document 01, "Running": the row that a state shows, put together from the projects' views.
-- Assumes nothing.
use Rattle.std.specs.Prelude.{ℕ, zero, suc, pred, Bool, not, ◌&&◌, List, ◌++◌, eqb, drop, replicate}
use Rattle.laws.specs.Count.{count_to}
use Rattle.laws.specs.Written.{written}
use Rattle.plan.specs.declared.Plan.{Plan}
use Rattle.layout.specs.Layout.{cell_at, owns, slot_of}
use Rattle.rack.specs.declared.State.{State}
use Rattle.rack.specs.State.{kind_at}
use Rattle.rack.specs.View.{takes_card, byte_on}
use Rattle.rack.specs.Rank.{view_of, own_view}

-- whether project j holds a card at a slice of the frame
unfoldable pub holds : Plan → ℕ → ℕ → ℕ → Bool
holds p j slice card = owns p j (cell_at p.frame card slice)

-- ".. take that project's cards in ascending card order": kind i takes the card
abbrev pub takes : State → ℕ → ℕ → Bool
takes s i card = takes_card (own_view s i) i card

-- what a slot's project says of a card, and 0 of a free one
unfoldable pub byte_by : State → ℕ → ℕ → ℕ
byte_by s zero card = 0
byte_by s (suc j) card = byte_on (view_of s j) card

-- "kind number plus 1, or 0": as the project says that holds the card, "nobody else gets it"
unfoldable pub row_byte : State → ℕ → ℕ
row_byte s card = byte_by s (slot_of s.plan (cell_at s.plan.frame card s.slice)) card

-- "The row written has m bytes"
unfoldable pub row_of : State → List ℕ
row_of s = written s.plan.cards (row_byte s) (replicate s.plan.cards 0)

-- a lent row with it written: "bytes past those needed keep their value"
unfoldable pub row_over : State → List ℕ → List ℕ
row_over s bytes = row_of s ++ drop s.plan.cards bytes

-- ---- what the promises about a row speak of

-- a byte that names a kind of project j
unfoldable pub of_project : State → ℕ → ℕ → Bool
of_project s j number = not (eqb number 0) && eqb (kind_at s (pred number)).project j

-- how many cards of the row project j has
unfoldable pub cards_taken : State → ℕ → ℕ
cards_taken s j = count_to s.plan.cards (λ card. of_project s j (row_byte s card))
