-- Document 01, "Running": the row that a state shows.
-- Assumes nothing.
use Rattle.std.specs.Prelude.{ℕ, zero, suc, ◌%◌, List, ◌++◌, drop, replicate}
use Rattle.laws.specs.Written.{written}
use Rattle.layout.specs.Layout.{cell_at, slot_of}
use Rattle.rack.specs.View.{byte_on}
use Rattle.demands.specs.AbsoluteClock.State.{State}
use Rattle.demands.specs.AbsoluteClock.Rank.{view_of}

-- what a slot's project says of a card, and 0 of a free one
unfoldable pub byte_by : State → ℕ → ℕ → ℕ
byte_by s zero card = 0
byte_by s (suc j) card = byte_on (view_of s j) card

-- "kind number plus 1, or 0": as the project says that holds the card, "nobody else gets it"
unfoldable pub row_byte : State → ℕ → ℕ
row_byte s card = byte_by s (slot_of s.plan (cell_at s.plan.frame card (s.clock % s.plan.frame))) card

-- "The row written has m bytes"
unfoldable pub row_of : State → List ℕ
row_of s = written s.plan.cards (row_byte s) (replicate s.plan.cards 0)

-- a lent row with it written: "bytes past those needed keep their value"
unfoldable pub row_over : State → List ℕ → List ℕ
row_over s bytes = row_of s ++ drop s.plan.cards bytes
