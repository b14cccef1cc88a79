-- Document 01, "Running": a project's own view of a state, and what it decides: its kinds' ranks, whom it serves, and its bytes of the row.
-- Assumes nothing.
use Rattle.std.specs.Prelude.{ℕ, ◌+◌, ◌<◌, pred, ◌≡◌, Bool, true, ◌&&◌, eqb}
use Rattle.laws.specs.Count.{count_to}
use Rattle.laws.specs.First.{first_to}
use Rattle.laws.specs.Ranking.{rank_in, first_in}
use Rattle.layout.specs.Cards.{cards_below, held_from, in_run}
use Rattle.layout.specs.Layout.{cell_at}

-- what a project sees of a state
pub record View : Type 0 where
  -- how many places of kinds there are
  pub places : ℕ
  -- "the kinds with slices left": whether place i is one of its own
  pub active : ℕ → Bool
  -- whether the first of two goes before the second
  pub above : ℕ → ℕ → Bool
  -- its first cell and its budget B
  pub first : ℕ
  pub budget : ℕ
  -- the frame's length F, and "the slice within the frame"
  pub frame : ℕ
  pub slice : ℕ

-- ---- its cards

-- whether it holds a card
unfoldable pub has_card : View → ℕ → Bool
has_card v card = in_run v.first v.budget (cell_at v.frame card v.slice)

-- "Let h(s) be the cards a project holds at slice s"
unfoldable pub cards_held : View → ℕ
cards_held v = held_from v.first v.budget v.frame v.slice

-- the card from which its own go on
unfoldable pub lowest_card : View → ℕ
lowest_card v = cards_below v.frame v.first v.slice

-- the card after its last
unfoldable pub end_card : View → ℕ
end_card v = cards_below v.frame (v.first + v.budget) v.slice

-- ---- its kinds

-- how many of its kinds have slices left
unfoldable pub active_in : View → ℕ
active_in v = count_to v.places v.active

-- how many of these go before kind i
unfoldable pub rank_of : View → ℕ → ℕ
rank_of v i = rank_in v.places v.active v.above i

-- "the first h of them"
unfoldable pub chosen : View → ℕ → Bool
chosen v i = first_in v.places v.active v.above (cards_held v) i

-- ".. take that project's cards in ascending card order": the card is the project's, with as many lower ones as kinds go before kind i
unfoldable pub takes_card : View → ℕ → ℕ → Bool
takes_card v i card = v.active i && (has_card v card && eqb (rank_of v i) (count_to card (has_card v)))

-- "kind number plus 1, or 0"
unfoldable pub byte_on : View → ℕ → ℕ
byte_on v card = first_to v.places (λ number. takes_card v (pred number) card)

-- ---- two views that say the same

-- the same kinds with slices left, in the same order, on the same cells, at the same slice
pub record Same (v w : View) : Type 0 where
  pub places : v.places ≡ w.places
  pub active : (i : ℕ) → i < v.places → v.active i ≡ w.active i
  pub above : (k i : ℕ) → k < v.places → i < v.places → v.active k ≡ true → v.active i ≡ true → v.above k i ≡ w.above k i
  pub first : v.first ≡ w.first
  pub budget : v.budget ≡ w.budget
  pub frame : v.frame ≡ w.frame
  pub slice : v.slice ≡ w.slice
