-- Document 01, "Layout", after McNaughton (document 000): cells, who owns them, and the cards that a project holds at a slice.
-- Assumes nothing.
use Rattle.std.specs.Prelude.{ℕ, ◌+◌, ◌*◌, ◌%◌, pred, Bool}
use Rattle.laws.specs.Sum.{sum_to}
use Rattle.laws.specs.First.{first_to}
use Rattle.laws.specs.Count.{count_to}
use Rattle.plan.specs.declared.Plan.{Plan}
use Rattle.plan.specs.Order.{budget_of}
use Rattle.layout.specs.Cards.{in_run}

-- "cell x is card floor(x/F), slice x mod F": the cell of a card at a slice
unfoldable pub cell_at : ℕ → ℕ → ℕ → ℕ
cell_at frame card slice = card * frame + slice

-- "Project 0 takes the first B cells, project 1 the next, and so on": project j's first cell
unfoldable pub first_cell : Plan → ℕ → ℕ
first_cell p j = sum_to j (budget_of p)

-- "Project 0 takes the first B cells, project 1 the next, and so on": whether project j has cell x
unfoldable pub owns : Plan → ℕ → ℕ → Bool
owns p j x = in_run (first_cell p j) (budget_of p j) x

-- "project number plus 1, or 0 for a free cell"
unfoldable pub slot_of : Plan → ℕ → ℕ
slot_of p x = first_to p.projects (λ number. owns p (pred number) x)

-- "Let h(s) be the cards a project holds at slice s, taken modulo F"
unfoldable pub held : Plan → ℕ → ℕ → ℕ
held p j s = count_to p.cards (λ card. owns p j (cell_at p.frame card (s % p.frame)))
