-- How the code finds the slots: one walk over the cells, from run to run.
-- Assumes nothing.
use Rattle.std.specs.Prelude.{ℕ, suc, ◌+◌, cond, List, ltb, eqb, replicate}
use Rattle.laws.specs.Written.{written}
use Rattle.plan.specs.declared.Plan.{Plan}
use Rattle.layout.specs.Layout.{cell_at, first_cell, slot_of}

-- each project's first cell, and after the last project's the first free cell
unfoldable pub first_cells : Plan → List ℕ
first_cells p = written (suc p.projects) (first_cell p) (replicate 9 0)

-- the slot of cell x, from that of the cell before it and the cell where that one's run ends
unfoldable pub slot_after : ℕ → ℕ → ℕ → ℕ → ℕ
slot_after before end projects x = cond (eqb before 0) 0 (cond (ltb x end) before (cond (ltb before projects) (before + 1) 0))

-- a card's slots, slice by slice
unfoldable pub row_of : Plan → ℕ → List ℕ
row_of p card = written p.frame (λ slice. slot_of p (cell_at p.frame card slice)) (replicate 64 0)

-- the rows of the first n cards, and rows of zeros after them
unfoldable pub rows_of : Plan → ℕ → List (List ℕ)
rows_of p n = written n (row_of p) (replicate 8 (replicate 64 0))
