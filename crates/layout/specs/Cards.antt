-- Document 01, "Layout": the cells of a slice, counted below a cell and in a run of cells.
-- Assumes nothing.
use Rattle.std.specs.Prelude.{ℕ, ◌+◌, ◌%◌, Bool, cond, ◌&&◌, leb, ltb, eqb}
use Rattle.laws.specs.Count.{count_to}
pub mod Properties

-- "cell x is card floor(x/F), slice x mod F": how many cells of a slice stand below cell x; 0 for a slice that the frame does not have
unfoldable pub cards_below : ℕ → ℕ → ℕ → ℕ
cards_below frame x slice = cond (ltb slice frame) (count_to x (λ y. eqb (y % frame) slice)) 0

-- whether a run of budget cells from cell first on has cell x
abbrev pub in_run : ℕ → ℕ → ℕ → Bool
in_run first budget x = leb first x && ltb x (first + budget)

-- "the cards a project holds at slice s, taken modulo F", for a run of budget cells from cell first on
unfoldable pub held_from : ℕ → ℕ → ℕ → ℕ → ℕ
held_from first budget frame s = count_to budget (λ y. eqb ((first + y) % frame) (s % frame))
