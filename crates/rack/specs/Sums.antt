-- Document 02 (vii), "Keep the row of sums": the sum of slices left of each project, and whether the stored ones are these. Nothing of it
-- looks at the slice.
-- Assumes nothing.
use Rattle.std.specs.Prelude.{ℕ, ◌≡◌, Bool, cond, List, eqb, replicate}
use Rattle.laws.specs.Sum.{sum_to}
use Rattle.laws.specs.All.{all_to}
use Rattle.laws.specs.Written.{written}
use Rattle.rack.specs.declared.State.{State}
use Rattle.rack.specs.State.{unit_of, kind_at, kind_places, project_places, ProjectInUse, sum_at}
pub mod Properties

-- what kind i adds to project j's sum: its slices left where it is one of that project's, else nothing
unfoldable pub left_for : State → ℕ → ℕ → ℕ
left_for s j i = cond (eqb (kind_at s i).project j) (unit_of s i).left 0

-- "slices left per project": "the sum of what is left" of project j's kinds
unfoldable pub project_left : State → ℕ → ℕ
project_left s j = sum_to (kind_places s) (left_for s j)

-- project j's stored sum is that
abbrev pub sum_right : State → ℕ → Bool
sum_right s j = eqb (sum_at s j) (project_left s j)

-- "the stored row equals the sum of what is left", project by project
unfoldable pub sums_right : State → Bool
sums_right s = all_to (project_places s) (sum_right s)

-- ---- what it says

-- of each project
abbrev pub SumsRight : State → Type 0
SumsRight s = (j : ℕ) → ProjectInUse s j → sum_at s j ≡ project_left s j

-- ---- how it is found

-- what is left of each project in the kinds below n, a number for each of the eight places
abbrev pub left_below : State → ℕ → List ℕ
left_below s n = written 8 (λ j. sum_to n (left_for s j)) (replicate 8 0)

-- in all of them
abbrev pub left_row : State → List ℕ
left_row s = written 8 (project_left s) (replicate 8 0)
