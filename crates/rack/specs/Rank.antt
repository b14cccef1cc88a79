-- Document 01, "Running", and document 02 (ix): who has work, who outranks whom, and who is served.
-- Assumes nothing.
use Rattle.std.specs.Prelude.{ℕ, Bool, not, ◌&&◌, eqb}
use Rattle.laws.specs.Count.{count_to}
use Rattle.laws.specs.Ranking.{sooner}
use Rattle.plan.specs.Order.{budget_of}
use Rattle.layout.specs.Layout.{first_cell}
use Rattle.unit.specs.Step.{until_due}
use Rattle.rack.specs.declared.State.{State}
use Rattle.rack.specs.State.{unit_of, kind_at, kind_places}
use Rattle.rack.specs.View.{View, rank_of, chosen}

-- "slices left until the deadline" of kind i
abbrev pub until : State → ℕ → ℕ
until s i = until_due (kind_at s i).deadline (unit_of s i)

-- "the kinds with slices left"
unfoldable pub working : State → ℕ → Bool
working s i = not (eqb (unit_of s i).left 0)

-- "In each project, the kinds with slices left": kind i is one of those of project j
unfoldable pub active : State → ℕ → ℕ → Bool
active s j i = eqb (kind_at s i).project j && working s i

-- how many kinds of project j have slices left
unfoldable pub active_kinds : State → ℕ → ℕ
active_kinds s j = count_to (kind_places s) (active s j)

-- "Ranking is by slices left until the deadline, with the same tie rule", "by lower kind number": kind k goes before kind i
unfoldable pub outranks : State → ℕ → ℕ → Bool
outranks s k i = sooner (until s) k i

-- project j's view
unfoldable pub view_of : State → ℕ → View
view_of s j = record {
  places = kind_places s;
  active = active s j;
  above = outranks s;
  first = first_cell s.plan j;
  budget = budget_of s.plan j;
  frame = s.plan.frame;
  slice = s.slice;
}

-- that of kind i's project
abbrev pub own_view : State → ℕ → View
own_view s i = view_of s (kind_at s i).project

-- how many kinds of kind i's project with slices left outrank it
unfoldable pub rank : State → ℕ → ℕ
rank s i = rank_of (own_view s i) i

-- "the first h of them": kind i has slices left, and its rank is below the cards that its project holds
unfoldable pub served : State → ℕ → Bool
served s i = chosen (own_view s i) i
