-- Document 01, "Running": who has work, who outranks whom by the clock, and who is served.
-- Assumes nothing.
use Rattle.std.specs.Prelude.{ℕ, ◌+◌, ◌%◌, Bool, not, ◌&&◌, eqb}
use Rattle.laws.specs.Ranking.{sooner}
use Rattle.plan.specs.Order.{budget_of}
use Rattle.layout.specs.Layout.{first_cell}
use Rattle.rack.specs.View.{View, chosen}
use Rattle.demands.specs.AbsoluteClock.State.{State, unit_of, kind_at}

-- "release clock plus D"
unfoldable pub due : State → ℕ → ℕ
due s i = (unit_of s i).at + (kind_at s i).deadline

-- "In each project, the kinds with slices left": kind i is one of those of project j
unfoldable pub active : State → ℕ → ℕ → Bool
active s j i = eqb (kind_at s i).project j && not (eqb (unit_of s i).left 0)

-- "ranked by release clock plus D, then by lower kind number": kind k goes before kind i
unfoldable pub outranks : State → ℕ → ℕ → Bool
outranks s k i = sooner (due s) k i

-- project j's view: "Slice looks at clock mod F"
unfoldable pub view_of : State → ℕ → View
view_of s j = record {
  places = s.plan.kinds;
  active = active s j;
  above = outranks s;
  first = first_cell s.plan j;
  budget = budget_of s.plan j;
  frame = s.plan.frame;
  slice = s.clock % s.plan.frame;
}

-- "the first h of them": kind i has slices left, and its rank is below the cards that its project holds
unfoldable pub served : State → ℕ → Bool
served s i = chosen (view_of s (kind_at s i).project) i
