-- Where a project stands between two calls. Everything is counted from now: no clock is read, so none has to rise.
-- Assumes nothing.
use Rattle.std.specs.Prelude.{◌≡◌, ℕ, ◌+◌, ◌≤◌, ◌<◌}
use Rattle.supply.specs.Supply.{window}
use Rattle.analysis.specs.Setup.{Setup, Own}

pub record Moment : Type 0 where
  -- the cards that the project holds x slices from now
  pub cards : ℕ → ℕ
  -- of each kind, the "slices left" of its unit
  pub left : ℕ → ℕ
  -- the slices until that unit is due, read only where something is left
  pub until : ℕ → ℕ
  -- the slices until its next unit can be within its reach, at the earliest
  pub wait : ℕ → ℕ

-- from now on and from every later slice on, the project holds what S(k,t) says
abbrev pub Supplied : Setup → Moment → Type 0
Supplied S m = (start k t : ℕ) → S.supply k t ≤ window k m.cards start t

-- a unit under way: when it is due and when the next can come are counted from one release
pub record Running (S : Setup) (m : Moment) (i : ℕ) : Type 0 where
  pub left : m.left i ≤ S.length i
  pub until : m.until i ≤ S.deadline i
  pub wait : m.wait i + S.reach i ≡ m.until i + S.separation i

-- every unit that has slices left is
abbrev pub UnderWay : Setup → Moment → Type 0
UnderWay S m = (i : ℕ) → Own S i → 0 < m.left i → Running S m i

-- none is late: what is left of a unit is at most the slices until it is due
abbrev pub NoneLate : Setup → Moment → Type 0
NoneLate S m = (i : ℕ) → Own S i → m.left i ≤ m.until i

-- nothing is left of any unit: how a project begins, and where it could be given other cards with the same supply
pub record Idle (S : Setup) (m : Moment) : Type 0 where
  pub supplied : Supplied S m
  pub none_left : (i : ℕ) → Own S i → m.left i ≡ 0
