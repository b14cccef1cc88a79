-- Two states that a project cannot tell apart: its own kinds and their units, its cells and the slice in the frame are the same in both.
-- Assumes nothing.
use Rattle.std.specs.Prelude.{ℕ, ◌≡◌, eqb}
use Rattle.plan.specs.Order.{budget_of}
use Rattle.layout.specs.Layout.{first_cell}
use Rattle.rack.specs.declared.State.{State}
use Rattle.rack.specs.State.{unit_of, kind_at, kind_places, InUse}

-- kind i is one of project j's
pub record Mine (j : ℕ) (s : State) (i : ℕ) : Type 0 where
  pub its_kind : InUse s i
  pub its_project : (kind_at s i).project ≡ j

-- to project j
pub record Alike (j : ℕ) (s t : State) : Type 0 where
  -- its kinds
  pub places : kind_places s ≡ kind_places t
  pub mine : (i : ℕ) → InUse s i → eqb (kind_at s i).project j ≡ eqb (kind_at t i).project j
  pub kind : (i : ℕ) → Mine j s i → kind_at s i ≡ kind_at t i
  -- their units
  pub unit : (i : ℕ) → Mine j s i → unit_of s i ≡ unit_of t i
  -- its cells, and the slice
  pub first : first_cell s.plan j ≡ first_cell t.plan j
  pub budget : budget_of s.plan j ≡ budget_of t.plan j
  pub frame : s.plan.frame ≡ t.plan.frame
  pub slice : s.slice ≡ t.slice
