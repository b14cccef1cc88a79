-- Plans and states of the language's types: arrays of 8 and 16 places, and every number within the width that an image has for it.
-- Assumes nothing.
use Rattle.std.specs.Prelude.{ℕ, ◌<◌, [], ◌∷◌}
use Rattle.codec.specs.Pack.{Fitting}
use Rattle.plan.specs.declared.Plan.{Plan}
use Rattle.plan.specs.Order.{project_of, kind_of}
use Rattle.plan_bytes.specs.Parts.{Shaped}
use Rattle.rack.specs.declared.State.{State}
use Rattle.rack.specs.State.{unit_of, sum_at, Places}
use Rattle.images.specs.Image.{count_widths, project_widths, kind_widths, slice_widths, unit_widths, sum_widths, count_fields}
use Rattle.images.specs.Image.{project_fields, kind_fields, unit_fields}
pub mod Properties

-- a plan of the language's type
pub record PlanTyped (p : Plan) : Type 0 where
  pub shaped : Shaped p
  pub counts_fit : Fitting count_widths (count_fields p)
  pub project_fits : (j : ℕ) → j < 8 → Fitting project_widths (project_fields (project_of p j))
  pub kind_fits : (i : ℕ) → i < 16 → Fitting kind_widths (kind_fields (kind_of p i))

-- a state of the language's type
pub record StateTyped (s : State) : Type 0 where
  pub plan_typed : PlanTyped s.plan
  pub slice_fits : Fitting slice_widths (s.slice ∷ [])
  pub places : Places s
  pub unit_fits : (i : ℕ) → i < 16 → Fitting unit_widths (unit_fields (unit_of s i))
  pub sum_fits : (j : ℕ) → j < 8 → Fitting sum_widths (sum_at s j ∷ [])
