-- Document 01, "In form", as document 02 (ix) has it, and the refusal 10: when a state is in form, and what is said where it is not;
-- document 02 (vii), the refusal 16.
-- Assumes nothing.
use Rattle.std.specs.Prelude.{ℕ, ◌<◌, ◌≡◌, Bool, not, ◌&&◌, ◌||◌, List, ltb, eqb, get_or}
use Rattle.laws.specs.All.{all_to}
use Rattle.answer.specs.declared.Answer.{Answer}
use Rattle.answer.specs.Answer.{bare, refuse, ◌and_then◌}
use Rattle.plan.specs.Order.{InOrder, checked}
use Rattle.unit.specs.Unit.{no_unit}
use Rattle.unit.specs.Form.{UnitInForm, fits_place}
use Rattle.rack.specs.declared.State.{State}
use Rattle.rack.specs.State.{unit_of, kind_at, InUse, used, ProjectInUse, project_used, sum_at}
use Rattle.rack.specs.Sums.{sums_right, SumsRight}
pub mod Properties

-- place i
abbrev pub place_in_form : State → ℕ → Bool
place_in_form s i = fits_place (used s i) (kind_at s i) (unit_of s i)

-- a stored sum at its place: "A sum beyond p that is not zero is 10"
unfoldable pub sum_fits : Bool → ℕ → Bool
sum_fits used sum = used || eqb sum 0

-- place j
abbrev pub sum_in_form : State → ℕ → Bool
sum_in_form s j = sum_fits (project_used s j) (sum_at s j)

-- every place of a sum
unfoldable pub sums_in_form : State → Bool
sums_in_form s = all_to 8 (sum_in_form s)

-- "the slice is below F" and every place in form
unfoldable pub in_form : State → Bool
in_form s = ltb s.slice s.plan.frame && (all_to 16 (place_in_form s) && sums_in_form s)

-- "16, directly after 10, in every call that takes a state, exactly when a stored sum differs"
unfoldable pub sums_told : State → Answer
sums_told s = refuse (not (sums_right s)) (bare 16)

-- "the record order, 10", and "16, directly after 10"
unfoldable pub ready : State → Answer
ready s = checked s.plan and_then (refuse (not (in_form s)) (bare 10) and_then sums_told s)

-- ---- what a good answer says, place by place

-- what a state in form is, place by place
pub record InForm (s : State) : Type 0 where
  pub slice_below : s.slice < s.plan.frame
  pub unit_at : (i : ℕ) → i < 16 → InUse s i → UnitInForm (kind_at s i) (unit_of s i)
  pub unused : (i : ℕ) → i < 16 → (InUse s i → ⊥) → unit_of s i ≡ no_unit
  pub sums_unused : (j : ℕ) → j < 8 → (ProjectInUse s j → ⊥) → sum_at s j ≡ 0

-- "the record order, 10", 16: a good answer says all three, and nothing else is refused
pub record Ready (s : State) : Type 0 where
  pub order : InOrder s.plan
  pub form : InForm s
  pub sums : SumsRight s

-- ---- how the stored sums are looked through

-- the stored sums at their places, for so many projects
unfoldable pub sums_fit : List ℕ → ℕ → Bool
sums_fit sum projects = all_to 8 (λ j. sum_fits (ltb j projects) (get_or sum j 0))

-- the stored sum of each project against what was found left of it
unfoldable pub sums_agree : List ℕ → List ℕ → ℕ → Bool
sums_agree sum left projects = all_to projects (λ j. eqb (get_or sum j 0) (get_or left j 0))
