-- Document 01, "In form", as document 02 (ix) has it: when a kind's unit is in form.
-- Assumes nothing.
use Rattle.std.specs.Prelude.{ℕ, ◌≤◌, ◌<◌, ◌≡◌, Bool, false, not, cond, ◌&&◌, ◌||◌, leb, ltb, eqb}
use Rattle.plan.specs.declared.Kind.{Kind}
use Rattle.unit.specs.declared.Unit.{Unit}
pub mod Properties

-- slices gone "0 if never released", and "left 0"
unfoldable pub untouched : Unit → Bool
untouched v = eqb v.gone 0 && eqb v.left 0

-- slices gone "below D where work is left"
unfoldable pub due_in_time : ℕ → Unit → Bool
due_in_time deadline v = eqb v.left 0 || ltb v.gone deadline

-- "slices gone are at most T", "left <= C", slices gone "below D where work is left"
unfoldable pub underway : Kind → Unit → Bool
underway k v = leb v.gone k.separation && (leb v.left k.length && due_in_time k.deadline v)

-- "slices gone are at most T, 0 if never released, and below D where work is left", and left as document 01 has it
unfoldable pub unit_in_form : Kind → Unit → Bool
unit_in_form k v = cond v.released (underway k v) (untouched v)

-- a place of a unit that holds zeros
unfoldable pub empty_unit : Unit → Bool
empty_unit v = not v.released && untouched v

-- a unit at its place: in form where the plan has that kind, and else "places beyond n zero"
abbrev pub fits_place : Bool → Kind → Unit → Bool
fits_place used k v = cond used (unit_in_form k v) (empty_unit v)

-- ---- what the test says, field by field

-- "slices gone are at most T, 0 if never released, and below D where work is left"; "left <= C", and 0 if never released
pub record UnitInForm (k : Kind) (v : Unit) : Type 0 where
  pub gone_most : v.gone ≤ k.separation
  pub left_most : v.left ≤ k.length
  pub in_time : 0 < v.left → v.gone < k.deadline
  pub never : v.released ≡ false → (v.gone ≡ 0) × (v.left ≡ 0)
