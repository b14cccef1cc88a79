-- Document 02 (ix): a unit as a slice goes by.
-- Assumes nothing.
use Rattle.std.specs.Prelude.{ℕ, ◌+◌, ◌-◌, min, Bool, cond}
use Rattle.unit.specs.declared.Unit.{Unit}
pub mod Properties

-- "slices left until the deadline": D less those gone
unfoldable pub until_due : ℕ → Unit → ℕ
until_due deadline v = deadline - v.gone

-- "the slices gone since then, held at T": one more for a kind ever released
unfoldable pub gone_after : ℕ → Unit → ℕ
gone_after separation v = cond v.released (min separation (v.gone + 1)) v.gone

-- document 01, "Each chosen kind's left falls by one"
unfoldable pub left_after : Bool → Unit → ℕ
left_after served v = v.left - cond served 1 0

-- the unit a slice later, served in it or not
abbrev pub unit_after : Bool → ℕ → Unit → Unit
unit_after served separation v = record { released = v.released; gone = gone_after separation v; left = left_after served v }
