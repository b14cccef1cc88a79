-- Each public operation's contract admits one outcome.
-- Assumes nothing.
use Rattle.std.specs.Prelude.{◌≡◌, Bool, ℕ}
use Rattle.answer.specs.Outcome.{One}
use Rattle.answer.specs.Outcome.Properties.{is_one}
use Rattle.plan.specs.declared.Kind.{Kind}
use Rattle.unit.specs.declared.Unit.{Unit}
use Rattle.unit.specs.Unit.{no_unit}
use Rattle.unit.specs.Form.{fits_place}
use Rattle.unit.specs.Start.{startable}
use Rattle.unit.specs.Step.{until_due, unit_after}

-- `Unit::empty`
pub empty_one_outcome : One (λ r. r ≡ no_unit)
empty_one_outcome = is_one _

-- `Unit::fits_place`
pub fits_place_one_outcome : (self : Unit) (used : Bool) (kind : Kind) → One (λ r. r ≡ fits_place used kind self)
fits_place_one_outcome self used kind = is_one _

-- `Unit::may_start`
pub may_start_one_outcome : (self : Unit) (kind : Kind) (length : ℕ) → One (λ r. r ≡ startable kind self length)
may_start_one_outcome self kind length = is_one _

-- `Unit::until_due`
pub until_due_one_outcome : (self : Unit) (deadline : ℕ) → One (λ r. r ≡ until_due deadline self)
until_due_one_outcome self deadline = is_one _

-- `Unit::after`
pub after_one_outcome : (self : Unit) (served : Bool) (separation : ℕ) → One (λ r. r ≡ unit_after served separation self)
after_one_outcome self served separation = is_one _
