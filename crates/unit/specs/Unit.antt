-- Document 01, "Running": the unit of a kind that was never released.
-- Assumes nothing.
use Rattle.std.specs.Prelude.{false}
use Rattle.unit.specs.declared.Unit.{Unit}

-- document 02 (ix), "slices gone are .. 0 if never released", and nothing left
abbrev pub no_unit : Unit
no_unit = record { gone = 0; left = 0; released = false }
