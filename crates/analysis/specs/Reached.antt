-- The moments that a project can come to: from an idle one, along slices and releases in any order.
-- Assumes nothing.
use Rattle.std.specs.Prelude.{Bool, ℕ}
use Rattle.analysis.specs.Setup.{Setup}
use Rattle.analysis.specs.Moment.{Moment, Idle}
use Rattle.analysis.specs.Step.{Priority, Slice, Release}

pub data Reached (S : Setup) (prior : Priority) : Moment → Type 0 where
  idle : {m : Moment} → Idle S m → Reached S prior m
  slice : {before after : Moment} (served : ℕ → Bool) → Reached S prior before → Slice S prior served before after → Reached S prior after
  release : {before after : Moment} (j e : ℕ) → Reached S prior before → Release S j e before after → Reached S prior after
