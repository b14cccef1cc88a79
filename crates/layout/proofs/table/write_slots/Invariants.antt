-- `layout::table::write_slots` meets its contract.
-- Assumes nothing.
use Rattle.std.proofs.Math.Path.{◌≡◌}
use Rattle.std.specs.Prelude.{replicate, take}
use Prim.Native.Nat.{◌-◌}
use Rattle.laws.specs.Written.{written}
use Rattle.layout.specs.Walk.{row_of, rows_of}
use Rattle.layout.specs.Layout.{cell_at, slot_of}
use Rattle.layout.proofs.table.write_slots.Given as goal

abbrev pub invariant-loop-c : goal.invariant-loop-c
invariant-loop-c l =
    (l.before ≡ slot_of l.plan (cell_at l.plan.frame l.c 0 - 1))
    × (l.slots-items ≡ written l.c (row_of l.plan) (take l.plan.cards (replicate 8 (replicate 64 0))))

abbrev pub invariant-loop-slots : goal.invariant-loop-slots
invariant-loop-slots l =
    (l.at ≡ cell_at l.fn.ordered.plan.frame l.slots-index 0) ×
    (l.slots-items ≡ take l.fn.ordered.plan.cards (rows_of l.fn.ordered.plan l.fn.ordered.plan.cards))
    × (l.out ≡ written l.at (slot_of l.fn.ordered.plan) l.initial.out)
