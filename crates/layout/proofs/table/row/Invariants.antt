-- `layout::table::row` meets its contract.
-- Assumes nothing.
use Rattle.std.proofs.Math.Path.{◌≡◌}
use Rattle.std.specs.Prelude.{replicate, take}
use Prim.Native.Nat.{ℕ, ◌+◌, ◌≤◌, ◌<◌, ◌-◌}
use Rattle.laws.specs.Written.{written}
use Rattle.layout.specs.Layout.{cell_at, slot_of}
use Rattle.layout.proofs.table.row.Given as goal

abbrev pub invariant-loop-s : goal.invariant-loop-s
invariant-loop-s l =
    (l.cell ≡ cell_at l.plan.frame l.card l.s-index) × (l.cell + (l.plan.frame - l.s-index) ≤ 512) × (l.slot < 9) ×
    (l.slot ≡ slot_of l.plan (cell_at l.plan.frame l.card l.s-index - 1)) ×
    (l.s-items ≡ written l.s-index (λ (slice : ℕ). slot_of l.plan (cell_at l.plan.frame l.card slice)) (take l.plan.frame (replicate 64 0)))
