-- `workload::workload` meets its contract.
-- Assumes nothing.
use Rattle.std.proofs.Math.Path.{◌≡◌}
use Prim.Native.Nat.{◌≤◌, ◌*◌}
use Rattle.laws.specs.Sum.{sum_to}
use Rattle.plan.specs.Order.{kind_of}
use Rattle.workload.specs.Workload.{part_of}
use Rattle.workload.proofs.workload.Given as goal

abbrev pub invariant-loop-j : goal.invariant-loop-j
invariant-loop-j l =
    (l.judged ≡ kind_of l.fn.plan l.kind) × (l.sum ≡ sum_to l.j (part_of l.fn.plan l.kind)) × (l.sum ≤ 4294967295 * l.j)
