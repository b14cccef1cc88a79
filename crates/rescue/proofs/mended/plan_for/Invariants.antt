-- `rescue::mended::plan_for` meets its contract.
-- Assumes nothing.
use Rattle.std.specs.Prelude.{◌≡◌, ◌≤◌}
use Rattle.rescue.specs.Mended.{kept_to, kinds_kept}
use Rattle.rescue.proofs.mended.plan_for.Given as goal

abbrev pub invariant-loop-damaged : goal.invariant-loop-damaged
invariant-loop-damaged l =
    (l.kind ≡ kept_to l.fn.plan l.damaged-index) × (l.kinds ≡ kinds_kept l.fn.plan l.damaged-index) × (l.kinds ≤ l.damaged-index)
