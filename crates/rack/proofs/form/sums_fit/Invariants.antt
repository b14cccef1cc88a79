-- `rack::form::sums_fit` meets its contract.
-- Assumes nothing.
use Rattle.std.proofs.Math.Path.{◌≡◌}
use Rattle.std.specs.Prelude.{true, ltb}
use Prim.Native.Nat.{ℕ, ◌≤◌}
use Rattle.std.proofs.Math.ListN.{get_or}
use Rattle.laws.specs.All.{all_to}
use Rattle.rack.specs.Form.{sum_fits}
use Rattle.rack.proofs.form.sums_fit.Given as goal

abbrev pub invariant-loop-j : goal.invariant-loop-j
invariant-loop-j l = (l.j ≤ 8) × (true ≡ all_to l.j (λ (k : ℕ). sum_fits (ltb k l.projects) (get_or l.sum k 0)))
