-- `one_kind::plan_for` meets its contract.
-- Assumes nothing.
use Rattle.std.proofs.Math.Path.{◌≡◌}
use Rattle.std.specs.Prelude.{◌*◌, ◌≤◌, length, drop}
use Rattle.one_kind.specs.Wanted.{separation_in, length_in}
use Rattle.one_kind.specs.Steps.Properties.{filled}
use Rattle.one_kind.proofs.plan_for.Given as goal

abbrev pub invariant-loop-i : goal.invariant-loop-i
invariant-loop-i l =
    (l.i-iterator.iter.size ≡ 4) × (l.i-iterator.iter.rest.now ≡ drop (4 * l.i-iterator.count) l.list)
    × (4 * l.i-iterator.count ≤ length l.list)
    × (l.plan ≡ filled l.cards l.kinds (separation_in l.list) (length_in l.list) l.frame l.i-iterator.count)
