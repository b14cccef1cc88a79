-- `one_kind::common_divisor` meets its contract.
-- Assumes nothing.
use Rattle.std.proofs.Math.Path.{◌≡◌}
use Rattle.std.specs.Prelude.{◌*◌, ◌≤◌, length, drop}
use Rattle.one_kind.specs.Divisor.{divisor_to}
use Rattle.one_kind.specs.Wanted.{separation_in}
use Rattle.one_kind.proofs.common_divisor.Given as goal

abbrev pub invariant-loop-kind : goal.invariant-loop-kind
invariant-loop-kind l =
    (l.kind-iterator.size ≡ 4) × (l.kind-iterator.rest.now ≡ drop (4 * length l.yielded) l.list) × (4 * length l.yielded ≤ length l.list)
    × (l.common ≡ divisor_to (length l.yielded) (separation_in l.list))
