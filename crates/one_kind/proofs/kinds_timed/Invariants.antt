-- `one_kind::kinds_timed` meets its contract.
-- Assumes nothing.
use Rattle.std.proofs.Math.Path.{◌≡◌}
use Rattle.std.specs.Prelude.{◌*◌, ◌≤◌, length, drop}
use Rattle.answer.specs.declared.Answer.TheVariants.{Good}
use Rattle.answer.specs.Answer.{each_to}
use Rattle.one_kind.specs.Wanted.{separation_in, length_in}
use Rattle.one_kind.specs.Built.{kind_timed}
use Rattle.one_kind.proofs.kinds_timed.Given as goal

abbrev pub invariant-loop-i : goal.invariant-loop-i
invariant-loop-i l =
    (l.i-iterator.iter.size ≡ 4) × (l.i-iterator.iter.rest.now ≡ drop (4 * l.i-iterator.count) l.list)
    × (4 * l.i-iterator.count ≤ length l.list)
    × (Good ≡ each_to l.i-iterator.count (kind_timed (separation_in l.list) (length_in l.list)))
