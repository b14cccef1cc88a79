-- `codec::put_number` meets its contract.
-- Assumes nothing.
use Rattle.std.proofs.Math.Path.{◌≡◌}
use Rattle.std.specs.Prelude.{length, drop}
use Prim.Native.Nat.{◌-◌, ◌/◌, ◌^◌}
use Rattle.codec.specs.Bytes.{bytes_of}
use Rattle.codec.proofs.put_number.Given as goal

abbrev pub invariant-loop-i : goal.invariant-loop-i
invariant-loop-i l =
    (l.rest ≡ l.number / 256 ^ (length l.fn.out - l.i)) × (drop l.i l.out ≡ bytes_of (length l.fn.out - l.i) l.number)
