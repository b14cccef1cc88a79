-- `codec::front` meets its contract.
-- Assumes nothing.
use Rattle.std.proofs.Math.Path.{◌≡◌}
use Prim.Native.Nat.{◌<◌, ◌^◌}
use Rattle.codec.specs.Bytes.{number_to}
use Rattle.codec.proofs.front.Given as goal

abbrev pub invariant-loop-byte : goal.invariant-loop-byte
invariant-loop-byte l = (l.sum ≡ number_to l.byte-index l.bytes) × (l.sum < 256 ^ l.byte-index)
