-- `codec::front` meets its contract.
-- Assumes nothing.
use Prim.Native.Nat.{◌<◌, ◌^◌}
use Rattle.std.proofs.Common.{arith}
use Rattle.codec.specs.Bytes.Properties.{number_none, number_again, number_more, number_room}
use Rattle.codec.proofs.front.Goals as goal

pub loop-byte-init : goal.loop-byte-init
loop-byte-init c = (number_none _, omega arith)

pub overflow_mul-sum : goal.overflow_mul-sum
overflow_mul-sum c =
    let l = c.loop-byte in
    let h : l.sum < 256 ^ 7 = number_room l.sum l.byte-index 7 (search) (omega arith) in
    omega arith

pub loop-byte-preserved : goal.loop-byte-preserved
loop-byte-preserved c =
    let l = c.loop-byte in
    (search number_again, number_more l.sum l.byte-index c.from.result (search) (omega arith))
