-- `player::run::run` meets its contract.
-- Assumes nothing.
use Rattle.std.specs.Prelude.{refl}
use Rattle.std.proofs.Common.{arith}
use Rattle.player.specs.Session.Properties.{run_done, run_full, run_ended, run_waiting, run_slice, run_release}
use Rattle.player.specs.Session.Properties.{run_bad}
use Rattle.player.proofs.run.run.Goals as goal
use Rattle.player.proofs.run.run.Goals.{in-Slice, in-Release}

pub returns-then-out-count-lt-ROOM : goal.returns-then-out-count-lt-ROOM
returns-then-out-count-lt-ROOM c = run_full _ _ _ _ _ _ _ _ _ c.loop-played.invariant _ refl c.if-out-count-lt-ROOM.true

pub returns-then-is_end : goal.returns-then-is_end
returns-then-is_end c =
    run_ended _ _ _ _ _ _ _ _ _ c.loop-played.invariant _ c.is_end.ensures c.if-is_end.true c.if-out-count-lt-ROOM.false (omega arith)
    _ _ _ (rw c.from.ensures at c.put.ensures) _ refl

pub returns-then-is_short : goal.returns-then-is_short
returns-then-is_short c = run_waiting _ _ _ _ _ _ _ _ _ c.loop-played.invariant _ c.is_short.ensures c.if-is_short.true _ refl

pub returns : goal.returns
returns c = run_done _ _ _ _ _ _ _ _ _ c.loop-played.invariant _ refl (omega arith)

pub returns-in_default : goal.returns-in_default
returns-in_default c =
    run_bad _ _ _ _ _ _ _ _ _ c.loop-played.invariant _ c.decode.ensures _ _ c.is_end.ensures c.if-is_end.false c.is_short.ensures
    c.if-is_short.false c.if-out-count-lt-ROOM.false (omega arith) _ _ c.in_default.is _
    (rw c.from-in_default.ensures at c.put-in_default.ensures) _ refl

pub loop-played-preserved : goal.loop-played-preserved
loop-played-preserved c =
    elim c.match-command.branch [
      | in-Slice w ↦ rw (w.out-is, w.state-is, w.count-is) (run_slice _ _ _ _ _ _ _ _ _ c.loop-played.invariant _ c.decode.ensures _ _
          c.is_end.ensures c.if-is_end.false c.is_short.ensures c.if-is_short.false c.if-out-count-lt-ROOM.false (omega arith) _ _ _
          c.in-Some.is w.in-Slice.is _ _ w.show-shown.ensures _ w.advance.ensures _ w.from-in-Slice.ensures w.put-count.ensures _
          (omega arith))
      | in-Release w ↦ rw (w.out-is, w.state-is, w.count-is) (run_release _ _ _ _ _ _ _ _ _ c.loop-played.invariant _ c.decode.ensures _ _
          c.is_end.ensures c.if-is_end.false c.is_short.ensures c.if-is_short.false c.if-out-count-lt-ROOM.false (omega arith) _ _ _
          c.in-Some.is _ _ w.in-Release.is _ _ w.from-in-Release.ensures w.from-in-Release-2.ensures _ w.release-next.ensures _
          w.put-count-in-Release.ensures _ (omega arith))
    ]
