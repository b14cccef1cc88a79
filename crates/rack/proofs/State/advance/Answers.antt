-- `rack::State::advance` meets its contract.
-- Assumes nothing.
use Rattle.std.specs.Prelude.{refl}
use Rattle.std.proofs.Common.{arith, sym}
use Rattle.rack.specs.State.Properties.{next_kept, next_moved}
use Rattle.rack.specs.Form.Properties.{places_most, ready_says}
use Rattle.rack.specs.Advance.{advance_of}
use Rattle.rack.proofs.Laws.Found.{found_no, found_ok, answered_ready, answered_no}
use Rattle.rack.proofs.Laws.Advance.{ran_none, ran_project, ran_same, ran_sum, ran_one, laid_slice, ran_all}
use Rattle.rack.proofs.State.advance.Goals as goal

pub returns-in_default : goal.returns-in_default
unfolding advance_of
returns-in_default c =
    next_kept _ _ _ _ _ (answered_no _ _ _ c.in_default.is (search))
    (answered_ready _ _ _ _ c.in_default.is (search) (found_no _ _ _ c.check-checked.ensures c.in_default.is))

pub seats-seat-requires : goal.seats-seat-requires
seats-seat-requires c =
    let found = found_ok _ _ _ c.check-checked.ensures c.in-Ok.is in
    (ready_says _ found.0, found.1)

pub loop-i-init : goal.loop-i-init
loop-i-init c =
    let ready = ready_says _ (found_ok _ _ _ c.check-checked.ensures c.in-Ok.is).0 in (
      omega arith,
      places_most _ _ ready c.from-i-end.ensures,
      record {
        ready = ready;
        seats = search;
        places =
            c.from-i-end.ensures;
      },
      ran_none _,
    )

pub loop-i-preserved-then-number-eq0 : goal.loop-i-preserved-then-number-eq0
loop-i-preserved-then-number-eq0 c =
    let inv = c.loop-i.invariant in
    (omega arith, search, search, ran_same _ _ _ inv.2 c.loop-i.i (search) _ _ inv.3 _ _ refl (search) (search))

pub bounds-sum-from : goal.bounds-sum-from
bounds-sum-from c = rw c.from.ensures (search ran_project)

pub overflow_sub-sum : goal.overflow_sub-sum
overflow_sub-sum c =
    let inv = c.loop-i.invariant in
    ran_sum _ _ _ inv.2 c.loop-i.i (search) _ _ inv.3 (search) c.from.result c.from.ensures

pub loop-i-preserved : goal.loop-i-preserved
loop-i-preserved c =
    let inv = c.loop-i.invariant in
    (omega arith, search, search, ran_one _ _ _ inv.2 c.loop-i.i (search) _ _ inv.3 (search) c.from.result c.from.ensures _ _ refl (search))

pub slice_after-requires : goal.slice_after-requires
slice_after-requires c = search laid_slice

pub returns : goal.returns
unfolding advance_of
returns c = next_moved _ _ _ _ _ refl (sym (found_ok _ _ _ c.check-checked.ensures c.in-Ok.is).0) (search ran_all)
