-- `rescue::rescue` meets its contract.
-- Assumes nothing.
use Rattle.std.specs.Prelude.{List, ◌++◌, ℕ, drop}
use Rattle.std.proofs.Common.{ap}
use Rattle.rescue.specs.Rescue.Properties.{counts_refused, standing_projects, standing_kinds, standing_size, no_kind_left}
use Rattle.rescue.specs.Rescue.Properties.{list_short, list_written}
use Rattle.rescue.proofs.rescue.Goals as goal

pub returns-in_default : goal.returns-in_default
returns-in_default c = search counts_refused

pub plan_for-plan-requires : goal.plan_for-plan-requires
plan_for-plan-requires c = (search standing_projects, search standing_kinds)

pub returns-then-plan-eq0 : goal.returns-then-plan-eq0
returns-then-plan-eq0 c = search no_kind_left

pub changes-notes-requires : goal.changes-notes-requires
changes-notes-requires c = (search standing_projects, search standing_kinds, search standing_size)

pub returns-then-list-count : goal.returns-then-list-count
returns-then-list-count c = search list_short

pub returns : goal.returns
returns c =
    let n = c.changes-notes in
    let e = ap (λ (t : List ℕ). t ++ drop n.result.count c.args.list.now) c.copy_from_slice.ensures.after in
    list_written _ _ _ c.standing-standing.ensures c.in-Good.is _ c.plan_for-plan.ensures c.if-plan-eq0.false _ _ _ n.ensures.0 _
    n.ensures.1 e
    c.if-list-count.false
