-- `one_kind::common_divisor` meets its contract.
-- Assumes nothing.
use Rattle.std.proofs.Common.{arith, ◌∙◌, ap, sym, ℕ}
use Rattle.one_kind.specs.Divisor.{divisor_to}
use Rattle.one_kind.specs.Wanted.{separation_in}
use Rattle.one_kind.specs.Divisor.Properties.{divisor_none, divisor_again}
use Rattle.one_kind.specs.Wanted.Properties.{many_more, next_left, next_room, separation_there}
use Rattle.one_kind.proofs.common_divisor.Goals as goal

pub loop-kind-init : goal.loop-kind-init
loop-kind-init c = (search, search, omega arith, divisor_none _)

pub loop-kind-preserved : goal.loop-kind-preserved
loop-kind-preserved c =
    let inv = c.loop-kind.invariant in
    let steps = c.in-Some.ensures.steps in
    let more = many_more c.loop-kind.yielded c.in-Some.kind in (
      steps.0 ∙ inv.0,
      next_left _ _ _ inv.1 inv.2 _ _ steps.1.0 (steps.1.1 ∙ inv.0) _ more,
      next_room _ _ _ inv.1 inv.2 _ _ steps.1.0 (steps.1.1 ∙ inv.0) _ more,
      divisor_again _ _ _ _ _ inv.3 (c.separation.ensures ∙ separation_there _ _ _ inv.1 inv.2 _ _ steps.1.0 (steps.1.1 ∙ inv.0))
          c.divisor-common.ensures
          ∙ ap (λ (n : ℕ). divisor_to n (separation_in c.args.list.now)) (sym more),
    )
