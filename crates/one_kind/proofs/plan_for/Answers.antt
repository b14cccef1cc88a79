-- `one_kind::plan_for` meets its contract.
-- Assumes nothing.
use Rattle.std.specs.Prelude.{◌≡◌}
use Rattle.std.proofs.Common.{arith, rules, ◌∙◌}
use Rattle.one_kind.specs.Wanted.Properties.{next_left, next_room, separation_there, length_there, kind_listed, none_left}
use Rattle.one_kind.specs.Steps.Properties.{listed_whole, place_room, asked_some, asked_most, asked_length, filled_none, filled_again}
use Rattle.one_kind.specs.Steps.Properties.{plan_is}
use borrow.Author.Rules.{Fits-under}
use Rattle.one_kind.proofs.plan_for.Goals as goal

pub loop-i-init : goal.loop-i-init
loop-i-init c =
    let none = c.empty-plan.ensures in
    let start : c.into_iter-i-iterator.result.count ≡ 0 = search in (
      search,
      rw start (search),
      omega (arith, start),
      rw (start, none) (filled_none c.args.cards c.args.kinds _ _ c.args.frame),
    )

pub rounded_up-budget-requires : goal.rounded_up-budget-requires
rounded_up-budget-requires c =
    let inv = c.loop-i.invariant in
    let steps = c.in-Some.ensures.steps in
    let long = steps.0.1.1 ∙ inv.0 in
    let here = kind_listed _ _ _ inv.1 inv.2 _ _ steps.0.1.0 long _ (listed_whole _ _ _ c.requires.0) in
    let is = c.separation-separation.ensures ∙ separation_there _ _ _ inv.1 inv.2 _ _ steps.0.1.0 long in
    let its = c.unit_length-length.ensures ∙ length_there _ _ _ inv.1 inv.2 _ _ steps.0.1.0 long in (
      asked_some _ _ _ _ c.requires.0.0 _ _ 0 here is,
      asked_most _ _ _ _ c.requires.0.0 _ _ 0 here is,
      asked_length _ _ _ _ c.requires.0.0 _ _ _ here is its,
      search rules,
    )

pub bounds-plan-i : goal.bounds-plan-i
bounds-plan-i c =
    let inv = c.loop-i.invariant in
    let steps = c.in-Some.ensures.steps in
    place_room _ _ _ c.requires.0 _ _ _ _ _ inv.1 inv.2 steps.0.1.0 (steps.0.1.1 ∙ inv.0) steps.1

pub bounds-plan-i-in-loop-i : goal.bounds-plan-i-in-loop-i
bounds-plan-i-in-loop-i c =
    let inv = c.loop-i.invariant in
    let steps = c.in-Some.ensures.steps in
    omega (arith, place_room _ _ _ c.requires.0 _ _ _ _ _ inv.1 inv.2 steps.0.1.0 (steps.0.1.1 ∙ inv.0) steps.1)

pub overflow_cast-plan : goal.overflow_cast-plan
overflow_cast-plan c =
    let inv = c.loop-i.invariant in
    let steps = c.in-Some.ensures.steps in
    Fits-under _ _ 8 (place_room _ _ _ c.requires.0 _ _ _ _ _ inv.1 inv.2 steps.0.1.0 (steps.0.1.1 ∙ inv.0) steps.1) tt

pub loop-i-preserved : goal.loop-i-preserved
loop-i-preserved c =
    let inv = c.loop-i.invariant in
    let steps = c.in-Some.ensures.steps in
    let long = steps.0.1.1 ∙ inv.0 in
    let more = steps.2 in
    let is = c.separation-separation.ensures ∙ separation_there _ _ _ inv.1 inv.2 _ _ steps.0.1.0 long in
    let its = c.unit_length-length.ensures ∙ length_there _ _ _ inv.1 inv.2 _ _ steps.0.1.0 long in (
      steps.0.0 ∙ inv.0,
      next_left _ _ _ inv.1 inv.2 _ _ steps.0.1.0 long _ more,
      next_room _ _ _ inv.1 inv.2 _ _ steps.0.1.0 long _ more,
      rw (steps.1, more)
          (filled_again _ _ _ _ _ _ _ _ _ is its c.requires.1.0 c.rounded_up-budget.ensures _ inv.3),
    )

pub returns : goal.returns
returns c =
    let inv = c.loop-i.invariant in
    let last = c.in-None.ensures.steps in
    let end = none_left _ _ _ inv.1 inv.2 _ (omega (arith, last.0.1.0, inv.0)) (listed_whole _ _ _ c.requires.0) in
    plan_is _ _ _ _ _ _ _ c.requires.1.0 inv.3 end
