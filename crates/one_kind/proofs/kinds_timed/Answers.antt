-- `one_kind::kinds_timed` meets its contract.
-- Assumes nothing.
use Rattle.std.specs.Prelude.{◌≡◌}
use Rattle.std.proofs.Common.{arith, ◌∙◌, ap, sym, ℕ}
use Rattle.answer.specs.Answer.{at_kind, each_to}
use Rattle.answer.specs.Answer.Properties.{each_none}
use Rattle.one_kind.specs.Wanted.{separation_in, length_in}
use Rattle.one_kind.specs.Built.{kind_timed, kinds_timed}
use Rattle.one_kind.specs.Built.Properties.{six_here, six_again}
use Rattle.one_kind.specs.Wanted.Properties.{next_left, next_room, separation_there, length_there, kind_listed, none_left}
use Rattle.one_kind.proofs.kinds_timed.Goals as goal

pub loop-i-init : goal.loop-i-init
loop-i-init c =
    let start : c.into_iter-i-iterator.result.count ≡ 0 = search in
    (search, rw start (search), omega (arith, start), rw start (each_none _))

pub returns-then-not-timed_alone : goal.returns-then-not-timed_alone
returns-then-not-timed_alone c =
    let inv = c.loop-i.invariant in
    let steps = c.in-Some.ensures.steps in
    let long = steps.0.1.1 ∙ inv.0 in
    let list = c.args.list.now in
    six_here (separation_in list) (length_in list) _ _ _ _ (c.separation.ensures ∙ separation_there _ _ _ inv.1 inv.2 _ _ steps.0.1.0 long)
    (c.unit_length.ensures ∙ length_there _ _ _ inv.1 inv.2 _ _ steps.0.1.0 long) c.timed_alone.ensures
    _ _ inv.3 (search) (c.at_kind.ensures ∙ ap (at_kind 6) steps.1) (kind_listed _ _ _ inv.1 inv.2 _ _ steps.0.1.0 long _ c.requires.0)

pub loop-i-preserved : goal.loop-i-preserved
loop-i-preserved c =
    let inv = c.loop-i.invariant in
    let steps = c.in-Some.ensures.steps in
    let long = steps.0.1.1 ∙ inv.0 in
    let more = steps.2 in
    let list = c.args.list.now in (
      steps.0.0 ∙ inv.0,
      next_left _ _ _ inv.1 inv.2 _ _ steps.0.1.0 long _ more,
      next_room _ _ _ inv.1 inv.2 _ _ steps.0.1.0 long _ more,
      six_again (separation_in list) (length_in list) _ _ _ _
          (c.separation.ensures ∙ separation_there _ _ _ inv.1 inv.2 _ _ steps.0.1.0 long)
          (c.unit_length.ensures ∙ length_there _ _ _ inv.1 inv.2 _ _ steps.0.1.0 long) c.timed_alone.ensures inv.3 (search)
          ∙ ap (λ (n : ℕ). each_to n (kind_timed (separation_in list) (length_in list))) (sym more),
    )

pub returns : goal.returns
unfolding kinds_timed
returns c =
    let inv = c.loop-i.invariant in
    let last = c.in-None.ensures.steps in
    let list = c.args.list.now in
    inv.3
    ∙ ap (λ (n : ℕ). each_to n (kind_timed (separation_in list) (length_in list)))
    (none_left _ _ _ inv.1 inv.2 _ (omega (arith, last.0.1.0, inv.0)) c.requires.0)
