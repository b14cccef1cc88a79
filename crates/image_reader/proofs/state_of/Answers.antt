-- `image_reader::state_of` meets its contract.
-- Assumes nothing.
use Rattle.std.specs.Prelude.{Err}
use Rattle.std.proofs.Common.{sym, ap, ◌∙◌, arith, rules}
use Rattle.answer.specs.Answer.Properties.{no_is}
use Rattle.images.specs.Image.{state_size}
use Rattle.images.specs.Lent.Properties.{state_short, state_untold, state_good, plan_is}
use Rattle.image_reader.proofs.Front.{found_front, state_front, told_front, plan_unfound}
use Rattle.image_reader.proofs.state_of.Goals as goal

pub returns-in_err-plan : goal.returns-in_err-plan
returns-in_err-plan c =
    let e = sym c.in_err-plan.was ∙ c.plan_of.ensures ∙ found_front state_size _ _ c.in-Some.ensures.cases (omega arith) in
    search (rules, plan_unfound)

pub returns-in_default : goal.returns-in_default
returns-in_default c = ap Err (no_is _ _ c.bare.ensures) ∙ state_short _ c.in_default.ensures.cases

pub returns-then-not-released_told : goal.returns-then-not-released_told
returns-then-not-released_told c =
    let f = c.in-Some.ensures.cases in
    let p = plan_is _ _ (sym c.in_ok-plan.was ∙ c.plan_of.ensures ∙ found_front state_size _ _ f (omega arith)) in
    let t = c.released_told.ensures ∙ told_front state_size _ _ f (omega arith) in
    state_untold _ _ _ _ f.enough t (search) p c.no_state.ensures

pub state_from-requires : goal.state_from-requires
state_from-requires c = plan_is _ _ (sym c.in_ok-plan.was ∙ c.plan_of.ensures)

pub returns : goal.returns
returns c =
    let f = c.in-Some.ensures.cases in
    let t = c.released_told.ensures ∙ told_front state_size _ _ f (omega arith) in
    state_good _ _ _ f.enough t (search) (c.state_from.ensures ∙ state_front state_size _ _ f (omega arith))
