-- `image_reader::plan_of` meets its contract.
-- Assumes nothing.
use Rattle.std.specs.Prelude.{Err}
use Rattle.std.proofs.Common.{ap, ◌∙◌, arith}
use Rattle.answer.specs.Answer.Properties.{no_is}
use Rattle.images.specs.Image.{plan_size}
use Rattle.images.specs.Lent.Properties.{plan_short, plan_good}
use Rattle.image_reader.proofs.Front.{plan_front}
use Rattle.image_reader.proofs.plan_of.Goals as goal

pub returns-in_default : goal.returns-in_default
returns-in_default c = ap Err (no_is _ _ c.bare.ensures) ∙ plan_short _ c.in_default.ensures.cases

pub returns : goal.returns
returns c =
    let f = c.in-Some.ensures.cases in
    plan_good _ _ f.enough (c.plan_from.ensures ∙ plan_front plan_size _ _ f (omega arith))
