-- `answer::Answer::told` meets its contract.
-- Assumes nothing.
use Rattle.std.proofs.Common.{rules}
use Rattle.answer.specs.Word.{told}
use Rattle.answer.proofs.Answer.told.Goals as goal

pub returns : goal.returns
unfolding told
returns c = search rules
