-- `verdict_calls::parchbeetle_verdict` meets its contract.
-- Assumes nothing.
use Rattle.verdict_calls.specs.Exports.{verdict_answer}
use Rattle.images.specs.Outcome.Properties.{unfound_outcome}
use Rattle.verdict_calls.specs.Exports.Properties.{judge_refused, judge_short, judge_good}
use Rattle.verdict_calls.proofs.parchbeetle_verdict.Goals as goal

pub returns-in-Err : goal.returns-in-Err
unfolding verdict_answer
returns-in-Err c = search (unfound_outcome, c.in-Err.ensures)

pub returns-in_default : goal.returns-in_default
returns-in_default c = search (judge_refused, c.in-Ok.ensures)

pub returns-then-k-lt-VERDICT : goal.returns-then-k-lt-VERDICT
returns-then-k-lt-VERDICT c = search (judge_short, c.in-Ok.ensures)

pub returns : goal.returns
returns c = search (judge_good, c.in-Ok.ensures)
