-- Each public operation's contract admits one outcome.
-- Assumes nothing.
use Rattle.std.specs.Prelude.{◌≡◌, ℕ}
use Rattle.answer.specs.Outcome.{One}
use Rattle.answer.specs.Outcome.Properties.{is_one}
use Rattle.plan.specs.declared.Plan.{Plan}
use Rattle.verdict.specs.Verdict.{judged}
use Rattle.verdict.specs.Figures.{figures_of}

-- `judge`
pub judge_one_outcome : (plan : Plan) → One (λ r. r ≡ judged plan)
judge_one_outcome plan = is_one _

-- `kind_figures`
pub kind_figures_one_outcome : (plan : Plan) (kind : ℕ) → One (λ r. r ≡ figures_of plan kind)
kind_figures_one_outcome plan kind = is_one _
