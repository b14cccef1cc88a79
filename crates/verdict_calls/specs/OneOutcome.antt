-- Each exported function's contract admits one outcome: the number it answers, and what each lent buffer holds then.
-- Assumes nothing.
use Rattle.std.specs.Prelude.{◌≡◌, List, ℕ}
use Rattle.answer.specs.Outcome.{One, Lent}
use Rattle.answer.specs.Outcome.Properties.{is_one, leaves_one}
use Rattle.verdict_calls.specs.Exports.{Judges, budget_told}
use Rattle.verdict_calls.specs.Exports.{WritesFigures}

-- `parchbeetle_verdict`
pub parchbeetle_verdict_one_outcome : (plan k : List ℕ) → One (λ (o : Lent ℕ). Judges plan k o.result o.buffer)
parchbeetle_verdict_one_outcome plan k = leaves_one _ _

-- `parchbeetle_figures`
pub parchbeetle_figures_one_outcome : (plan : List ℕ) (kind : ℕ) (out : List ℕ) →
    One (λ (o : Lent ℕ). WritesFigures plan kind out o.result o.buffer)
parchbeetle_figures_one_outcome plan kind out = leaves_one _ _

-- `parchbeetle_smallest_budget`
pub parchbeetle_smallest_budget_one_outcome : (plan : List ℕ) (project : ℕ) → One (λ r. r ≡ budget_told plan project)
parchbeetle_smallest_budget_one_outcome plan project = is_one _
