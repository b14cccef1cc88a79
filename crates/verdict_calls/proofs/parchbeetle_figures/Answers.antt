-- `verdict_calls::parchbeetle_figures` meets its contract.
-- Assumes nothing.
use Rattle.std.specs.Prelude.{◌≡◌}
use Rattle.answer.specs.Word.{told}
use Rattle.verdict_calls.specs.Exports.{kind_figures_answer}
use Rattle.images.specs.Outcome.Properties.{unfound_outcome}
use Rattle.verdict_calls.specs.Exports.Properties.{figures_refused, figures_short, figures_good}
use Rattle.verdict_calls.proofs.parchbeetle_figures.Goals as goal

pub returns-in-Err : goal.returns-in-Err
unfolding kind_figures_answer
returns-in-Err c = search (unfound_outcome, c.in-Err.ensures)

pub returns-in_default : goal.returns-in_default
returns-in_default c = search (figures_refused, c.in-Ok.ensures)

pub returns-in_default-done : goal.returns-in_default-done
returns-in_default-done c = search (figures_short, c.in-Ok.ensures)

pub returns : goal.returns
returns c =
    let counted : c.told-2.result ≡ told c.put_figures-done.result c.kind_figures-figures.result.widths = cc in
    search (figures_good, c.in-Ok.ensures)
