-- `rack::form::sums_fit` meets its contract.
-- Assumes nothing.
use Rattle.std.proofs.Common.{arith}
use Rattle.laws.specs.All.Properties.{all_none, all_more, all_stop, all_fails}
use Rattle.laws.specs.Tests.{told_no, told_yes}
use Rattle.rack.specs.Form.{sums_fit}
use Rattle.rack.proofs.form.sums_fit.Goals as goal

pub loop-j-init : goal.loop-j-init
loop-j-init c = (omega arith, all_none _)

pub returns-then-not-sum_fits : goal.returns-then-not-sum_fits
unfolding sums_fit
returns-then-not-sum_fits c = search (all_fails, told_no)

pub loop-j-preserved : goal.loop-j-preserved
loop-j-preserved c = (omega arith, all_more _ _ (search) (search told_yes))

pub returns : goal.returns
unfolding sums_fit
returns c = search all_stop
