-- `workload::workload` meets its contract.
-- Assumes nothing.
use Rattle.std.proofs.Math.Path.{◌≡◌}
use Rattle.std.specs.Prelude.{length}
use Rattle.std.proofs.Common.{arith, rules}
use Rattle.laws.specs.Sum.Properties.{sum_none}
use Rattle.workload.specs.Workload.Properties.{own_again, foreign_again, other_again, workload_places}
use Rattle.workload.proofs.workload.Goals as goal

pub loop-j-init : goal.loop-j-init
loop-j-init c = (search, sum_none _, omega arith)

pub loop-j-preserved-then-j-kind : goal.loop-j-preserved-then-j-kind
loop-j-preserved-then-j-kind c = (search, search own_again, omega arith)

pub loop-j-preserved-then-other-judged : goal.loop-j-preserved-then-other-judged
loop-j-preserved-then-other-judged c = (search, search foreign_again, omega arith)

pub loop-j-preserved : goal.loop-j-preserved
loop-j-preserved c = (search, search other_again, omega arith)

pub returns : goal.returns
returns c =
    let first = c in
    let places : length first.args.plan.kind ≡ 16 = search rules in
    search workload_places
