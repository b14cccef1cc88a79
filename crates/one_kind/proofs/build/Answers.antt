-- `one_kind::build` meets its contract.
-- Assumes nothing.
use Rattle.one_kind.specs.Wanted.{separation_in, length_in}
use Rattle.one_kind.specs.Built.{InLimits}
use Rattle.one_kind.specs.Built.Properties.{cards_fit, kinds_fit}
use Rattle.one_kind.specs.Steps.Properties.{listed, listed_most, timed_all, counts_refused, kinds_refused, in_limits, built_on}
use Rattle.one_kind.proofs.build.Goals as goal

pub returns-in_default : goal.returns-in_default
returns-in_default c = search counts_refused

pub overflow_cast-kinds : goal.overflow_cast-kinds
overflow_cast-kinds c = search kinds_fit

pub kinds_timed-timed-requires : goal.kinds_timed-timed-requires
kinds_timed-timed-requires c = (search listed, search listed_most)

pub returns-in_default-timed : goal.returns-in_default-timed
returns-in_default-timed c = search (kinds_refused, timed_all)

pub overflow_cast-cards : goal.overflow_cast-cards
overflow_cast-cards c = search cards_fit

pub finished-requires : goal.finished-requires
finished-requires c =
    let list = c.args.list.now in
    let n = c.kinds_in-kinds.result in
    let o : InLimits c.args.cards n (separation_in list) (length_in list) = search (in_limits, timed_all) in
    (o, search)

pub returns : goal.returns
returns c = search (built_on, timed_all)
