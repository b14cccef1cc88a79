-- `one_kind::counts` meets its contract.
-- Assumes nothing.
use Rattle.one_kind.specs.Built.Properties.{seventeen, eighteen, counted}
use Rattle.one_kind.proofs.counts.Goals as goal

pub returns-then-not-offered : goal.returns-then-not-offered
returns-then-not-offered c = search seventeen

pub returns-then-kinds-gt-PROJECTS : goal.returns-then-kinds-gt-PROJECTS
returns-then-kinds-gt-PROJECTS c = search eighteen

pub returns : goal.returns
returns c = search counted
