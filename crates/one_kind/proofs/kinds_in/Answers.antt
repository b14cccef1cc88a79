-- `one_kind::kinds_in` meets its contract.
-- Assumes nothing.
use Rattle.one_kind.specs.Wanted.Properties.{no_list, whole_list}
use Rattle.one_kind.proofs.kinds_in.Goals as goal

pub returns-then-list-ne0 : goal.returns-then-list-ne0
returns-then-list-ne0 c = search no_list

pub returns : goal.returns
returns c = search whole_list
