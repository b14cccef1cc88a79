-- `verdict::all_cards` meets its contract.
-- Assumes nothing.
use Rattle.std.proofs.Common.{sym, rules}
use Rattle.laws.specs.Written.Properties.{written_none}
use Rattle.layout.proofs.Laws.Layout.{first_start}
use Rattle.verdict.specs.Steps.Properties.{first_room, budget_room, first_fits, first_again, cards_again, cards_stop}
use Rattle.verdict.proofs.all_cards.Goals as goal

pub loop-j-init : goal.loop-j-init
loop-j-init c = (sym (first_start _), written_none _ _)

pub run_cards-requires : goal.run_cards-requires
run_cards-requires c = (search rules, search rules, search first_room, search budget_room)

pub overflow_add-first : goal.overflow_add-first
overflow_add-first c = record { fits = search first_fits }

pub loop-j-preserved : goal.loop-j-preserved
loop-j-preserved c = (search first_again, search cards_again)

pub returns : goal.returns
returns c = cards_stop _ _ _ c.args.ordered.in_order (search rules) c.loop-j.invariant.1 c.loop-j.auto.j-end c.loop-j-test.false
