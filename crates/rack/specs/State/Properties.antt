-- Laws of what a call hands back.
-- Assumes nothing.
use Rattle.std.specs.Prelude.{◌≡◌}
use Rattle.std.proofs.Common.{ap, ◌∙◌}
use Rattle.plan.specs.declared.Plan.{Plan}
use Rattle.answer.specs.declared.Answer.{Answer}
use Rattle.answer.specs.declared.Answer.TheVariants.{Good, No}
use Rattle.answer.specs.declared.Refusal.{Refusal}
use Rattle.plan.specs.Record.{no_plan}
use Rattle.rack.specs.declared.State.{State}
use Rattle.rack.specs.declared.Next.{Next}
use Rattle.rack.specs.State.{fresh_of, no_state, next_of}

-- "an all-zero state"
pub fresh_empty : (s : State) (p : Plan) → s ≡ fresh_of p → p ≡ no_plan → s ≡ no_state
fresh_empty s p e q = e ∙ ap (λ (x : Plan). fresh_of x) q

-- ---- a call's exits: r is what its tests answered, and a what they should

pub next_kept : (r a : Answer) (w : Refusal) (new old : State) → r ≡ No w → r ≡ a →
    ◌≡◌ {A = Next} (record { answer = r; state = old }) (next_of a new old)
next_kept r a w new old e q = rw (← q, e)

pub next_moved : (r a : Answer) (x new old : State) → r ≡ Good → r ≡ a → x ≡ new →
    ◌≡◌ {A = Next} (record { answer = r; state = x }) (next_of a new old)
next_moved r a x new old e q p = rw (← q, e, p)

-- ---- a refusal changes nothing

pub refused_keeps : (a : Answer) (w : Refusal) (new old : State) → (next_of a new old).answer ≡ No w → (next_of a new old).state ≡ old
refused_keeps a w new old e = rw e

pub good_moves : (a : Answer) (new old : State) → (next_of a new old).answer ≡ Good → (next_of a new old).state ≡ new
good_moves a new old e = rw e
