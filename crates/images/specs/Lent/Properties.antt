-- Laws of lent buffers: one for each way that an operation leaves, and what a caller that goes on knows.
-- Assumes nothing.
use Rattle.std.specs.Prelude.{◌≡◌, Ok, Err, Bool, true, false, not, cond, List, ◌++◌, ℕ, ◌≤◌, ◌<◌, length, drop}
use Rattle.std.proofs.Common.{sym, ◌∙◌, lt-ltb, le-ltb}
use Rattle.std.proofs.lemmas.Bool.{not-true, not-false}
use Rattle.plan.specs.declared.Plan.{Plan}
use Rattle.answer.specs.declared.Answer.{Answer}
use Rattle.answer.specs.declared.Answer.TheVariants.{Good, No}
use Rattle.answer.specs.declared.Refusal.{Refusal}
use Rattle.answer.specs.declared.Refusal.TheVariants.{Bare}
use Rattle.answer.specs.Answer.{bare, ◌and_then◌}
use Rattle.answer.specs.Answer.Properties.{and_then_left, stage_on, value_good, value_is, value_no}
use Rattle.plan.specs.Order.{checked}
use Rattle.rack.specs.declared.State.{State}
use Rattle.images.specs.Image.{plan_size, state_size, plan_from, state_from, released_told, running_over}
use Rattle.images.specs.Lent.{room, plan_found, found_answer, state_found, Stores, StoresRunning}

-- ---- a buffer against what is needed

pub short_room : (s : List ℕ) (n : ℕ) (x : Answer) → x ≡ bare 9 → length s < n → x ≡ room s n
short_room s n x b l = rw (lt-ltb (length s) n l) b

pub long_room : (s : List ℕ) (n : ℕ) → n ≤ length s → Good ≡ room s n
long_room s n l = rw (le-ltb (length s) n l)

-- ---- a plan found

pub plan_short : (s : List ℕ) → length s < plan_size → Err (Bare 9) ≡ plan_found s
unfolding plan_found
plan_short s l = rw (lt-ltb (length s) plan_size l)

pub plan_good : (s : List ℕ) (p : Plan) → plan_size ≤ length s → p ≡ plan_from s → Ok p ≡ plan_found s
unfolding plan_found
plan_good s p l e = rw (le-ltb (length s) plan_size l, e)

pub plan_room : (s : List ℕ) (p : Plan) → Ok p ≡ plan_found s → room s plan_size ≡ Good
unfolding plan_found
plan_room s p e = value_good (room s plan_size) (plan_from s) p e

pub plan_is : (s : List ℕ) (p : Plan) → Ok p ≡ plan_found s → p ≡ plan_from s
unfolding plan_found
plan_is s p e = value_is (room s plan_size) (plan_from s) p e

-- an order that begins with it, opened
pub plan_no : (s : List ℕ) (b : Answer) (w : Refusal) → Err w ≡ plan_found s → No w ≡ (room s plan_size and_then b)
unfolding plan_found
plan_no s b w e = rw (value_no (room s plan_size) (plan_from s) w e)

pub plan_on : (s : List ℕ) (p : Plan) (b x : Answer) → Ok p ≡ plan_found s → x ≡ b → x ≡ (room s plan_size and_then b)
plan_on s p b x e h = stage_on (room s plan_size) b x (sym (plan_room s p e)) h

-- ---- a state found

pub state_short : (s : List ℕ) → length s < state_size → Err (Bare 9) ≡ state_found s
unfolding state_found found_answer
state_short s l = rw (lt-ltb (length s) state_size l)

pub state_untold : (s : List ℕ) (told : Bool) (p : Plan) (w : Refusal) → state_size ≤ length s → told ≡ released_told s
    → not told ≡ true → p ≡ plan_from s → No w ≡ (checked p and_then bare 10) → Err w ≡ state_found s
unfolding state_found found_answer
state_untold s told p w l h t e f =
    let a : found_answer s ≡ No w = rw (le-ltb (length s) state_size l, sym h ∙ not-true told t, ← e) (sym f) in
    rw a

pub state_good : (s : List ℕ) (told : Bool) (v : State) →
    state_size ≤ length s →
    told ≡ released_told s →
    not told ≡ false →
    v ≡ state_from s →
    Ok v ≡ state_found s
unfolding state_found found_answer
state_good s told v l h t e = rw (le-ltb (length s) state_size l, sym h ∙ not-false told t, e)

found_good : (s : List ℕ) (v : State) → Ok v ≡ state_found s → found_answer s ≡ Good
unfolding state_found
found_good s v e = value_good (found_answer s) (state_from s) v e

pub state_room : (s : List ℕ) (v : State) → Ok v ≡ state_found s → room s state_size ≡ Good
unfolding found_answer
state_room s v e =
    and_then_left (room s state_size) (cond (released_told s) Good (checked (plan_from s) and_then bare 10)) (found_good s v e)

pub state_is : (s : List ℕ) (v : State) → Ok v ≡ state_found s → v ≡ state_from s
unfolding state_found
state_is s v e = value_is (found_answer s) (state_from s) v e

-- an order that begins with it, opened
pub state_no : (s : List ℕ) (b : Answer) (w : Refusal) → Err w ≡ state_found s → No w ≡ (found_answer s and_then b)
unfolding state_found
state_no s b w e = rw (value_no (found_answer s) (state_from s) w e)

pub state_on : (s : List ℕ) (v : State) (b x : Answer) → Ok v ≡ state_found s → x ≡ b → x ≡ (found_answer s and_then b)
state_on s v b x e h = stage_on (found_answer s) b x (sym (found_good s v e)) h

-- ---- an image stored

pub stores_short : (image : List ℕ) (n : ℕ) (s : List ℕ) (x : Answer) → x ≡ bare 9 → length s < n → Stores image n s x s
stores_short image n s x b l = record { result = short_room s n x b l; buffer = rw (lt-ltb (length s) n l) }

pub stores_good : (image : List ℕ) (n : ℕ) (s after : List ℕ) → n ≤ length s → after ≡ image ++ drop n s → Stores image n s Good after
stores_good image n s after l e = record { result = long_room s n l; buffer = rw (le-ltb (length s) n l) e }

-- ---- what follows the plan stored

pub running_short : (v : State) (s : List ℕ) (x : Answer) → x ≡ bare 9 → length s < state_size → StoresRunning v s x s
running_short v s x b l = record { result = short_room s state_size x b l; buffer = rw (lt-ltb (length s) state_size l) }

pub running_good : (v : State) (s after : List ℕ) → state_size ≤ length s → after ≡ running_over v s → StoresRunning v s Good after
running_good v s after l e = record { result = long_room s state_size l; buffer = rw (le-ltb (length s) state_size l) e }
