-- Laws of writing.
-- Assumes nothing.
use Rattle.std.specs.Prelude.{◌≡◌, List, ◌++◌, ℕ, ◌≤◌, ◌<◌, length, drop, ltb}
use Rattle.std.proofs.Common.{sym, ◌∙◌, arith, lt-ltb, le-ltb}
use Rattle.plan.specs.declared.Plan.{Plan}
use Rattle.answer.specs.declared.Answer.{Answer}
use Rattle.answer.specs.declared.Answer.TheVariants.{Good, No}
use Rattle.answer.specs.declared.Refusal.{Refusal}
use Rattle.answer.specs.Answer.{bare, refuse}
use Rattle.answer.specs.Answer.Properties.{opened_no, opened_on}
use Rattle.plan.specs.Order.{checked}
use Rattle.plan_bytes.specs.Parts.{encoded, size}
use Rattle.plan_bytes.specs.Writing.{write_answer, Writes}

-- a refusal: no byte is counted, and none is written
refused_writes : (p : Plan) (out : List ℕ) (a : Answer) (w : Refusal) → a ≡ No w → a ≡ write_answer p out
    → Writes p out (record { answer = a; count = 0 }) out
refused_writes p out a w e q =
    let z : write_answer p out ≡ No w = sym q ∙ e in
    record { result = rw (e, z); buffer = rw z }

pub write_unchecked : (p : Plan) (out : List ℕ) (a : Answer) (w : Refusal) → a ≡ No w → a ≡ checked p
    → Writes p out (record { answer = a; count = 0 }) out
unfolding write_answer
write_unchecked p out a w e q = refused_writes p out a w e (opened_no a (checked p) (refuse (ltb (length out) (size p)) (bare 9)) w e q)

pub write_short : (p : Plan) (out : List ℕ) (a x : Answer) (n : ℕ) → a ≡ Good → a ≡ checked p → x ≡ bare 9 → n ≡ size p → length out < n
    → Writes p out (record { answer = x; count = 0 }) out
unfolding write_answer
write_short p out a x n e q b s l =
    refused_writes p out x _ b
    (opened_on a (checked p) (refuse (ltb (length out) (size p)) (bare 9)) x e q (rw (lt-ltb (length out) (size p) (omega arith)) b))

pub write_good : (p : Plan) (out after : List ℕ) (a : Answer) (n : ℕ) → a ≡ Good → a ≡ checked p → n ≡ size p → n ≤ length out
    → after ≡ encoded p ++ drop (size p) out → Writes p out (record { answer = Good; count = n }) after
unfolding write_answer
write_good p out after a n e q s l f =
    let z : Good ≡ write_answer p out =
    opened_on a (checked p) (refuse (ltb (length out) (size p)) (bare 9)) Good e q (rw (le-ltb (length out) (size p) (omega arith))) in
    record { result = rw (← z, s); buffer = rw (← z) f }
