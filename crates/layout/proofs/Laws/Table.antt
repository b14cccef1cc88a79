-- Laws of the slot table: each way out of the code, and what the table holds.
-- Assumes nothing.
use Rattle.std.specs.Prelude.{◌≡◌, List, ℕ, ◌+◌, ◌*◌, ◌≤◌, ◌<◌, length, get_or}
use Rattle.std.proofs.Common.{arith, lt-ltb, le-ltb}
use Rattle.laws.specs.Written.Properties.{written_at, written_kept}
use Rattle.plan.specs.declared.Plan.{Plan}
use Rattle.answer.specs.declared.Answer.{Answer}
use Rattle.answer.specs.Answer.{bare}
use Rattle.answer.specs.declared.Answer.TheVariants.{Good, No}
use Rattle.answer.specs.declared.Refusal.{Refusal}
use Rattle.plan.specs.Order.{checked}
use Rattle.plan.specs.Order.Properties.{check_opened}
use Rattle.layout.specs.Cards.Properties.{card_cells}
use Rattle.layout.specs.Layout.{cell_at, slot_of}
use Rattle.layout.proofs.Laws.Layout.{cells_most}
use Rattle.layout.specs.Table.{table_length, table_over, table_answer, Tabled}

-- ---- the ways out. a is what the record check answered

pub table_refused : (p : Plan) (out : List ℕ) (a : Answer) (w : Refusal) → a ≡ No w → a ≡ checked p →
    Tabled p out (record { answer = a; count = 0 }) out
unfolding table_answer
table_refused p out a w e q = record { result = rw (← q, e); buffer = rw (← q, e) }

pub table_short : (p : Plan) (out : List ℕ) (a x : Answer) → a ≡ Good → a ≡ checked p → x ≡ bare 9 →
    length out < p.cards * p.frame → Tabled p out (record { answer = x; count = 0 }) out
unfolding table_answer table_length
table_short p out a x e q b l =
    let t = lt-ltb (length out) (p.cards * p.frame) l in
    record { result = rw (← q, e, t, b); buffer = rw (← q, e, t) }

pub table_good : (p : Plan) (out after : List ℕ) (a : Answer) → a ≡ Good → a ≡ checked p → p.cards * p.frame ≤ length out →
    after ≡ table_over p out → Tabled p out (record { answer = Good; count = p.cards * p.frame }) after
unfolding table_answer table_length
table_good p out after a e q l f =
    let t = le-ltb (length out) (p.cards * p.frame) l in
    record { result = rw (← q, e, t); buffer = rw (← q, e, t) f }

pub ruleset table_ways = (table_refused, table_short, table_good)

-- what the check's good answer gives to the code after it

pub opened_cells : (p : Plan) (a : Answer) → a ≡ Good → a ≡ checked p → p.cards * p.frame < 513
opened_cells p a e q = omega (arith, cells_most p (check_opened p a e q))

pub opened_room : (p : Plan) (n : ℕ) → p.cards * p.frame ≤ n → table_length p ≤ n
unfolding table_length
opened_room p n l = l

-- ---- what a good table holds

-- a card's byte at a slice is the slot of its cell
pub table_slot : (p : Plan) (bytes : List ℕ) (card slice : ℕ) → table_length p ≤ length bytes → card < p.cards → slice < p.frame →
    get_or (table_over p bytes) (cell_at p.frame card slice) 0 ≡ slot_of p (cell_at p.frame card slice)
unfolding table_over table_length cell_at
table_slot p bytes card slice l a b =
    written_at (p.cards * p.frame) (slot_of p) bytes 0 (card * p.frame + slice) (omega (arith, card_cells p.frame card p.cards a)) l

-- "bytes past those needed keep their value"
pub table_kept : (p : Plan) (bytes : List ℕ) (x : ℕ) → table_length p ≤ x → get_or (table_over p bytes) x 0 ≡ get_or bytes x 0
unfolding table_over
table_kept p bytes x l = written_kept (table_length p) (slot_of p) bytes 0 x l
