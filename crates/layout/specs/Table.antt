-- Document 01, "Layout" and "Numbers given back when we say no": what writing the slot table answers and leaves behind.
-- Assumes nothing.
use Rattle.std.specs.Prelude.{ℕ, ◌*◌, List, ltb, length}
use Rattle.laws.specs.Written.{written}
use Rattle.plan.specs.declared.Plan.{Plan}
use Rattle.answer.specs.declared.Answer.{Answer}
use Rattle.answer.specs.Answer.{bare, refuse, ◌and_then◌, if_good}
use Rattle.answer.specs.Outcome.{Leaves}
use Rattle.plan.specs.Order.{checked}
use Rattle.answer.specs.declared.Written.{Written}
use Rattle.layout.specs.Layout.{slot_of}

-- "The slot table is written card by card, F bytes each": how many bytes that is
unfoldable pub table_length : Plan → ℕ
table_length p = p.cards * p.frame

-- "The slot table is written card by card, F bytes each", so byte x is cell x's; "bytes past those needed keep their value"
unfoldable pub table_over : Plan → List ℕ → List ℕ
table_over p bytes = written (table_length p) (slot_of p) bytes

-- "Writing plan bytes or the slot table adds 9 and not 8"; "9: buffer shorter than needed"
unfoldable pub table_answer : Plan → ℕ → Answer
table_answer p room = checked p and_then refuse (ltb room (table_length p)) (bare 9)

-- "Writers answer with the count of bytes written, 0 on a refusal"
abbrev pub tabled : Plan → Answer → Written
tabled p a = record { answer = a; count = if_good a (table_length p) 0 }

-- what writing the table answers, and what the buffer `out` holds then: "Lent buffers keep every byte on a refusal"
abbrev pub Tabled : Plan → List ℕ → Written → List ℕ → Type 0
Tabled p out = Leaves (tabled p (table_answer p (length out))) (if_good (table_answer p (length out)) (table_over p out) out)
