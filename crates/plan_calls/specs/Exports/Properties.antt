-- Laws of what the exported functions answer: one for each way that a function leaves. f is the plan or the state that the image says.
-- Assumes nothing.
use Rattle.std.specs.Prelude.{◌≡◌, refl, Ok, Err, List, ℕ, ◌*◌, ◌≤◌, ◌<◌, ltb, length}
use Rattle.std.proofs.Common.{sym, ap, ◌∙◌, mul-le-mul, arith}
use Rattle.plan.specs.declared.Plan.{Plan}
use Rattle.answer.specs.declared.Answer.{Answer}
use Rattle.answer.specs.declared.Answer.TheVariants.{Good, No}
use Rattle.answer.specs.declared.Refusal.{Refusal}
use Rattle.answer.specs.Answer.{bare, refuse, if_good}
use Rattle.answer.specs.Answer.Properties.{and_then_left, opened_no, opened_on}
use Rattle.plan.specs.Order.{checked}
use Rattle.plan.specs.Order.Properties.{in_order}
use Rattle.plan_bytes.specs.declared.Reading.{Reading}
use Rattle.answer.specs.declared.Written.{Written}
use Rattle.plan_bytes.specs.Parts.{size}
use Rattle.plan_bytes.specs.Reading.{read_of}
use Rattle.plan_bytes.specs.RoundTrip.Writes.{read_checked, read_size}
use Rattle.plan_bytes.specs.Writing.{write_answer, Writes}
use Rattle.layout.specs.Table.{table_answer, table_length, Tabled}
use Rattle.images.specs.Image.{plan_size, plan_from, plan_image}
use Rattle.images.specs.Lent.{room, plan_found, StoresPlan}
use Rattle.images.specs.Lent.Properties.{plan_room, plan_is, plan_no, plan_on}
use Rattle.answer.specs.Word.{told}
use Rattle.images.specs.Outcome.Properties.{refused_outcome, stored_outcome}
use Rattle.plan_calls.specs.Exports.{check_answer, reads_answer, Reads, writes_answer, WritesBytes, slots_answer, WritesSlots}

-- ---- `parchbeetle_check`

pub check_unfound : (plan : List ℕ) (w : Refusal) (r : ℕ) → Err w ≡ plan_found plan → r ≡ told (No w) 0 →
    r ≡ told (check_answer plan) 0
unfolding check_answer
check_unfound plan w r e h = h ∙ ap (λ (x : Answer). told x 0) (plan_no plan (checked (plan_from plan)) w e)

pub check_told : (plan : List ℕ) (f : Plan) (a : Answer) (r : ℕ) → Ok f ≡ plan_found plan → a ≡ checked f →
    r ≡ told a 0 → r ≡ told (check_answer plan) 0
unfolding check_answer
check_told plan f a r e h t =
    t ∙ ap (λ (x : Answer). told x 0) (plan_on plan f (checked (plan_from plan)) a e (h ∙ ap checked (plan_is plan f e)))

-- ---- `parchbeetle_read`: v is what reading found

size_most : (p : Plan) → checked p ≡ Good → size p < 65536
unfolding size
size_most p e =
    let o = in_order p e in
    let a = o.counts.projects_most in
    let b = o.counts.kinds_most in
    omega arith

pub read_count : (bytes : List ℕ) (v : Reading) → v ≡ read_of bytes → v.answer ≡ Good → v.taken < 65536
read_count bytes v e g =
    let h : (read_of bytes).answer ≡ Good = sym (ap (λ (x : Reading). x.answer) e) ∙ g in
    let t : v.taken ≡ size (read_of bytes).plan = ap (λ (x : Reading). x.taken) e ∙ read_size bytes h in
    let m = size_most (read_of bytes).plan (read_checked bytes h) in
    omega arith

read_stage : (bytes plan : List ℕ) (v : Reading) (x : Answer) → v ≡ read_of bytes → v.answer ≡ Good → x ≡ room plan plan_size →
    x ≡ reads_answer bytes plan
unfolding reads_answer
read_stage bytes plan v x e g h =
    opened_on v.answer (read_of bytes).answer (room plan plan_size) x g (ap (λ (y : Reading). y.answer) e) h

pub read_refused : (bytes plan : List ℕ) (v : Reading) (w : Refusal) (r : ℕ) → v ≡ read_of bytes → v.answer ≡ No w →
    r ≡ told v.answer 0 → Reads bytes plan r plan
unfolding reads_answer
read_refused bytes plan v w r e g h =
    refused_outcome (reads_answer bytes plan) v.answer w _ _ plan r g h
    (opened_no v.answer (read_of bytes).answer (room plan plan_size) w g (ap (λ (x : Reading). x.answer) e))

read_stored : (bytes plan after : List ℕ) (v : Reading) (b : Answer) (r : ℕ) → v ≡ read_of bytes → v.answer ≡ Good →
    StoresPlan v.plan plan b after → r ≡ told b (if_good b v.taken 0) → Reads bytes plan r after
read_stored bytes plan after v b r e g t h =
    rw (← e) (stored_outcome (reads_answer bytes plan) b v.taken plan_size (plan_image v.plan) plan after r t
    (read_stage bytes plan v b e g t.result) h)

pub read_short : (bytes plan after : List ℕ) (v : Reading) (b : Answer) (w : Refusal) (r : ℕ) → v ≡ read_of bytes → v.answer ≡ Good →
    StoresPlan v.plan plan b after → b ≡ No w → r ≡ told b 0 → Reads bytes plan r after
read_short bytes plan after v b w r e g t n h = read_stored bytes plan after v b r e g t (h ∙ rw n)

pub read_good : (bytes plan after : List ℕ) (v : Reading) (b : Answer) (r : ℕ) → v ≡ read_of bytes → v.answer ≡ Good →
    StoresPlan v.plan plan b after → b ≡ Good → r ≡ told b v.taken → Reads bytes plan r after
read_good bytes plan after v b r e g t n h = read_stored bytes plan after v b r e g t (h ∙ rw n)

-- ---- `parchbeetle_write`: w is what writing did

pub good_size : (p : Plan) (out : List ℕ) (a : Answer) → write_answer p out ≡ a → if_good a (size p) 0 < 65536
unfolding write_answer
good_size p out Good e = size_most p (and_then_left (checked p) (refuse (ltb (length out) (size p)) (bare 9)) e)
good_size p out (No r) e = omega arith

pub write_count : (p : Plan) (out after : List ℕ) (w : Written) → Writes p out w after → w.count < 65536
write_count p out after w e =
    let z : w.count ≡ if_good (write_answer p out) (size p) 0 = ap (λ (x : Written). x.count) e.result in
    let m = good_size p out (write_answer p out) refl in
    omega arith

pub write_told : (plan out after : List ℕ) (f : Plan) (w : Written) (r : ℕ) → Ok f ≡ plan_found plan →
    Writes f out w after → r ≡ told w.answer w.count → WritesBytes plan out r after
unfolding writes_answer
write_told plan out after f w r e t h =
    rw (plan_room plan f e, ← plan_is plan f e)
    (record { result = h ∙ ap (λ (x : Written). told x.answer x.count) t.result; buffer = t.buffer })

-- ---- `parchbeetle_slot_table`: w is what writing the table did

table_most : (p : Plan) → checked p ≡ Good → table_length p < 65536
unfolding table_length
table_most p e =
    let o = in_order p e in
    let m : p.cards * p.frame ≤ 8 * 64 = mul-le-mul o.counts.cards_most o.counts.frame_most in
    omega arith

pub good_table : (p : Plan) (room : ℕ) (a : Answer) → table_answer p room ≡ a → if_good a (table_length p) 0 < 65536
unfolding table_answer
good_table p room Good e = table_most p (and_then_left (checked p) (refuse (ltb room (table_length p)) (bare 9)) e)
good_table p room (No r) e = omega arith

pub slots_count : (p : Plan) (out after : List ℕ) (w : Written) → Tabled p out w after → w.count < 65536
slots_count p out after w e =
    let z : w.count ≡ if_good (table_answer p (length out)) (table_length p) 0 = ap (λ (x : Written). x.count) e.result in
    let m = good_table p (length out) (table_answer p (length out)) refl in
    omega arith

pub slots_told : (plan out after : List ℕ) (f : Plan) (w : Written) (r : ℕ) → Ok f ≡ plan_found plan →
    Tabled f out w after → r ≡ told w.answer w.count → WritesSlots plan out r after
unfolding slots_answer
slots_told plan out after f w r e t h =
    rw (plan_room plan f e, ← plan_is plan f e)
    (record { result = h ∙ ap (λ (x : Written). told x.answer x.count) t.result; buffer = t.buffer })
