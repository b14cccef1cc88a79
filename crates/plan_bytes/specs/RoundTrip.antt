-- Reading and writing are inverse, so that each plan in order has exactly one encoding, and reading looks at nothing past it.
-- Assumes nothing.
use Rattle.std.specs.Prelude.{◌≡◌, List, ◌++◌, ℕ, ◌≤◌, length, take}
use Rattle.std.proofs.Common.{sym, ap, ◌∙◌, arith, length-append, length-take-le, get_or-take}
use Rattle.std.proofs.Math.ListN.{get_or-append}
use Rattle.plan.specs.declared.Plan.{Plan}
use Rattle.answer.specs.declared.Answer.TheVariants.{Good}
use Rattle.plan.specs.Order.{checked}
use Rattle.plan_bytes.specs.declared.Reading.{Reading}
use Rattle.codec.specs.Bytes.{AreBytes}
use Rattle.plan_bytes.specs.Parts.{Shaped, encoded, headed, size}
use Rattle.plan_bytes.specs.Reading.{read_of}
use Rattle.plan_bytes.specs.RoundTrip.Behind.{read_same}
use Rattle.plan_bytes.specs.RoundTrip.Reads.{read_encoded}
use Rattle.plan_bytes.specs.RoundTrip.Writes.{encoded_read, read_shaped, read_checked, read_size}
pub mod Reads
pub mod Writes
pub mod Behind

-- reading what was written, whatever follows it, gives the same plan and the count
pub read_written : (p : Plan) → Shaped p → checked p ≡ Good → (rest : List ℕ)
    → read_of (encoded p ++ rest) ≡ record { answer = Good; plan = p; taken = size p }
read_written = read_encoded

-- writing what was read gives the same bytes
pub written_read : (s : List ℕ) → AreBytes s → (read_of s).answer ≡ Good → encoded (read_of s).plan ≡ take (read_of s).taken s
written_read = encoded_read

-- what is read as a plan is that plan's encoding: two byte strings that read as the same plan agree on the bytes taken
pub one_encoding : (s t : List ℕ) → AreBytes s → AreBytes t → (read_of s).answer ≡ Good → (read_of t).answer ≡ Good
    → (read_of s).plan ≡ (read_of t).plan → take (read_of s).taken s ≡ take (read_of t).taken t
one_encoding s t a b e f g = sym (written_read s a e) ∙ ap encoded g ∙ written_read t b f

-- "the remainder is handed on to whoever reads next": the answer depends on the bytes taken only
pub taken_only : (s rest : List ℕ) → AreBytes s → (read_of s).answer ≡ Good → read_of (take (read_of s).taken s ++ rest) ≡ read_of s
taken_only s rest a e =
    ap (λ (x : List ℕ). read_of (x ++ rest)) (sym (written_read s a e))
    ∙ read_written (read_of s).plan (read_shaped s e) (read_checked s e) rest ∙ sym (whole (read_of s) e (read_size s e))
  where
    whole : (r : Reading) → r.answer ≡ Good → r.taken ≡ size r.plan
        → r ≡ record { answer = Good; plan = r.plan; taken = size r.plan }
    whole r p q = λ i. record { answer = p i; plan = r.plan; taken = q i }

-- the same of any answer: once the header's total is there, what stands behind it has no say
pub total_only : (s rest : List ℕ) → size (headed s) ≤ length s → read_of (take (size (headed s)) s ++ rest) ≡ read_of s
total_only s rest l =
    let n = size (headed s) in
    let m = length-take-le n s l in
    sym (read_same s (take n s ++ rest) l (omega (arith, length-append (take n s) rest))
    (λ i k. sym (get_or-append (take n s) rest 0 i (omega arith) ∙ get_or-take n s i 0 k)))
