-- Laws of outcomes: one for each way that a function leaves.
-- Assumes nothing.
use Rattle.std.specs.Prelude.{◌≡◌, refl, Err, List, ◌++◌, ℕ, drop}
use Rattle.std.proofs.Common.{sym, ap, ◌∙◌}
use Rattle.answer.specs.declared.Answer.{Answer}
use Rattle.answer.specs.declared.Answer.TheVariants.{Good, No}
use Rattle.answer.specs.declared.Refusal.{Refusal}
use Rattle.answer.specs.Answer.{◌and_then◌, if_good}
use Rattle.answer.specs.Word.{told}
use Rattle.images.specs.Image.{plan_size}
use Rattle.images.specs.Lent.{room, plan_found, Stores}
use Rattle.images.specs.Lent.Properties.{plan_no}
use Rattle.images.specs.Outcome.{Outcome}

-- refused: no count, and the buffer as it was
pub refused_outcome : (a x : Answer) (w : Refusal) (n : ℕ) (new old : List ℕ) (r : ℕ) → x ≡ No w → r ≡ told x 0 → x ≡ a →
    Outcome a n new old r old
refused_outcome a x w n new old r e f g =
    let z : a ≡ No w = sym g ∙ e in
    record { result = f ∙ ap (λ (v : Answer). told v 0) e ∙ rw z; buffer = rw z }

-- refused because no plan was found, whatever the answer would be after that
pub unfound_outcome : (plan : List ℕ) (w : Refusal) (b : Answer) (n : ℕ) (new old : List ℕ) (r : ℕ) → Err w ≡ plan_found plan →
    r ≡ told (No w) 0 → Outcome (room plan plan_size and_then b) n new old r old
unfound_outcome plan w b n new old r e h =
    refused_outcome (room plan plan_size and_then b) (No w) w n new old r refl h (plan_no plan b w e)

-- good
pub good_outcome : (a : Answer) (n : ℕ) (new old : List ℕ) (r : ℕ) (after : List ℕ) → Good ≡ a → r ≡ told Good n → after ≡ new →
    Outcome a n new old r after
good_outcome a n new old r after e f g = record { result = rw (← e) f; buffer = rw (← e) g }

-- as storing the image answers, b
pub stored_outcome : (a b : Answer) (n needed : ℕ) (image old after : List ℕ) (r : ℕ) → Stores image needed old b after → b ≡ a →
    r ≡ told b (if_good b n 0) → Outcome a n (image ++ drop needed old) old r after
stored_outcome a b n needed image old after r t e h =
    record {
      result = h ∙ ap (λ (x : Answer). told x (if_good x n 0)) e;
      buffer = t.buffer ∙ ap
          (λ (x : Answer). if_good x (image ++ drop needed old) old) (sym t.result ∙ e);
    }

-- with no count to tell
pub uncounted : (b : Answer) (r : ℕ) → r ≡ told b 0 → r ≡ told b (if_good b 0 0)
uncounted Good r e = e
uncounted (No w) r e = e
