-- Laws of answers in an order.
-- Assumes nothing.
use Rattle.std.specs.Prelude.{◌≡◌, refl, Ok, Err, Bool, true, false, not, ℕ, zero, suc, ◌+◌, ◌≤◌, ◌<◌, leb}
use Rattle.std.proofs.Common.{sym, ap, ◌∙◌, true≢false, add-one, arith, le-leb}
use Rattle.std.proofs.Math.Decide.{dec_lt}
use Rattle.std.proofs.lemmas.Bool.{lt-leb}
use Rattle.laws.specs.Loops.{stop}
use Rattle.answer.specs.declared.Answer.{Answer}
use Rattle.answer.specs.declared.Answer.TheVariants.{Good, No}
use Rattle.answer.specs.declared.Refusal.{Refusal}
use Rattle.answer.specs.declared.Refusal.TheVariants.{ByKind}
use Rattle.answer.specs.Answer.{number, place, excess, slice, ◌and_then◌, each_to, refuse, with_value}

-- ---- a stage that is good hands on to the next; one that is not is the answer

pub and_then_good : (a b : Answer) → a ≡ Good → (a and_then b) ≡ b
and_then_good a b e = rw e

pub and_then_no : (a b : Answer) (r : Refusal) → a ≡ No r → (a and_then b) ≡ No r
and_then_no a b r e = rw e

pub and_then_left : (a b : Answer) → (a and_then b) ≡ Good → a ≡ Good
and_then_left Good b e = refl
and_then_left (No r) b e = e

pub and_then_right : (a b : Answer) → (a and_then b) ≡ Good → b ≡ Good
and_then_right Good b e = e
and_then_right (No r) b e = cc

pub no_is : (v w : Refusal) → No v ≡ No w → v ≡ w
no_is v w e = cc

pub refuse_good : (t : Bool) (w : Refusal) → refuse t (No w) ≡ Good → t ≡ false
refuse_good true w e = cc
refuse_good false w e = refl

-- ---- a refusal that the code gives: r is what a test answered, and a what it should; x is the refusal that was made

pub refused : (a r : Bool) (w x : Answer) → r ≡ a → not r ≡ true → x ≡ w → x ≡ refuse (not a) w
refused true true w x e t q = absurd (true≢false (sym t))
refused true false w x e t q = absurd (true≢false (sym e))
refused false r w x e t q = q

pub passed : (a r : Bool) (w : Answer) → r ≡ a → not r ≡ false → Good ≡ refuse (not a) w
passed true r w e t = refl
passed false true w e t = absurd (true≢false e)
passed false false w e t = absurd (true≢false t)

pub refused_where : (a r : Bool) (w x : Answer) → r ≡ a → r ≡ true → x ≡ w → x ≡ refuse a w
refused_where a r w x e t q = rw (← e, t) q

pub passed_where : (a r : Bool) (w : Answer) → r ≡ a → r ≡ false → Good ≡ refuse a w
passed_where a r w e t = rw (← e, t)

-- r is a number that was computed, and a what it should be

pub above_refused : (a r most : ℕ) (w x : Answer) → r ≡ a → most < r → x ≡ w → x ≡ refuse (not (leb a most)) w
above_refused a r most w x e l q = rw (lt-leb a most (omega arith)) q

pub most_passed : (a r most : ℕ) (w : Answer) → r ≡ a → r ≤ most → Good ≡ refuse (not (leb a most)) w
most_passed a r most w e l = rw (le-leb a most (omega arith))

pub stage_on : (a b x : Answer) → Good ≡ a → x ≡ b → x ≡ (a and_then b)
stage_on a b x e q = rw (← e) q

-- ---- a stage's answer r that `let .. else` opened: good, or the answer itself

pub opened_good : (r a : Answer) → r ≡ Good → r ≡ a → Good ≡ a
opened_good r a e q = sym e ∙ q

pub opened_is : (r a : Answer) → r ≡ Good → r ≡ a → a ≡ Good
opened_is r a e q = sym q ∙ e

pub opened_no : (r a b : Answer) (w : Refusal) → r ≡ No w → r ≡ a → r ≡ (a and_then b)
opened_no r a b w e q = rw (← q, e)

pub ruleset stages = (refused, passed, opened_no, stage_on)

pub opened_on : (r a b x : Answer) → r ≡ Good → r ≡ a → x ≡ b → x ≡ (a and_then b)
opened_on r a b x e q p = rw (← q, e) p

-- ---- a value that comes with an answer

pub value_good : {A : Type 0} (a : Answer) (x y : A) → Ok y ≡ with_value a x → a ≡ Good
value_good Good x y e = refl
value_good (No r) x y e = cc

pub value_is : {A : Type 0} (a : Answer) (x y : A) → Ok y ≡ with_value a x → y ≡ x
value_is Good x y e = cc
value_is (No r) x y e = cc

pub value_no : {A : Type 0} (a : Answer) (x : A) (w : Refusal) → Err w ≡ with_value a x → a ≡ No w
value_no Good x w e = cc
value_no (No r) x w e = cc

-- ---- the steps of a loop over places

pub each_none : (f : ℕ → Answer) → Good ≡ each_to 0 f
unfolding each_to
each_none f = refl

pub each_more : (i : ℕ) (f : ℕ → Answer) → Good ≡ each_to i f → Good ≡ f i → Good ≡ each_to (i + 1) f
unfolding each_to
each_more i f e g = rw (add-one i, ← e, ← g)

pub each_stop : (i n : ℕ) (f : ℕ → Answer) (r : Answer) → r ≡ each_to i f → i ≤ n → n ≤ i → r ≡ each_to n f
each_stop i n f r = stop (λ (k : ℕ). each_to k f) r i n

-- good so far and refused here: that is the answer, whatever comes after
pub each_opened : (n i : ℕ) (f : ℕ → Answer) (r : Answer) (w : Refusal) → Good ≡ each_to i f → r ≡ No w → r ≡ f i → i < n → r ≡ each_to n f
unfolding each_to
each_opened zero i f r w e q g l = absurd (omega arith)
each_opened (suc n) i f r w e q g l =
    elim (dec_lt i n) [ yes h ↦ opened_no r (each_to n f) (f n) w q (each_opened n i f r w e q g h) | no h ↦ here (omega arith) ]
  where
    here : i ≡ n → r ≡ (each_to n f and_then f n)
    here h = stage_on (each_to n f) (f n) r (e ∙ ap (λ (k : ℕ). each_to k f) h) (g ∙ ap f h)

-- ---- what it says

pub each_at : (n : ℕ) (f : ℕ → Answer) → each_to n f ≡ Good → (i : ℕ) → i < n → f i ≡ Good
unfolding each_to
each_at zero f e i l = absurd (omega arith)
each_at (suc n) f e i l = elim (dec_lt i n) [ yes q ↦ each_at n f (and_then_left (each_to n f) (f n) e) i q | no q ↦ here (omega arith) ]
  where
    here : i ≡ n → f i ≡ Good
    here q = ap f q ∙ and_then_right (each_to n f) (f n) e

pub each_of : (n : ℕ) (f : ℕ → Answer) → ((i : ℕ) → i < n → f i ≡ Good) → each_to n f ≡ Good
unfolding each_to
each_of zero f h = refl
each_of (suc n) f h = rw (each_of n f (λ i l. h i (omega arith)), h n (omega arith))

-- ---- the parts of a refusal by kind w that an answer a was opened to

module _ (a : Answer) (w : Refusal) (n i x s : ℕ) (opened : a ≡ No w) (parts : w ≡ ByKind n i x s) where
  pub kind_number : n ≡ number a
  kind_number = rw (opened, parts)

  pub kind_place : i ≡ place a
  kind_place = rw (opened, parts)

  pub kind_excess : x ≡ excess a
  kind_excess = rw (opened, parts)

  pub kind_slice : s ≡ slice a
  kind_slice = rw (opened, parts)
