-- A buffer that any list fits: what is refused with it is refused with every other, and before 9.
-- Assumes nothing.
use Rattle.std.specs.Prelude.{◌≡◌, refl, Bool, true, false, List, ℕ, ◌≤◌, ltb, eqb, length}
use Rattle.std.proofs.Common.{sym, ap, ◌∙◌, arith, le-ltb}
use Rattle.answer.specs.declared.Answer.{Answer}
use Rattle.answer.specs.declared.Answer.TheVariants.{Good, No}
use Rattle.answer.specs.declared.Refusal.{Refusal}
use Rattle.answer.specs.Answer.{bare, refuse, ◌and_then◌}
use Rattle.answer.specs.Answer.Properties.{and_then_left}
use Rattle.plan_bytes.specs.Parts.{decoded}
use Rattle.plan_bytes.specs.Reading.{counts_answer}
use Rattle.rescue.specs.Rescue.{list_size, rescued_plan, rest_answer, rescue_answer}
use Rattle.rescue.specs.Rescue.Properties.{counts_says}
use Rattle.rescue.specs.Ordered.{changes_most}

-- "at most 57 entries", of bytes that pass 1 and 2
pub list_most : (s : List ℕ) → counts_answer s ≡ Good → list_size s ≤ 342
unfolding decoded
list_most s e =
    let c = (counts_says s e).0 in
    let n = changes_most s (decoded s) c.projects_most c.kinds_most in
    omega arith

pub good_counts : (s list : List ℕ) → rescue_answer s list ≡ Good → counts_answer s ≡ Good
unfolding rescue_answer
good_counts s list e = and_then_left (counts_answer s) (rest_answer s list) e

-- an answer is good or a refusal, and not both
no_good : {A : Type 0} (w : Refusal) → No w ≡ Good → A
no_good w e = let z : ◌≡◌ {A = ℕ} 0 1 = cc in absurd (omega arith)

-- three tests in their order, of which the last is whether the list fits
abbrev three : Answer → Bool → Bool → Answer
three a b c = a and_then (refuse b (bare 20) and_then refuse c (bare 9))

still_refused : (a : Answer) (b c d : Bool) (w : Refusal) → (a ≡ Good → c ≡ false) → three a b c ≡ No w → three a b d ≡ No w
still_refused Good true c d w h e = e
still_refused Good false c d w h e =
    no_good w (sym e ∙ ap (λ (x : Bool). refuse x (bare 9)) (h refl))
still_refused (No r) b c d w h e = e

then_short : (a : Answer) (b c d : Bool) → three a b c ≡ Good → (three a b d and_then bare 9) ≡ bare 9
then_short Good true c d e = no_good _ e
then_short Good false c true e = refl
then_short Good false c false e = refl
then_short (No r) b c d e = no_good r e

module _ (s roomy list : List ℕ) (long : 342 ≤ length roomy) where
  fits : counts_answer s ≡ Good → ltb (length roomy) (list_size s) ≡ false
  fits e = le-ltb (length roomy) (list_size s) (let m = list_most s e in omega arith)

  pub roomy_refused : (w : Refusal) → rescue_answer s roomy ≡ No w → rescue_answer s list ≡ No w
  unfolding rescue_answer rest_answer
  roomy_refused w e =
      still_refused (counts_answer s) (eqb (rescued_plan s).kinds 0) (ltb (length roomy) (list_size s)) (ltb (length list) (list_size s)) w
      fits e

  pub roomy_good : rescue_answer s roomy ≡ Good → (rescue_answer s list and_then bare 9) ≡ bare 9
  unfolding rescue_answer rest_answer
  roomy_good e =
      then_short (counts_answer s) (eqb (rescued_plan s).kinds 0) (ltb (length roomy) (list_size s)) (ltb (length list) (list_size s)) e
