-- When rescuing is refused, and with which number: 1 and 2 as in reading, then 20, then 9.
-- Assumes nothing.
use Rattle.std.specs.Prelude.{◌≡◌, ◌↔◌, Bool, true, false, not, List, ℕ, zero, suc, ◌*◌, ◌≤◌, ◌<◌, ltb, leb, eqb, length}
use Rattle.std.proofs.Math.Path.{refl, ap}
use Rattle.std.proofs.Common.{sym, ◌∙◌}
use native.Mathlib.Omega.{arith}
use borrow.Author.Tests.{lt-ltb, le-ltb, eq-eqb, ne_eqb, ltb-true, ltb-false, eqb-true, eqb-false}
use Rattle.laws.specs.Count.{count_to}
use Rattle.laws.specs.Count.Properties.{count_never, count_some}
use Rattle.answer.specs.declared.Answer.{Answer}
use Rattle.answer.specs.declared.Answer.TheVariants.{Good, No}
use Rattle.answer.specs.declared.Refusal.{Refusal}
use Rattle.answer.specs.Answer.{number, bare, at_project, at_kind, refuse, ◌and_then◌, each_to}
use Rattle.plan.specs.declared.Plan.{Plan}
use Rattle.plan.specs.Order.{project_of, kind_of, in_range, timed, budgets, sized, sizes, project_in_range, projects_in_range}
use Rattle.plan.specs.Order.{kind_in_range, kind_in_range_at, kinds_in_range, budgets_fit, ranges}
use Rattle.plan_bytes.specs.Parts.{headed, decoded, size}
use Rattle.plan_bytes.specs.Reading.{spare_zero, body_answer, read_answer, read_of, counts_answer}
use Rattle.rescue.specs.Mended.{kept_at, plan_for}
use Rattle.rescue.specs.Rescue.{list_size, rescued_plan, rest_answer, rescue_answer}

-- ---- answers and their numbers

-- one whose number is none of 1 and 2
abbrev Later : Answer → Type 0
Later a = (k : ℕ) → 0 < k → k < 3 → number a ≡ k → ⊥

later_good : Later Good
later_good k s l e = omega arith

later_and_then : (a b : Answer) → Later a → Later b → Later (a and_then b)
later_and_then Good b x y = y
later_and_then (No r) b x y = x

later_refuse : (t : Bool) (a : Answer) → 3 ≤ number a → Later (refuse t a)
later_refuse true a l = λ k s m e. omega arith
later_refuse false a l = later_good

later_each : (n : ℕ) (f : ℕ → Answer) → ((i : ℕ) → Later (f i)) → Later (each_to n f)
unfolding each_to
later_each zero f h = later_good
later_each (suc n) f h = later_and_then (each_to n f) (f n) (later_each n f h) (h n)

-- 4, 5, 6 and 7
later_ranges : (p : Plan) → Later (ranges p)
unfolding ranges projects_in_range kinds_in_range kind_in_range budgets_fit
later_ranges p =
    later_and_then (projects_in_range p) (kinds_in_range p and_then budgets_fit p)
    (later_each p.projects (project_in_range p)
    (λ j. later_refuse (not (in_range p.cards p.frame (project_of p j))) (at_project 4 j) (omega arith)))
    (later_and_then (kinds_in_range p) (budgets_fit p)
    (later_each p.kinds (kind_in_range_at p)
    (λ i. later_and_then (refuse (not (ltb (kind_of p i).project p.projects)) (at_kind 5 i))
    (refuse (not (timed (kind_of p i))) (at_kind 6 i))
    (later_refuse (not (ltb (kind_of p i).project p.projects)) (at_kind 5 i) (omega arith))
    (later_refuse (not (timed (kind_of p i))) (at_kind 6 i) (omega arith))))
    (later_refuse (not (leb (budgets p) (p.cards * p.frame))) (bare 7) (omega arith)))

later_rest : (s list : List ℕ) → Later (rest_answer s list)
unfolding rest_answer
later_rest s list =
    later_and_then (refuse (eqb (rescued_plan s).kinds 0) (bare 20)) (refuse (ltb (length list) (list_size s)) (bare 9))
    (later_refuse (eqb (rescued_plan s).kinds 0) (bare 20) (omega arith))
    (later_refuse (ltb (length list) (list_size s)) (bare 9) (omega arith))

-- ---- "1 and 2 as in reading"

-- the same three stages, whatever comes after them
stages : (a b c t u : Answer) (k : ℕ) → 0 < k → k < 3 → Later t → Later u →
    (number ((a and_then (b and_then c)) and_then t) ≡ k) ↔ (number (a and_then (b and_then (c and_then u))) ≡ k)
stages Good Good Good t u k s l x y = (λ e. absurd (x k s l e), λ e. absurd (y k s l e))
stages Good Good (No r) t u k s l x y = (λ e. e, λ e. e)
stages Good (No r) c t u k s l x y = (λ e. e, λ e. e)
stages (No r) b c t u k s l x y = (λ e. e, λ e. e)

pub as_in_reading : (s list : List ℕ) (k : ℕ) → 0 < k → k < 3 → (number (rescue_answer s list) ≡ k) ↔ (number (read_of s).answer ≡ k)
unfolding rescue_answer counts_answer read_of read_answer body_answer
as_in_reading s list k some few =
    stages (refuse (ltb (length s) 3) (bare 1)) (sizes (headed s)) (refuse (ltb (length s) (size (headed s))) (bare 1)) (rest_answer s list)
    (refuse (not (spare_zero s)) (bare 3) and_then ranges (decoded s)) k some few (later_rest s list)
    (later_and_then (refuse (not (spare_zero s)) (bare 3)) (ranges (decoded s)) (later_refuse (not (spare_zero s)) (bare 3) (omega arith))
    (later_ranges (decoded s)))

-- ---- 20 and 9

most_refuse : (t : Bool) (n k : ℕ) → n ≤ k → number (refuse t (bare n)) ≤ k
most_refuse true n k l = l
most_refuse false n k l = omega arith

most_and_then : (a b : Answer) (k : ℕ) → number a ≤ k → number b ≤ k → number (a and_then b) ≤ k
most_and_then Good b k x y = y
most_and_then (No r) b k x y = x

counts_most : (s : List ℕ) → number (counts_answer s) ≤ 2
unfolding counts_answer sizes
counts_most s =
    most_and_then (refuse (ltb (length s) 3) (bare 1))
    (refuse (not (sized (headed s))) (bare 2) and_then refuse (ltb (length s) (size (headed s))) (bare 1)) 2
    (most_refuse (ltb (length s) 3) 1 2 (omega arith))
    (most_and_then (refuse (not (sized (headed s))) (bare 2)) (refuse (ltb (length s) (size (headed s))) (bare 1)) 2
    (most_refuse (not (sized (headed s))) 2 2 (omega arith)) (most_refuse (ltb (length s) (size (headed s))) 1 2 (omega arith)))

abbrev three : Answer → Bool → Bool → Answer
three a b c = a and_then (refuse b (bare 20) and_then refuse c (bare 9))

no_good : {A : Type 0} (w : Refusal) → No w ≡ Good → A
no_good w e = let z : ◌≡◌ {A = ℕ} 0 1 = cc in absurd (omega arith)

twenty_says : (a : Answer) (b c : Bool) → number a ≤ 2 → number (three a b c) ≡ 20 → (a ≡ Good) × (b ≡ true)
twenty_says Good true c l e = (refl, refl)
twenty_says Good false true l e = absurd (omega arith)
twenty_says Good false false l e = absurd (omega arith)
twenty_says (No r) b c l e = absurd (omega arith)

nine_says : (a : Answer) (b c : Bool) → number a ≤ 2 → number (three a b c) ≡ 9 → (a ≡ Good) × (b ≡ false) × (c ≡ true)
nine_says Good true c l e = absurd (omega arith)
nine_says Good false true l e = (refl, refl, refl)
nine_says Good false false l e = absurd (omega arith)
nine_says (No r) b c l e = absurd (omega arith)

good_says : (a : Answer) (b c : Bool) → three a b c ≡ Good → (a ≡ Good) × (b ≡ false) × (c ≡ false)
good_says Good true c e = no_good _ e
good_says Good false true e = no_good _ e
good_says Good false false e = (refl, refl, refl)
good_says (No r) b c e = no_good r e

module _ (s list : List ℕ) where
  some : Bool
  some = eqb (rescued_plan s).kinds 0

  short : Bool
  short = ltb (length list) (list_size s)

  is_three : rescue_answer s list ≡ three (counts_answer s) some short
  unfolding rescue_answer rest_answer some short
  is_three = refl

  -- "20 when no kind remains"
  pub twenty_when : (number (rescue_answer s list) ≡ 20) ↔ ((counts_answer s ≡ Good) × ((rescued_plan s).kinds ≡ 0))
  unfolding some
  twenty_when = (
    λ e.
        let t = twenty_says (counts_answer s) some short (counts_most s) (sym (ap number is_three) ∙ e) in
        (t.0, eqb-true (rescued_plan s).kinds 0 t.1),
    λ t. ap number is_three ∙ rw (t.0, eq-eqb (rescued_plan s).kinds 0 t.1),
  )

  -- "9 when the list's entries don't all fit"
  pub nine_when : (number (rescue_answer s list) ≡ 9) ↔
      ((counts_answer s ≡ Good) × (0 < (rescued_plan s).kinds) × (length list < list_size s))
  unfolding some short
  nine_when = (
    λ e.
        let t = nine_says (counts_answer s) some short (counts_most s) (sym (ap number is_three) ∙ e) in
        let z = eqb-false (rescued_plan s).kinds 0 t.1 in
        (t.0, omega arith, ltb-true (length list) (list_size s) t.2),
    λ t. ap number is_three
        ∙ rw (t.0, ne_eqb (rescued_plan s).kinds 0 (λ e. omega (arith, t.1)), lt-ltb (length list) (list_size s) t.2),
  )

  pub good_when : (rescue_answer s list ≡ Good) ↔ ((counts_answer s ≡ Good) × (0 < (rescued_plan s).kinds) × (list_size s ≤ length list))
  unfolding some short
  good_when = (
    λ e.
        let t = good_says (counts_answer s) some short (sym is_three ∙ e) in
        let z = eqb-false (rescued_plan s).kinds 0 t.1 in
        (t.0, omega arith, ltb-false (length list) (list_size s) t.2),
    λ t. is_three
        ∙ rw (t.0, ne_eqb (rescued_plan s).kinds 0 (λ e. omega (arith, t.1)), le-ltb (length list) (list_size s) t.2),
  )

-- no kind remains exactly when each is dropped
pub none_remains : (p : Plan) → ((plan_for p).kinds ≡ 0) ↔ ((i : ℕ) → i < p.kinds → kept_at p i ≡ false)
unfolding plan_for
none_remains p = (λ e i l. by e i l (kept_at p i) refl, λ h. count_never p.kinds (kept_at p) h)
  where
    by : count_to p.kinds (kept_at p) ≡ 0 → (i : ℕ) → i < p.kinds → (b : Bool) → kept_at p i ≡ b → b ≡ false
    by e i l true t = absurd (omega (arith, count_some p.kinds (kept_at p) i l t, e))
    by e i l false t = refl
