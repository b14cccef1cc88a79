-- Document 02 (i), "Tell me the smallest budget": what is given, when it is refused, and that it may be believed.
-- Assumes nothing.
use Rattle.std.specs.Prelude.{◌≡◌, ◌≢◌, ◌↔◌, true, ℕ, ◌*◌, ◌≤◌, ◌<◌}
use Rattle.answer.specs.declared.Answer.TheVariants.{Good}
use Rattle.answer.specs.Answer.{number, place, excess, slice}
use Rattle.plan.specs.declared.Plan.{Plan}
use Rattle.plan.specs.Order.{kind_of, budgets, tidy_project, tidy_kind, Sized, InOrder}
use Rattle.plan.specs.Open.{with_budget, InOrderOpen}
use Rattle.layout.specs.Cards.{held_from}
use Rattle.supply.specs.Supply.{window, supply}
use Rattle.verdict.specs.Verdict.{judged}
use Rattle.verdict.specs.Admission.{Fits}
use Rattle.smallest_budget.specs.Smallest.{held_with, most_budget, smallest_of}
use Rattle.smallest_budget.specs.Rotation.{supply_anywhere}
use Rattle.demands.specs.OpenBudget.{FitsWith, Serves, Least, NotServed}
use Rattle.demands.specs.OpenBudget.Written.{written_fits, fits_written, fits_more, written_more, others_kept}
use Rattle.demands.specs.OpenBudget.Written.{stored_unread, alike_but_open}
use Rattle.demands.specs.OpenBudget.Exactly.{given_says, given_of, seven_says, seven_of, none_says, none_of, eight_says, eight_of}
use Rattle.demands.specs.OpenBudget.Exactly.{absent_says, absent_of, eight_slice, eight_starts}
use Rattle.demands.specs.OpenBudget.Believed.{given_in_order, given_fits, given_least, given_admitted}

-- ---- 1. "Show that moving a project's first cell never alters its supply, and that a greater budget never takes a fit away"

-- for any two first cells, any budget, frame, k and length
pub first_cell_moved : (first other budget frame k t : ℕ) →
    supply frame (held_from first budget frame) k t ≡ supply frame (held_from other budget frame) k t
first_cell_moved = supply_anywhere

-- for any record, project, kind and k
pub greater_budget : (p : Plan) (j small large i k : ℕ) → small ≤ large → FitsWith p j small i k → FitsWith p j large i k
greater_budget = fits_more

-- with a budget that leaves the plan in order, that is whether the kind fits on the plan with it written in, as it is really laid out
pub as_laid_out : (p : Plan) (j b i k : ℕ) →
    InOrder (with_budget p j b) →
    i < p.kinds →
    (kind_of p i).project ≡ j →
    (FitsWith p j b i k) ↔ (Fits (with_budget p j b) i k)
as_laid_out p j b i k o l own = (written_fits p j b i k o l own, fits_written p j b i k o l own)

-- and there a greater one takes no fit away from any kind, its own or another project's
pub greater_written : (p : Plan) (j small large i k : ℕ) → small ≤ large →
    InOrder (with_budget p j small) →
    InOrder (with_budget p j large) →
    i < p.kinds →
    Fits (with_budget p j small) i k →
    Fits (with_budget p j large) i k
greater_written = written_more

-- ---- 2. What is given: "the least B, from 1 to qF, at which all its unit kinds fit"

-- a budget is given exactly when it is the least that serves and the sum of the budgets is not too large with it
pub given_when : (p : Plan) (j b : ℕ) →
    let r = smallest_of p j in
    ((r.answer ≡ Good) × (r.budget ≡ b)) ↔
    ((InOrderOpen p j) × (Least p j b) × (budgets (with_budget p j b) ≤ p.cards * p.frame))
given_when p j b = (given_says p j b, given_of p j b)

-- ---- 3. When it is refused

-- "27 for a project not below p", after 2 and 3
pub no_project_when : (p : Plan) (j : ℕ) →
    (number (smallest_of p j).answer ≡ 27) ↔
    ((Sized p) × ((i : ℕ) → i < 8 → tidy_project p i ≡ true) × ((i : ℕ) → i < 16 → tidy_kind p i ≡ true) × (p.projects ≤ j))
no_project_when p j = (absent_says p j, absent_of p j)

-- "8 exactly when no B up to qF serves"
pub none_serves_when : (p : Plan) (j : ℕ) →
    (number (smallest_of p j).answer ≡ 8) ↔ ((InOrderOpen p j) × ((b : ℕ) → 0 < b → b ≤ most_budget p j → Serves p j b → ⊥))
none_serves_when p j = (none_says p j, none_of p j)

-- "(place and excess at qF)"
pub not_served_when : (p : Plan) (j i x : ℕ) →
    let a = (smallest_of p j).answer in
    ((number a ≡ 8) × (place a ≡ i) × (excess a ≡ x)) ↔ ((InOrderOpen p j) × (NotServed p j i x))
not_served_when p j i x = (eight_says p j i x, eight_of p j i x)

-- "every .. excess should pass that slice on": at qF every start sees the supply of the k it names, and the earliest is 0
pub slice_at_most : (p : Plan) (j : ℕ) → number (smallest_of p j).answer ≡ 8 →
    let h = held_with p j (most_budget p j) in
    (slice (smallest_of p j).answer ≡ 0) × ((k a t : ℕ) → window k h a t ≡ supply p.frame h k t)
slice_at_most p j eight = (eight_slice p j eight, eight_starts p j eight)

-- "then 7 when the least B makes the sum too large"
pub too_large_when : (p : Plan) (j : ℕ) →
    (number (smallest_of p j).answer ≡ 7) ↔
    ((InOrderOpen p j) × ((b : ℕ) × (Least p j b) × (p.cards * p.frame < budgets (with_budget p j b))))
too_large_when p j = (seven_says p j, seven_of p j)

-- ---- 4. It may be believed: on the plan with the budget given written in, as it is really laid out

module _ (p : Plan) (j : ℕ) (good : (smallest_of p j).answer ≡ Good) where
  -- that plan is in order
  pub written_in_order : InOrder (with_budget p j (smallest_of p j).budget)
  written_in_order = given_in_order p j good

  -- every kind of the project has a k
  pub all_fit : (i : ℕ) → i < p.kinds → (kind_of p i).project ≡ j → (k : ℕ) × Fits (with_budget p j (smallest_of p j).budget) i k
  all_fit = given_fits p j good

  -- and with no smaller budget from 1 do all of them
  pub none_smaller : (b : ℕ) → 0 < b → b < (smallest_of p j).budget →
      ((i : ℕ) → i < p.kinds → (kind_of p i).project ≡ j → (k : ℕ) × Fits (with_budget p j b) i k) →
      ⊥
  none_smaller = given_least p j good

  -- so that plan is admitted exactly when the others' kinds fit
  pub admitted_with_others :
      let q = with_budget p j (smallest_of p j).budget in
      ((judged q).answer ≡ Good) ↔ ((i : ℕ) → i < p.kinds → (kind_of p i).project ≢ j → (k : ℕ) × Fits q i k)
  admitted_with_others = given_admitted p j good

-- and whether those fit does not depend on the open budget, whatever it is
pub others_unmoved : (p : Plan) (j b c i k : ℕ) →
    InOrder (with_budget p j b) →
    InOrder (with_budget p j c) →
    i < p.kinds →
    (kind_of p i).project ≢ j →
    Fits (with_budget p j b) i k →
    Fits (with_budget p j c) i k
others_unmoved = others_kept

-- ---- 5. The stored open budget has no say

-- whatever it is, in range or not (a place at or beyond p is no project's: 3 looks at it, and then comes 27)
pub stored_no_say : (p : Plan) (j b : ℕ) → j < p.projects → smallest_of (with_budget p j b) j ≡ smallest_of p j
stored_no_say = stored_unread

-- two plans that differ in it alone: with any budget written in they are the same
pub differ_there_alone : (p other : Plan) (j b : ℕ) → j < p.projects → with_budget p j b ≡ with_budget other j b →
    smallest_of p j ≡ smallest_of other j
differ_there_alone = alike_but_open
