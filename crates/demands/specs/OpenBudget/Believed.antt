-- The budget given may be believed: what holds of the plan with that budget written in.
-- Assumes nothing.
use Rattle.std.specs.Prelude.{◌≡◌, refl, ◌≢◌, ◌↔◌, ℕ, ◌*◌, ◌≤◌, ◌<◌}
use Rattle.std.proofs.Math.Decide.{ℕ_discrete}
use Rattle.std.proofs.Common.{arith}
use Rattle.answer.specs.declared.Answer.TheVariants.{Good}
use Rattle.plan.specs.declared.Plan.{Plan}
use Rattle.plan.specs.Order.{kind_of, budgets, InOrder}
use Rattle.plan.specs.Open.{with_budget, InOrderOpen}
use Rattle.plan.specs.Open.Properties.{with_in_order}
use Rattle.verdict.specs.Verdict.{judged}
use Rattle.verdict.specs.Admission.{Fits}
use Rattle.verdict.specs.Admission.Properties.{admitted_exactly}
use Rattle.smallest_budget.specs.Smallest.{smallest_of}
use Rattle.demands.specs.OpenBudget.{FitsWith, Least}
use Rattle.demands.specs.OpenBudget.Written.{sum_grows, written_fits, fits_written}
use Rattle.demands.specs.OpenBudget.Exactly.{given_says}

module _ (p : Plan) (j : ℕ) (good : (smallest_of p j).answer ≡ Good) where
  given : (InOrderOpen p j) × (Least p j (smallest_of p j).budget) ×
      (budgets (with_budget p j (smallest_of p j).budget) ≤ p.cards * p.frame)
  given = given_says p j (smallest_of p j).budget (good, refl)

  -- with any budget from 1 to the one given
  up_to : (b : ℕ) → 0 < b → b ≤ (smallest_of p j).budget → InOrder (with_budget p j b)
  up_to b some l =
      let g = given in
      with_in_order p j g.0 b some (omega (arith, g.1.most)) (omega (arith, g.2, sum_grows p j b (smallest_of p j).budget g.0 l))

  pub given_in_order : InOrder (with_budget p j (smallest_of p j).budget)
  given_in_order = up_to (smallest_of p j).budget given.1.some (omega arith)

  pub given_fits : (i : ℕ) → i < p.kinds → (kind_of p i).project ≡ j → (k : ℕ) × Fits (with_budget p j (smallest_of p j).budget) i k
  given_fits i l own =
      let f = given.1.serves i l own in
      (f.0, written_fits p j (smallest_of p j).budget i f.0 given_in_order l own f.1)

  pub given_least : (b : ℕ) → 0 < b → b < (smallest_of p j).budget →
      ((i : ℕ) → i < p.kinds → (kind_of p i).project ≡ j → (k : ℕ) × Fits (with_budget p j b) i k) → ⊥
  given_least b some l fits = omega (arith, given.1.least b some serves)
    where
      serves : (i : ℕ) → i < p.kinds → (kind_of p i).project ≡ j → (k : ℕ) × FitsWith p j b i k
      serves i m own = let f = fits i m own in (f.0, fits_written p j b i f.0 (up_to b some (omega arith)) m own f.1)

  pub given_admitted :
      let q = with_budget p j (smallest_of p j).budget in
      ((judged q).answer ≡ Good) ↔ ((i : ℕ) → i < p.kinds → (kind_of p i).project ≢ j → (k : ℕ) × Fits q i k)
  given_admitted = (λ e i l n. ((admitted_exactly q).0 e).1 i l, λ fits. (admitted_exactly q).1 (given_in_order, λ i l. each fits i l))
    where
      q : Plan
      q = with_budget p j (smallest_of p j).budget

      each : ((i : ℕ) → i < p.kinds → (kind_of p i).project ≢ j → (k : ℕ) × Fits q i k) → (i : ℕ) → i < p.kinds → (k : ℕ) × Fits q i k
      each fits i l = elim (ℕ_discrete (kind_of p i).project j) [ yes e ↦ given_fits i l e | no n ↦ fits i l n ]
