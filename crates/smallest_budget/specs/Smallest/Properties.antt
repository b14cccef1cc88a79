-- Laws of the least budget: when one serves, that a greater one serves too, and which is the least.
-- Assumes nothing.
use Rattle.std.specs.Prelude.{◌≡◌, refl, Bool, true, false, ◌&&◌, ℕ, ◌+◌, ◌≤◌, ◌<◌, eqb}
use Rattle.std.proofs.Common.{sym, ◌∙◌, mul-le-mul, ne_eqb}
use Rattle.std.proofs.Math.Path.{ap}
use Rattle.std.proofs.Math.Bool.{not}
use native.Mathlib.Omega.{arith}
use Rattle.std.proofs.lemmas.Bool.{eqb-false, not-true}
use Rattle.laws.specs.All.Properties.{all_at, all_of}
use Rattle.laws.specs.First.{first_to}
use Rattle.laws.specs.First.Properties.{first_here, first_le, first_some}
use Rattle.plan.specs.declared.Plan.{Plan}
use Rattle.answer.specs.declared.Answer.{Answer}
use Rattle.answer.specs.declared.Answer.TheVariants.{Good, No}
use Rattle.answer.specs.declared.Refusal.{Refusal}
use Rattle.answer.specs.Answer.{◌and_then◌}
use Rattle.answer.specs.Answer.Properties.{and_then_left, refuse_good, each_at, each_of, opened_no, opened_on}
use Rattle.plan.specs.Order.{project_of, kind_of, budgets_fit}
use Rattle.plan.specs.Open.{with_budget, checked_open}
use Rattle.plan.specs.Open.Properties.{open_order_law}
use Rattle.layout.specs.Layout.{first_cell}
use Rattle.workload.specs.Workload.{workload}
use Rattle.smallest_budget.specs.declared.Smallest.{Smallest}
use Rattle.smallest_budget.specs.Staying.{Stays, first_not_yet}
use Rattle.smallest_budget.specs.Growth.{width_kept}
use Rattle.smallest_budget.specs.Flat.{slice_flat}
use Rattle.smallest_budget.specs.Smallest.{its, width_with, slice_with, lacks, serves, most_budget, least_budget}
use Rattle.smallest_budget.specs.Smallest.{fitted_with, served_with, served_at_most, sum_fits, smallest_answer, smallest_with, smallest_of}

module _ (p : Plan) (j b : ℕ) where
  -- no 8 where every kind of the project has a k
  pub served_serves : served_with p j b ≡ Good → serves p j b ≡ true
  unfolding served_with serves
  served_serves e =
      all_of p.kinds (λ i. not (lacks p j b i))
      (λ i l. ap not (refuse_good (lacks p j b i) _ (each_at p.kinds (fitted_with p j b) e i l)))

  pub serves_served : serves p j b ≡ true → served_with p j b ≡ Good
  unfolding served_with serves
  serves_served e =
      each_of p.kinds (fitted_with p j b)
      (λ i l. rw (not-true (lacks p j b i) (all_at p.kinds (λ i. not (lacks p j b i)) e i l)))

  pub not_served : (w : Refusal) → served_with p j b ≡ No w → serves p j b ≡ false
  not_served w e = go (serves p j b) refl
    where
      go : (t : Bool) → serves p j b ≡ t → t ≡ false
      go true q = let c : Good ≡ No w = sym (serves_served q) ∙ e in let z : ◌≡◌ {A = ℕ} 0 1 = cc in absurd (omega arith)
      go false q = refl

-- ---- a greater budget

kept : (t : Bool) (v w : ℕ) → (0 < v → 0 < w) → not (t && eqb v 0) ≡ true → not (t && eqb w 0) ≡ true
kept true v w h e =
    let n = eqb-false v 0 (not-true (eqb v 0) e) in
    let l : 0 < w = h (omega arith) in
    rw (ne_eqb w 0 (λ z. omega arith))
kept false v w h e = refl

-- "a greater budget never takes a fit away": what serves goes on serving
pub serves_stays : (p : Plan) (j : ℕ) → Stays (serves p j)
unfolding serves width_with
serves_stays p j a b l e =
    all_of p.kinds (λ i. not (lacks p j b i))
    (λ i m. kept (its p j i) (width_with p j a i) (width_with p j b i)
    (width_kept (first_cell p j) a b p.frame l (kind_of p i).length (workload p i) (kind_of p i).deadline (project_of p j).ceiling)
    (all_at p.kinds (λ i. not (lacks p j a i)) e i m))

-- ---- the least one

module _ (p : Plan) (j : ℕ) where
  pub least_most : least_budget p j ≤ most_budget p j
  unfolding least_budget
  least_most = first_le (most_budget p j) (serves p j)

  pub least_some : 0 < most_budget p j → served_at_most p j ≡ Good → 0 < least_budget p j
  unfolding least_budget
  least_some l e =
      first_some (most_budget p j) (serves p j) (most_budget p j) l (omega arith) (served_serves p j (most_budget p j) e)

  -- ---- the steps of halving

  -- one that does not serve, and so none below it
  pub below_again : (b : ℕ) (a : Answer) (w : Refusal) → a ≡ No w → a ≡ served_with p j b → 0 ≡ first_to b (serves p j)
  below_again b a w e q = first_not_yet b (serves p j) (serves_stays p j) (not_served p j b w (sym q ∙ e))

  pub enough_again : (b : ℕ) (a : Answer) → a ≡ Good → a ≡ served_with p j b → serves p j b ≡ true
  enough_again b a e q = served_serves p j b (sym q ∙ e)

  -- one that serves, next to one that does not
  pub least_found : (below enough most : ℕ) → most ≡ most_budget p j → 0 ≡ first_to below (serves p j) → serves p j enough ≡ true →
      below < enough → enough ≤ most → enough ≤ below + 1 → enough ≡ least_budget p j
  unfolding least_budget
  least_found below enough most m z t l h n =
      let e : enough ≡ below + 1 = omega arith in
      e ∙ first_here (most_budget p j) below (serves p j) z (rw e at t) (omega arith)

-- with the most budget no slice is worse than slice 0
pub slice_at_most : (p : Plan) (j i : ℕ) → 0 < p.frame → slice_with p j (most_budget p j) i ≡ 0
unfolding slice_with
slice_at_most p j i some =
    slice_flat 0 (project_of p j).ceiling p.frame some (kind_of p i).length (workload p i) (kind_of p i).deadline
    (project_of p j).ceiling

-- at most the 512 cells that a frame can have
pub found_most : (p : Plan) (j : ℕ) → (smallest_of p j).answer ≡ Good → (smallest_of p j).budget ≤ 512
unfolding smallest_of smallest_answer
found_most p j e =
    let o = open_order_law p j (and_then_left (checked_open p j) _ e) in
    let q : (project_of p j).ceiling ≤ 8 = omega (arith, o.ceiling_most j o.its_place, o.counts.cards_most) in
    rw e (omega (arith, least_most p j, mul-le-mul q o.counts.frame_most))

-- ---- the stages

module _ (p : Plan) (j : ℕ) where
  answered_no : (a x : Answer) (w : Refusal) → a ≡ No w → a ≡ x → record { answer = a; budget = 0 } ≡ smallest_with p j x
  answered_no a x w e q = rw (← q, e)

  answered_good : (a x : Answer) (b : ℕ) → a ≡ Good → a ≡ x → b ≡ least_budget p j → record { answer = a; budget = b } ≡ smallest_with p j x
  answered_good a x b e q f = rw (← q, e, f)

  -- 2 to 6 and 27
  pub order_refused : (a : Answer) (w : Refusal) → a ≡ No w → a ≡ checked_open p j → record { answer = a; budget = 0 } ≡ smallest_of p j
  unfolding smallest_of smallest_answer
  order_refused a w e q = answered_no a _ w e (opened_no a (checked_open p j) _ w e q)

  pub order_passed : (a : Answer) (v : Smallest) → a ≡ Good → a ≡ checked_open p j →
      v ≡ smallest_with p j (served_at_most p j and_then sum_fits p j) → v ≡ smallest_of p j
  unfolding smallest_of smallest_answer
  order_passed a v e q f =
      let next = served_at_most p j and_then sum_fits p j in
      f ∙ ap (smallest_with p j) (opened_on a (checked_open p j) next next e q refl)

  module _ (a : Answer) (q : a ≡ served_at_most p j) where
    -- 8
    pub eight : (w : Refusal) → a ≡ No w → record { answer = a; budget = 0 } ≡ smallest_with p j (served_at_most p j and_then sum_fits p j)
    eight w e = answered_no a _ w e (opened_no a (served_at_most p j) (sum_fits p j) w e q)

    module _ (e : a ≡ Good) (b : ℕ) (f : b ≡ least_budget p j) (s : Answer) (g : s ≡ budgets_fit (with_budget p j b)) where
      summed : s ≡ (served_at_most p j and_then sum_fits p j)
      summed = opened_on a (served_at_most p j) (sum_fits p j) s e q (g ∙ ap (λ (n : ℕ). budgets_fit (with_budget p j n)) f)

      -- 7
      pub seven : (w : Refusal) →
          s ≡ No w →
          record { answer = s; budget = 0 } ≡ smallest_with p j (served_at_most p j and_then sum_fits p j)
      seven w h = answered_no s _ w h summed

      pub found : s ≡ Good → record { answer = s; budget = b } ≡ smallest_with p j (served_at_most p j and_then sum_fits p j)
      found h = answered_good s _ b h summed f
