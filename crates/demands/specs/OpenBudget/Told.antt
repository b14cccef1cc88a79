-- The four ways in which the smallest budget is answered: the record order, 8, 7, or the least budget that serves.
-- Assumes nothing.
use Rattle.std.proofs.Math.Path.{◌≡◌, refl}
use Rattle.std.proofs.Common.{sym, ap, ◌∙◌, true≢false}
use Rattle.std.specs.Prelude.{◌≢◌, Bool, ◌&&◌, ℕ, ◌+◌, ◌-◌, ◌*◌, ◌≤◌, ◌<◌}
use Rattle.std.proofs.Math.Bool.{true, false, not}
use Rattle.std.proofs.lemmas.Bool.{false≢true}
use Rattle.std.proofs.Math.Decide.{dec_le, dec_lt}
use native.Mathlib.Omega.{arith}
use Rattle.std.proofs.Math.Dec.{eqb}
use borrow.Author.Tests.{le-leb, lt-leb, eq-eqb, ne_eqb, eqb-true, eqb-false, not-true}
use Rattle.laws.specs.Tests.{and_left, and_right}
use Rattle.laws.specs.All.Properties.{all_at, all_of}
use Rattle.laws.specs.First.Properties.{first_holds, first_least, first_some}
use Rattle.answer.specs.declared.Answer.{Answer}
use Rattle.answer.specs.declared.Answer.TheVariants.{Good, No}
use Rattle.answer.specs.declared.Refusal.{Refusal}
use Rattle.answer.specs.Answer.{bare, not_admitted, number, refuse, ◌and_then◌}
use Rattle.answer.specs.Answer.Properties.{refuse_good}
use Rattle.answer.specs.Numbers.{among}
use Rattle.plan.specs.declared.Plan.{Plan}
use Rattle.plan.specs.Order.{project_of, kind_of, budgets}
use Rattle.plan.specs.Order.{budgets_fit}
use Rattle.plan.specs.Open.{with_budget, checked_open, InOrderOpen}
use Rattle.plan.specs.Open.Properties.{open_order_law, open_order_good}
use Rattle.supply.specs.Fit.{least_width}
use Rattle.supply.proofs.Laws.Fit.{width_most, width_fits, width_some, excess_within, excess_allows, excess_greatest}
use Rattle.workload.specs.Workload.{workload}
use Rattle.verdict.specs.Verdict.{ceiling_on}
use Rattle.verdict.specs.Admission.Properties.{each_no}
use Rattle.smallest_budget.specs.Smallest.{its, held_with, width_with, excess_with, slice_with, lacks, serves, most_budget, least_budget}
use Rattle.smallest_budget.specs.Smallest.{fitted_with, served_with, served_at_most, sum_fits, smallest_answer, smallest_of}
use Rattle.smallest_budget.specs.Smallest.Properties.{served_serves, least_most}
use Rattle.smallest_budget.specs.Steps.Properties.{most_some}
use Rattle.demands.specs.Numbers.{open_order, check_open_numbers}
use Rattle.demands.specs.OpenBudget.{FitsWith, Serves, Least, AllowsWith, NotServed}
use Rattle.demands.specs.OpenBudget.Written.{fits_more}

-- ---- one kind of the project, with a budget

module _ (p : Plan) (j b i : ℕ) where
  ceiling_own : (kind_of p i).project ≡ j → ceiling_on p i ≡ (project_of p j).ceiling
  ceiling_own own = ap (λ (x : ℕ). (project_of p x).ceiling) own

  pub width_gives : (kind_of p i).project ≡ j → 0 < width_with p j b i → (k : ℕ) × FitsWith p j b i k
  unfolding width_with
  width_gives own l =
      let C = (kind_of p i).length in
      let W = workload p i in
      let D = (kind_of p i).deadline in
      let q = (project_of p j).ceiling in (
        width_with p j b i,
        record {
          width = record { some = l; most = omega (arith, ceiling_own own, width_most p.frame (held_with p j b) C W D q) };
          room = width_fits p.frame (held_with p j b) C W D q l;
        },
      )

  pub fits_gives : (kind_of p i).project ≡ j → (k : ℕ) → FitsWith p j b i k → 0 < width_with p j b i
  unfolding width_with
  fits_gives own k f =
      width_some p.frame (held_with p j b) (kind_of p i).length (workload p i) (kind_of p i).deadline (project_of p j).ceiling k
      f.width.some (omega (arith, ceiling_own own, f.width.most)) f.room

  -- its excess
  module _ (own : (kind_of p i).project ≡ j) where
    allows_gives : (c : ℕ) → 0 < least_width p.frame (held_with p j b) c (workload p i) (kind_of p i).deadline (project_of p j).ceiling →
        (k : ℕ) × AllowsWith p j b i c k
    allows_gives c l =
        let W = workload p i in
        let D = (kind_of p i).deadline in
        let q = (project_of p j).ceiling in (
          least_width p.frame (held_with p j b) c W D q,
          record {
            width = record { some = l; most = omega (arith, ceiling_own own, width_most p.frame (held_with p j b) c W D q) };
            room = width_fits p.frame (held_with p j b) c W D q l;
          },
        )

    excess_whole : excess_with p j b i ≤ (kind_of p i).length
    unfolding excess_with
    excess_whole =
        excess_within p.frame (held_with p j b) (kind_of p i).length (workload p i) (kind_of p i).deadline (project_of p j).ceiling

    excess_allowed : excess_with p j b i < (kind_of p i).length →
        (k : ℕ) × AllowsWith p j b i ((kind_of p i).length - excess_with p j b i) k
    unfolding excess_with
    excess_allowed l =
        allows_gives ((kind_of p i).length - excess_with p j b i)
        (excess_allows p.frame (held_with p j b) (kind_of p i).length (workload p i) (kind_of p i).deadline (project_of p j).ceiling l)

    excess_longest : (c k : ℕ) → c ≤ (kind_of p i).length → AllowsWith p j b i c k → c + excess_with p j b i ≤ (kind_of p i).length
    unfolding excess_with
    excess_longest c k l a =
        excess_greatest p.frame (held_with p j b) (kind_of p i).length (workload p i) (kind_of p i).deadline (project_of p j).ceiling c k
        l a.width.some (omega (arith, ceiling_own own, a.width.most)) a.room

  pub lacks_not : lacks p j b i ≡ false → (kind_of p i).project ≡ j → 0 < width_with p j b i
  lacks_not e own = let z = eqb-false (width_with p j b i) 0 (rw (eq-eqb (kind_of p i).project j own) at e) in omega arith

  lacks_own : lacks p j b i ≡ true → (kind_of p i).project ≡ j
  lacks_own e = eqb-true (kind_of p i).project j (and_left (its p j i) (eqb (width_with p j b i) 0) e)

  lacks_none : lacks p j b i ≡ true → width_with p j b i ≡ 0
  lacks_none e = eqb-true (width_with p j b i) 0 (and_right (its p j i) (eqb (width_with p j b i) 0) e)

-- ---- all of them

module _ (p : Plan) (j : ℕ) where
  serves_says : (b : ℕ) → serves p j b ≡ true → Serves p j b
  unfolding serves
  serves_says b e i l own =
      width_gives p j b i own
      (lacks_not p j b i (not-true (lacks p j b i) (all_at p.kinds (λ h. not (lacks p j b h)) e i l)) own)

  serves_of : (b : ℕ) → Serves p j b → serves p j b ≡ true
  unfolding serves
  serves_of b s = all_of p.kinds (λ h. not (lacks p j b h)) (λ i l. go i l (its p j i) refl)
    where
      go : (i : ℕ) → i < p.kinds → (t : Bool) → its p j i ≡ t → not (t && eqb (width_with p j b i) 0) ≡ true
      go i l true e =
          let own = eqb-true (kind_of p i).project j e in
          let f = s i l own in
          rw (ne_eqb (width_with p j b i) 0 (λ z. omega (arith, fits_gives p j b i own f.0 f.1)))
      go i l false e = refl

  pub serves_more : (b c : ℕ) → b ≤ c → Serves p j b → Serves p j c
  serves_more b c l s i m own = let f = s i m own in (f.0, fits_more p j b c i f.0 l f.1)

  -- the budget that is found is the least, where the most serves
  least_is : InOrderOpen p j → serves p j (most_budget p j) ≡ true → Least p j (least_budget p j)
  unfolding least_budget
  least_is o s =
      record {
        some = some;
        most = least_most p j;
        serves = serves_says (least_budget p j) (first_holds (most_budget p j) (serves p j) some);
        least = least;
      }
    where
      some : 0 < least_budget p j
      some = first_some (most_budget p j) (serves p j) (most_budget p j) (most_some p j o) (omega arith) s

      least : (c : ℕ) → 0 < c → Serves p j c → least_budget p j ≤ c
      least c m t =
          elim (dec_lt c (least_budget p j)) [
            | yes q ↦ absurd (true≢false (sym (serves_of c t) ∙ first_least (most_budget p j) (serves p j) c m q))
            | no q ↦ omega arith
          ]

  -- and there is one at most
  pub least_one : (b c : ℕ) → Least p j b → Least p j c → b ≡ c
  least_one b c x y = omega (arith, x.least c y.some y.serves, y.least b x.some x.serves)

  -- ---- 8, as it is found: kind i is the project's first with no k at qF

  pub record Lacking (i : ℕ) : Type 0 where
    pub its_kind : i < p.kinds
    pub its_project : (kind_of p i).project ≡ j
    pub none : width_with p j (most_budget p j) i ≡ 0
    pub before : (h : ℕ) → h < i → lacks p j (most_budget p j) h ≡ false

  lacking : (r : Refusal) → served_with p j (most_budget p j) ≡ No r →
      (i : ℕ) × (Lacking i) × (not_admitted i (excess_with p j (most_budget p j) i) (slice_with p j (most_budget p j) i) ≡ No r)
  unfolding served_with
  lacking r e =
      let t = each_no p.kinds (fitted_with p j (most_budget p j)) r e in
      let most = most_budget p j in
      let s = told (lacks p j most t.0) (not_admitted t.0 (excess_with p j most t.0) (slice_with p j most t.0)) t.2 in (
        t.0,
        record {
          its_kind = t.1;
          its_project = lacks_own p j (most_budget p j) t.0 s.0;
          none = lacks_none p j (most_budget p j) t.0 s.0;
          before = λ h l. refuse_good (lacks p j (most_budget p j) h) _ (t.3 h l);
        },
        s.1,
      )
    where
      told : (x : Bool) (a : Answer) → refuse x a ≡ No r → (x ≡ true) × (a ≡ No r)
      told true a q = (refl, q)
      told false a q = let z : ◌≡◌ {A = ℕ} 0 1 = cc in absurd (omega arith)

  -- then no budget up to qF serves
  pub lacking_serves : (i b : ℕ) → Lacking i → b ≤ most_budget p j → Serves p j b → ⊥
  lacking_serves i b x l s =
      let f = serves_more b (most_budget p j) l s i x.its_kind x.its_project in
      omega (arith, x.none, fits_gives p j (most_budget p j) i x.its_project f.0 f.1)

  pub lacking_told : (i : ℕ) → InOrderOpen p j → Lacking i → NotServed p j i (excess_with p j (most_budget p j) i)
  lacking_told i o x =
      let most = most_budget p j in
      record {
        its_kind = x.its_kind;
        its_project = x.its_project;
        first = λ h l own. width_gives p j most h own (lacks_not p j most h (x.before h l) own);
        no_width = λ k f. omega (arith, x.none, fits_gives p j most i x.its_project k f);
        most = excess_whole p j most i x.its_project;
        allowed = excess_allowed p j most i x.its_project;
        greatest = excess_longest p j most i x.its_project;
      }

  -- ---- the four ways in which it is answered

  abbrev sum : ℕ
  sum = budgets (with_budget p j (least_budget p j))

  module _ (P : Answer → Type 0) (order : (r : Refusal) → checked_open p j ≡ No r → P (No r))
      (eight : (i : ℕ) → InOrderOpen p j → Lacking i →
      P (not_admitted i (excess_with p j (most_budget p j) i) (slice_with p j (most_budget p j) i)))
      (seven : InOrderOpen p j → Least p j (least_budget p j) → p.cards * p.frame < sum → P (bare 7))
      (good : InOrderOpen p j → Least p j (least_budget p j) → sum ≤ p.cards * p.frame → P Good)
    where
      told_sum : InOrderOpen p j → Least p j (least_budget p j) → P (sum_fits p j)
      unfolding budgets_fit
      told_sum o x =
          elim (dec_le sum (p.cards * p.frame)) [
            | yes l ↦ rw (le-leb sum (p.cards * p.frame) l) (good o x l)
            | no l ↦ let m : p.cards * p.frame < sum = omega arith in rw (lt-leb sum (p.cards * p.frame) m) (seven o x m)
          ]

      told_served : InOrderOpen p j → (a : Answer) → served_at_most p j ≡ a → P (a and_then sum_fits p j)
      told_served o Good e = told_sum o (least_is o (served_serves p j (most_budget p j) e))
      told_served o (No r) e = let t = lacking r e in rw t.2 at (eight t.0 o t.1)

      told_order : (a : Answer) → checked_open p j ≡ a → P (a and_then (served_at_most p j and_then sum_fits p j))
      told_order Good e = told_served (open_order_law p j e) (served_at_most p j) refl
      told_order (No r) e = order r e

      pub told : P (smallest_of p j).answer
      unfolding smallest_of smallest_answer
      told = told_order (checked_open p j) refl

  -- ---- the record order, with the budget open

  -- its numbers
  pub order_number : (r : Refusal) → checked_open p j ≡ No r → among open_order (number (No r)) ≡ true
  order_number r e = rw e at ((check_open_numbers p j).its_number r e)

  pub order_not : (r : Refusal) (n : ℕ) → among open_order n ≡ false → checked_open p j ≡ No r → number (No r) ≢ n
  order_not r n f e z = false≢true (sym f ∙ ap (among open_order) (sym z) ∙ order_number r e)

  -- none is given where the plan is in order
  pub order_none : {A : Type 0} (r : Refusal) → InOrderOpen p j → checked_open p j ≡ No r → A
  order_none r o e = let c : Good ≡ No r = sym (open_order_good p j o) ∙ e in let z : ◌≡◌ {A = ℕ} 0 1 = cc in absurd (omega arith)
