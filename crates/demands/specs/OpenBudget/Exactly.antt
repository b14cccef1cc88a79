-- When the smallest budget is given, and when each of its refusals is: exactly then.
-- Assumes nothing.
use Rattle.std.specs.Prelude.{◌≡◌, ◌≢◌, Bool, not, ◌&&◌, List, [], ◌∷◌, ℕ, ◌-◌, ◌*◌, ◌≤◌, ◌<◌}
use Rattle.std.proofs.Math.Path.{refl}
use Rattle.std.proofs.Common.{sym, ap, ◌∙◌, arith}
use Rattle.std.proofs.Math.Bool.{true, false}
use Rattle.std.proofs.lemmas.Bool.{false≢true}
use Rattle.std.proofs.Math.Decide.{dec_lt}
use Rattle.std.proofs.Math.Dec.{ltb}
use borrow.Author.Tests.{le-ltb, ltb-false, not-false}
use Rattle.laws.specs.Tests.{and_left, and_right}
use Rattle.laws.specs.All.Properties.{all_at, all_of}
use Rattle.answer.specs.declared.Answer.{Answer}
use Rattle.answer.specs.declared.Answer.TheVariants.{Good, No}
use Rattle.answer.specs.declared.Refusal.{Refusal}
use Rattle.answer.specs.Answer.{bare, not_admitted, number, place, excess, slice, refuse, ◌and_then◌}
use Rattle.answer.specs.Answer.Properties.{refuse_good}
use Rattle.answer.specs.Numbers.{among, Numbered}
use Rattle.answer.specs.Numbers.Properties.{and_then_numbered}
use Rattle.plan.specs.declared.Plan.{Plan}
use Rattle.plan.specs.Order.{project_of, kind_of, budgets, tidy_project, tidy_kind, tidy_projects, tidy_kinds, Sized, sizes, unused}
use Rattle.plan.specs.Order.{kinds_in_range}
use Rattle.plan.specs.Order.Properties.{sizes_says, sizes_of}
use Rattle.plan.specs.Open.{with_budget, project_there, projects_in_range_open, ranges_open, checked_open, InOrderOpen}
use Rattle.layout.specs.Layout.{first_cell}
use Rattle.supply.specs.Supply.{window, supply}
use Rattle.smallest_budget.specs.Flat.{supply_flat}
use Rattle.smallest_budget.specs.Smallest.Properties.{slice_at_most}
use Rattle.smallest_budget.specs.Smallest.{held_with, excess_with, slice_with, most_budget, least_budget, smallest_answer, smallest_of}
use Rattle.demands.specs.Numbers.Stages.{sizes_numbers, unused_numbers, projects_open_numbers, kinds_numbers}
use Rattle.demands.specs.OpenBudget.{Serves, Least, NotServed}
use Rattle.demands.specs.OpenBudget.Told.{Lacking, width_gives, fits_gives, lacks_not, serves_more, least_one, lacking_serves}
use Rattle.demands.specs.OpenBudget.Told.{lacking_told, told, order_not, order_none}

-- ---- the budget given

pub given_budget : (p : Plan) (j : ℕ) → (smallest_of p j).answer ≡ Good → (smallest_of p j).budget ≡ least_budget p j
unfolding smallest_of
given_budget p j e = rw e

abbrev Given : Plan → ℕ → ℕ → Type 0
Given p j b = (InOrderOpen p j) × (Least p j b) × (budgets (with_budget p j b) ≤ p.cards * p.frame)

given_there : (p : Plan) (j : ℕ) → (smallest_of p j).answer ≡ Good → Given p j (least_budget p j)
given_there p j =
    told p j (λ a. a ≡ Good → Given p j (least_budget p j)) (λ r e g. no r g) (λ i o x g. no _ g) (λ o x l g. no _ g) (λ o x l g. (o, x, l))
  where
    no : (r : Refusal) → No r ≡ Good → Given p j (least_budget p j)
    no r g = let z : ◌≡◌ {A = ℕ} 0 1 = cc in absurd (omega arith)

pub given_says : (p : Plan) (j b : ℕ) → ((smallest_of p j).answer ≡ Good) × ((smallest_of p j).budget ≡ b) → Given p j b
given_says p j b t =
    let e : least_budget p j ≡ b = sym (given_budget p j t.0) ∙ t.1 in
    rw e at (given_there p j t.0)

given_good : (p : Plan) (j b : ℕ) → Given p j b → (smallest_of p j).answer ≡ Good
given_good p j b t =
    told p j (λ a. a ≡ Good) (λ r e. order_none p j r t.0 e)
    (λ i o x. absurd (lacking_serves p j i b x t.1.most t.1.serves))
    (λ o x l. absurd (omega (arith, t.2, l, ap (λ (c : ℕ). budgets (with_budget p j c)) (least_one p j (least_budget p j) b x t.1))))
    (λ o x l. refl)

pub given_of : (p : Plan) (j b : ℕ) → Given p j b → ((smallest_of p j).answer ≡ Good) × ((smallest_of p j).budget ≡ b)
given_of p j b t =
    let g = given_good p j b t in
    (g, given_budget p j g ∙ least_one p j (least_budget p j) b (given_there p j g).1 t.1)

-- ---- 7

abbrev TooLarge : Plan → ℕ → Type 0
TooLarge p j = (InOrderOpen p j) × ((b : ℕ) × (Least p j b) × (p.cards * p.frame < budgets (with_budget p j b)))

pub seven_says : (p : Plan) (j : ℕ) → number (smallest_of p j).answer ≡ 7 → TooLarge p j
unfolding among
seven_says p j =
    told p j (λ a. number a ≡ 7 → TooLarge p j) (λ r e n. absurd (order_not p j r 7 refl e n)) (λ i o x n. absurd (omega arith))
    (λ o x l n. (o, (least_budget p j, x, l))) (λ o x l n. absurd (omega arith))

pub seven_of : (p : Plan) (j : ℕ) → TooLarge p j → number (smallest_of p j).answer ≡ 7
seven_of p j t =
    let b = t.1.0 in
    told p j (λ a. number a ≡ 7) (λ r e. order_none p j r t.0 e)
    (λ i o x. absurd (lacking_serves p j i b x t.1.1.most t.1.1.serves)) (λ o x l. refl)
    (λ o x l. absurd
    (omega (arith, t.1.2, l, ap (λ (c : ℕ). budgets (with_budget p j c)) (least_one p j (least_budget p j) b x t.1.1))))

-- ---- 8

abbrev None : Plan → ℕ → Type 0
None p j = (InOrderOpen p j) × ((b : ℕ) → 0 < b → b ≤ most_budget p j → Serves p j b → ⊥)

pub none_says : (p : Plan) (j : ℕ) → number (smallest_of p j).answer ≡ 8 → None p j
unfolding among
none_says p j =
    told p j (λ a. number a ≡ 8 → None p j) (λ r e n. absurd (order_not p j r 8 refl e n))
    (λ i o x n. (o, λ b s l. lacking_serves p j i b x l)) (λ o x l n. absurd (omega arith)) (λ o x l n. absurd (omega arith))

pub none_of : (p : Plan) (j : ℕ) → None p j → number (smallest_of p j).answer ≡ 8
none_of p j t =
    told p j (λ a. number a ≡ 8) (λ r e. order_none p j r t.0 e) (λ i o x. refl)
    (λ o x l. absurd (t.1 (least_budget p j) x.some x.most x.serves))
    (λ o x l. absurd (t.1 (least_budget p j) x.some x.most x.serves))

abbrev Eight : Answer → ℕ → ℕ → Type 0
Eight a i x = (number a ≡ 8) × (place a ≡ i) × (excess a ≡ x)

pub eight_says : (p : Plan) (j i x : ℕ) → Eight (smallest_of p j).answer i x → (InOrderOpen p j) × (NotServed p j i x)
unfolding among
eight_says p j i x =
    told p j (λ a. Eight a i x → (InOrderOpen p j) × (NotServed p j i x)) (λ r e t. absurd (order_not p j r 8 refl e t.0)) here
    (λ o y l t. absurd (omega (arith, t.0))) (λ o y l t. absurd (omega (arith, t.0)))
  where
    here : (h : ℕ) → InOrderOpen p j → Lacking p j h →
        Eight (not_admitted h (excess_with p j (most_budget p j) h) (slice_with p j (most_budget p j) h)) i x →
        (InOrderOpen p j) × (NotServed p j i x)
    here h o y t =
        let a : h ≡ i = t.1 in
        let b : excess_with p j (most_budget p j) h ≡ x = t.2 in
        (o, rw (b, a) at (lacking_told p j h o y))

-- two excesses are one
excess_below : (p : Plan) (j i x y : ℕ) → NotServed p j i x → NotServed p j i y → x < y → ⊥
excess_below p j i x y a b l =
    let t = a.allowed (omega (arith, b.most)) in
    omega (arith, b.most, b.greatest ((kind_of p i).length - x) t.0 (omega arith) t.1)

excess_one : (p : Plan) (j i x y : ℕ) → NotServed p j i x → NotServed p j i y → x ≡ y
excess_one p j i x y a b =
    elim (dec_lt x y) [
      | yes l ↦ absurd (excess_below p j i x y a b l)
      | no l ↦ elim (dec_lt y x) [ yes m ↦ absurd (excess_below p j i y x b a m) | no m ↦ omega arith ]
    ]

pub eight_of : (p : Plan) (j i x : ℕ) → (InOrderOpen p j) × (NotServed p j i x) → Eight (smallest_of p j).answer i x
eight_of p j i x t =
    told p j (λ a. Eight a i x) (λ r e. order_none p j r t.0 e) here (λ o y l. served y) (λ o y l. served y)
  where
    most : ℕ
    most = most_budget p j

    served : {A : Type 0} → Least p j (least_budget p j) → A
    served y =
        let f = serves_more p j (least_budget p j) most y.most y.serves i t.1.its_kind t.1.its_project in
        absurd (t.1.no_width f.0 f.1)

    lower : (h : ℕ) → Lacking p j h → h < i → ⊥
    lower h y l =
        let f = t.1.first h l y.its_project in
        omega (arith, y.none, fits_gives p j most h y.its_project f.0 f.1)

    higher : (h : ℕ) → Lacking p j h → i < h → ⊥
    higher h y l =
        let own = t.1.its_project in
        let f = width_gives p j most i own (lacks_not p j most i (y.before i l) own) in
        t.1.no_width f.0 f.1

    same : (h : ℕ) → Lacking p j h → h ≡ i
    same h y =
        elim (dec_lt h i) [
          | yes l ↦ absurd (lower h y l)
          | no l ↦ elim (dec_lt i h) [ yes m ↦ absurd (higher h y m) | no m ↦ omega arith ]
        ]

    here : (h : ℕ) → InOrderOpen p j → Lacking p j h → Eight (not_admitted h (excess_with p j most h) (slice_with p j most h)) i x
    here h o y =
        let e = same h y in
        (refl, e, ap (excess_with p j most) e ∙ excess_one p j i (excess_with p j most i) x (rw e at (lacking_told p j h o y)) t.1)

-- the slice beside it is 0
pub eight_slice : (p : Plan) (j : ℕ) → number (smallest_of p j).answer ≡ 8 → slice (smallest_of p j).answer ≡ 0
unfolding among
eight_slice p j =
    told p j (λ a. number a ≡ 8 → slice a ≡ 0) (λ r e t. absurd (order_not p j r 8 refl e t))
    (λ i o x t. slice_at_most p j i o.counts.some_slice) (λ o y l t. absurd (omega arith)) (λ o y l t. absurd (omega arith))

-- since every start sees the supply there
pub eight_starts : (p : Plan) (j : ℕ) → number (smallest_of p j).answer ≡ 8 → (k a t : ℕ) →
    let h = held_with p j (most_budget p j) in
    window k h a t ≡ supply p.frame h k t
eight_starts p j e =
    let o = (none_says p j e).0 in
    supply_flat (first_cell p j) (project_of p j).ceiling p.frame o.counts.some_slice

-- ---- 27

abbrev Absent : Plan → ℕ → Type 0
Absent p j =
    (Sized p) × ((i : ℕ) → i < 8 → tidy_project p i ≡ true) × ((i : ℕ) → i < 16 → tidy_kind p i ≡ true) × (p.projects ≤ j)

-- a stage that does not list a number does not give it
not_listed : (listed : List ℕ) (a : Answer) (n : ℕ) → Numbered listed a → among listed n ≡ false → n ≢ 0 → number a ≢ n
not_listed listed Good n k f z e = z (sym e)
not_listed listed (No r) n k f z e = false≢true (sym f ∙ ap (among listed) (sym e) ∙ k.its_number r refl)

module _ (p : Plan) (j : ℕ) where
  rest_not : Sized p → number (projects_in_range_open p j and_then kinds_in_range p) ≢ 27
  unfolding among
  rest_not s =
      not_listed (4 ∷ 5 ∷ 6 ∷ []) (projects_in_range_open p j and_then kinds_in_range p) 27
      (and_then_numbered _ _ _ (projects_open_numbers _ p j s.projects_most refl)
      (λ e. kinds_numbers _ p s.kinds_most refl refl)) refl (λ z. omega arith)

  absent_order : number (checked_open p j) ≡ 27 → Absent p j
  unfolding checked_open ranges_open project_there unused tidy_projects tidy_kinds among
  absent_order = sized (sizes p) refl
    where
      there : Sized p → ((i : ℕ) → i < 8 → tidy_project p i ≡ true) → ((i : ℕ) → i < 16 → tidy_kind p i ≡ true) → (t : Bool) →
          ltb j p.projects ≡ t → number (refuse (not t) (bare 27) and_then (projects_in_range_open p j and_then kinds_in_range p)) ≡ 27 →
          Absent p j
      there s a b true e n = absurd (rest_not s n)
      there s a b false e n = (s, a, b, ltb-false j p.projects e)

      tidy : Sized p → (a : Answer) → unused p ≡ a → number (a and_then ranges_open p j) ≡ 27 → Absent p j
      tidy s Good e n =
          let t = not-false (tidy_projects p && tidy_kinds p) (refuse_good (not (tidy_projects p && tidy_kinds p)) _ e) in
          there s (all_at 8 (tidy_project p) (and_left (tidy_projects p) (tidy_kinds p) t))
          (all_at 16 (tidy_kind p) (and_right (tidy_projects p) (tidy_kinds p) t)) (ltb j p.projects) refl n
      tidy s (No r) e n =
          absurd (not_listed (3 ∷ []) (unused p) 27 (unused_numbers _ p refl) refl (λ z. omega arith) (ap number e ∙ n))

      sized : (a : Answer) → sizes p ≡ a → number (a and_then (unused p and_then ranges_open p j)) ≡ 27 → Absent p j
      sized Good e n = tidy (sizes_says p e) (unused p) refl n
      sized (No r) e n = absurd (not_listed (2 ∷ []) (sizes p) 27 (sizes_numbers _ p refl) refl (λ z. omega arith) (ap number e ∙ n))

pub absent_says : (p : Plan) (j : ℕ) → number (smallest_of p j).answer ≡ 27 → Absent p j
absent_says p j =
    told p j (λ a. number a ≡ 27 → Absent p j) (λ r e n. absent_order p j (ap number e ∙ n)) (λ i o x n. absurd (omega arith))
    (λ o x l n. absurd (omega arith)) (λ o x l n. absurd (omega arith))

order_absent : (p : Plan) (j : ℕ) → Absent p j → checked_open p j ≡ bare 27
unfolding checked_open ranges_open project_there unused tidy_projects tidy_kinds
order_absent p j t =
    rw (sizes_of p t.0, all_of 8 (tidy_project p) t.1, all_of 16 (tidy_kind p) t.2, le-ltb j p.projects t.3)

pub absent_of : (p : Plan) (j : ℕ) → Absent p j → number (smallest_of p j).answer ≡ 27
unfolding smallest_of smallest_answer
absent_of p j t = rw (order_absent p j t)
