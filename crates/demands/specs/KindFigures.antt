-- The figures of a kind: to which plans they are given, what they are, and that the verdict is what they say. No request of document 02
-- asks for them; who looks at a plan, admitted or not, sees by them what document 01's comparison, "kCi + W <= S(k,Di)", is made of.
-- Assumes nothing.
use Rattle.std.specs.Prelude.{◌≡◌, refl, ◌≢◌, ◌↔◌, true, ℕ, ◌+◌, ◌-◌, ◌*◌, ◌≤◌, ◌<◌, get_or}
use Rattle.std.proofs.Common.{sym, ap, ◌∙◌, arith}
use Rattle.std.proofs.lemmas.Bool.{false≢true}
use Rattle.std.proofs.Math.Decide.{dec_lt}
use Rattle.answer.specs.declared.Answer.{Answer}
use Rattle.answer.specs.declared.Answer.TheVariants.{Good, No}
use Rattle.answer.specs.declared.Refusal.{Refusal}
use Rattle.answer.specs.Answer.{number}
use Rattle.answer.specs.Answer.Properties.{and_then_no}
use Rattle.answer.specs.Numbers.{among}
use Rattle.plan.specs.declared.Plan.{Plan}
use Rattle.plan.specs.Order.{kind_of, InOrder, checked}
use Rattle.plan.specs.Order.Properties.{in_order}
use Rattle.workload.specs.Workload.{workload}
use Rattle.verdict.specs.declared.figures.Figures.{Figures}
use Rattle.verdict.specs.Verdict.{ceiling_on, judged}
use Rattle.verdict.specs.Admission.{Fits, BadSlice}
use Rattle.verdict.specs.Admission.Properties.{bad_one}
use Rattle.verdict.specs.Figures.{figures_answer, figures_of}
use Rattle.verdict.specs.Figures.Properties.{figures_good, figures_none, figures_say, widths_is, workload_is}
use Rattle.verdict.specs.Figures.Properties.{supply_is, slice_is, none_past}
use Rattle.demands.specs.Numbers.{record_order, check_numbers}
use Rattle.demands.specs.Verdicts.{least_given, slice_beside}

-- ---- 1. Every kind of every plan in order has its figures, whether the plan is admitted or not

pub answered_when : (p : Plan) (i : ℕ) → ((figures_of p i).answer ≡ Good) ↔ ((InOrder p) × (i < p.kinds))
answered_when p i = (figures_say p i, λ t. ap (λ (f : Figures). f.answer) (figures_good p i t.0 t.1))

-- "12: kind not below n", after the record order
pub no_kind_when : (p : Plan) (i : ℕ) → (number (figures_of p i).answer ≡ 12) ↔ ((InOrder p) × (p.kinds ≤ i))
unfolding figures_of figures_answer among
no_kind_when p i = (says, λ t. ap number (figures_none p i t.0 t.1))
  where
    not_twelve : (r : Refusal) → checked p ≡ No r → number (checked p) ≢ 12
    not_twelve r e z = let listed : among record_order 12 ≡ true = rw z at ((check_numbers p).its_number r e) in false≢true listed

    there : number (figures_of p i).answer ≡ 12 → InOrder p → i < p.kinds → ⊥
    there n o l = let z = ap (λ (f : Figures). number f.answer) (figures_good p i o l) in omega (arith, n, z)

    go : number (figures_of p i).answer ≡ 12 → (a : Answer) → checked p ≡ a → (InOrder p) × (p.kinds ≤ i)
    go n Good e = (in_order p e, elim (dec_lt i p.kinds) [ yes l ↦ absurd (there n (in_order p e) l) | no l ↦ omega arith ])
    go n (No r) e = absurd (not_twelve r e (ap number (e ∙ sym (and_then_no (checked p) _ r e)) ∙ n))

    says : number (figures_of p i).answer ≡ 12 → (InOrder p) × (p.kinds ≤ i)
    says n = go n (checked p) refl

-- ---- 2. What they are

-- "Kind i fits at k when kCi + W <= S(k,Di)", read off the figures: k is in 1..q, and S(k,Di) stands at place k - 1
pub record FitsBy (f : Figures) (length k : ℕ) : Type 0 where
  pub some : 0 < k
  pub most : k ≤ f.widths
  pub room : k * length + f.workload ≤ get_or f.supply (k - 1) 0

module _ (p : Plan) (i : ℕ) (good : (figures_of p i).answer ≡ Good) where
  abbrev figures : Figures
  figures = figures_of p i

  -- as many k as the ceiling, and W
  pub all_widths : figures.widths ≡ ceiling_on p i
  all_widths = widths_is p i good

  pub its_workload : figures.workload ≡ workload p i
  its_workload = workload_is p i good

  -- the kind fits at k exactly when the figures say so
  pub fits_when : (k : ℕ) → (Fits p i k) ↔ (FitsBy figures (kind_of p i).length k)
  fits_when k = (
    λ f. record {
      some = f.width.some;
      most = rw all_widths f.width.most;
      room = rw (its_workload, supply_is p i good k f.width.some f.width.most) f.room;
    },
    λ b. let most : k ≤ ceiling_on p i = rw all_widths at b.most in record {
      width = record { some = b.some; most = most };
      room = rw (its_workload, supply_is p i good k b.some most) at b.room;
    },
  )

  -- beside each S(k,Di) stands the bad slice to arrive in
  pub bad_slice_law : (k : ℕ) → 0 < k → k ≤ figures.widths → BadSlice p i k (get_or figures.slice (k - 1) 0)
  bad_slice_law k some most = slice_is p i good k some (rw all_widths at most)

  -- and 0 where there is no such k
  pub none_beyond : (k : ℕ) → figures.widths < k → (get_or figures.supply (k - 1) 0 ≡ 0) × (get_or figures.slice (k - 1) 0 ≡ 0)
  none_beyond k past = none_past p i good (k - 1) (omega (arith, all_widths))

  -- ---- 3. The verdict is what they say

  module _ (admitted : (judged p).answer ≡ Good) where
    -- "The verdict gives for each kind the least such k"
    pub least_by : let k = get_or (judged p).width i 0 in
        (FitsBy figures (kind_of p i).length k) × ((other : ℕ) → FitsBy figures (kind_of p i).length other → k ≤ other)
    least_by =
        let t = least_given p admitted i (figures_say p i good).1 in
        ((fits_when _).0 t.0, λ other b. t.1 other ((fits_when other).1 b))

    -- and the slice beside it
    pub slice_by : let k = get_or (judged p).width i 0 in get_or (judged p).slice i 0 ≡ get_or figures.slice (k - 1) 0
    slice_by =
        let said = figures_say p i good in
        let by = least_by.0 in
        bad_one p i said.0.counts.some_slice _ _ _ (slice_beside p admitted i said.1) (bad_slice_law _ by.some by.most)
