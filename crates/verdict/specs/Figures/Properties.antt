-- Laws of the figures of a kind: the steps of the code, and what stands in each place.
-- Assumes nothing.
use Rattle.std.specs.Prelude.{◌≡◌, refl, List, ℕ, ◌+◌, ◌-◌, ◌≤◌, ◌<◌, leb, set, replicate}
use Rattle.std.proofs.Common.{sym, ◌∙◌}
use Rattle.std.proofs.Math.Path.{ap}
use native.Mathlib.Omega.{arith}
use Rattle.std.proofs.Math.ListN.{get_or}
use borrow.Author.Tests.{le-leb, lt-leb, leb-false}
use Rattle.laws.specs.Written.{written}
use Rattle.laws.specs.Written.Properties.{written_again, written_stop, stored_at, stored_past}
use Rattle.answer.specs.declared.Answer.{Answer}
use Rattle.answer.specs.declared.Answer.TheVariants.{Good, No}
use Rattle.answer.specs.declared.Refusal.{Refusal}
use Rattle.answer.specs.Answer.{bare}
use Rattle.answer.specs.Answer.Properties.{and_then_left, and_then_right, refuse_good}
use Rattle.plan.specs.declared.Plan.{Plan}
use Rattle.plan.specs.Order.{kind_of, checked, InOrder}
use Rattle.plan.specs.Order.Properties.{in_order, in_order_good}
use Rattle.supply.specs.declared.Supplied.{Supplied}
use Rattle.supply.specs.Supply.{bad_slice}
use Rattle.supply.specs.Fit.{supplied_of}
use Rattle.supply.proofs.Laws.Fit.{supplied_framed}
use Rattle.workload.specs.Workload.{workload}
use Rattle.verdict.specs.declared.figures.Figures.{Figures}
use Rattle.verdict.specs.Verdict.{project_on, ceiling_on, held_on}
use Rattle.verdict.specs.Admission.{given, BadSlice}
use Rattle.verdict.specs.Admission.Properties.{bad_on}
use Rattle.verdict.specs.Steps.{project_cards}
use Rattle.verdict.specs.Steps.Properties.{cards_held}
use Rattle.verdict.specs.Figures.{figures_answer, supply_at, bad_slice_at, no_figures, figures_with, figures_of}

-- ---- the steps of the code

module _ (p : Plan) (o : InOrder p) (i : ℕ) (l : i < p.kinds) where
  pub ceiling_room : ceiling_on p i ≤ 8
  ceiling_room = omega (arith, (o.project_at_law (project_on p i) (o.kind_at_law i l).its_project).ceiling_most, o.counts.cards_most)

  -- what a k is given on the cards of the kind's project
  given_is : (cards : List ℕ) (k : ℕ) (r : Supplied) → cards ≡ project_cards p (project_on p i) →
      r ≡ supplied_of p.frame cards k (kind_of p i).deadline →
      r ≡ record { value = given p i k; slice = bad_slice p.frame (held_on p i) k (kind_of p i).deadline }
  given_is cards k r e q =
      q ∙ rw (
        e,
        supplied_framed p.frame (project_cards p (project_on p i)) k (kind_of p i).deadline
            (λ z. omega (arith, o.counts.some_slice)) o.counts.frame_most,
        cards_held p o i l,
      )

  module _ (cards : List ℕ) (below : ℕ) (r : Supplied) (e : cards ≡ project_cards p (project_on p i))
      (q : r ≡ supplied_of p.frame cards (below + 1) (kind_of p i).deadline) (before after : List ℕ) where
    pub supplies_again : before ≡ written below (supply_at p i) after →
        set before below r.value ≡ written (below + 1) (supply_at p i) after
    unfolding supply_at
    supplies_again h =
        written_again below (supply_at p i) after before r.value h
        (ap (λ (s : Supplied). s.value) (given_is cards (below + 1) r e q))

    pub bad_slices_again : before ≡ written below (bad_slice_at p i) after →
        set before below r.slice ≡ written (below + 1) (bad_slice_at p i) after
    unfolding bad_slice_at
    bad_slices_again h =
        written_again below (bad_slice_at p i) after before r.slice h
        (ap (λ (s : Supplied). s.slice) (given_is cards (below + 1) r e q))

  pub figures_made : (q w : ℕ) (s b : List ℕ) (below : ℕ) → q ≡ ceiling_on p i → w ≡ workload p i →
      s ≡ written below (supply_at p i) (replicate 8 0) → b ≡ written below (bad_slice_at p i) (replicate 8 0) →
      below ≤ q → q ≤ below →
      record { answer = Good; widths = q; workload = w; supply = s; slice = b } ≡ figures_with p i Good
  figures_made q w s b below e f g h m n =
      let u = written_stop below (ceiling_on p i) (supply_at p i) (replicate 8 0) s g (omega arith) (omega arith) in
      let v = written_stop below (ceiling_on p i) (bad_slice_at p i) (replicate 8 0) b h (omega arith) (omega arith) in
      λ k. record { answer = Good; widths = e k; workload = f k; supply = u k; slice = v k }

-- ---- the stages

module _ (p : Plan) (i : ℕ) (a : Answer) (order : a ≡ checked p) where
  pub figures_no : (w : Refusal) (r : Figures) → a ≡ No w → r ≡ no_figures a → r ≡ figures_of p i
  unfolding figures_of figures_answer
  figures_no w r e q = q ∙ rw (← order, e)

  pub figures_absent : (x : Answer) (r : Figures) → a ≡ Good → p.kinds ≤ i → x ≡ bare 12 → r ≡ no_figures x → r ≡ figures_of p i
  unfolding figures_of figures_answer
  figures_absent x r e l b q = q ∙ rw (← order, e, le-leb p.kinds i l, b)

  pub figures_on : (r : Figures) → a ≡ Good → i < p.kinds → r ≡ figures_with p i Good → r ≡ figures_of p i
  unfolding figures_of figures_answer
  figures_on r e l q = q ∙ rw (← order, e, lt-leb p.kinds i l)

-- ---- what is given

-- every kind of a plan in order has its figures
pub figures_good : (p : Plan) (i : ℕ) → InOrder p → i < p.kinds → figures_of p i ≡ figures_with p i Good
figures_good p i o l = sym (figures_on p i Good (sym (in_order_good p o)) (figures_with p i Good) refl l refl)

-- and nothing else has
pub figures_say : (p : Plan) (i : ℕ) → (figures_of p i).answer ≡ Good → (InOrder p) × (i < p.kinds)
unfolding figures_of figures_answer
figures_say p i e = (
  in_order p (and_then_left (checked p) _ e),
  leb-false p.kinds i (refuse_good (leb p.kinds i) _ (and_then_right (checked p) _ e)),
)

-- 12
pub figures_none : (p : Plan) (i : ℕ) → InOrder p → p.kinds ≤ i → (figures_of p i).answer ≡ bare 12
unfolding figures_of figures_answer
figures_none p i o l = rw (in_order_good p o, le-leb p.kinds i l)

module _ (p : Plan) (i : ℕ) (good : (figures_of p i).answer ≡ Good) where
  figures_are : figures_of p i ≡ figures_with p i Good
  figures_are = let t = figures_say p i good in figures_good p i t.0 t.1

  pub widths_is : (figures_of p i).widths ≡ ceiling_on p i
  widths_is = ap (λ (f : Figures). f.widths) figures_are

  pub widths_most : (figures_of p i).widths ≤ 8
  widths_most = let t = figures_say p i good in omega (arith, widths_is, ceiling_room p t.0 i t.1)

  pub workload_is : (figures_of p i).workload ≡ workload p i
  workload_is = ap (λ (f : Figures). f.workload) figures_are

  -- k stands at place k - 1
  pub supply_is : (k : ℕ) → 0 < k → k ≤ ceiling_on p i → get_or (figures_of p i).supply (k - 1) 0 ≡ given p i k
  unfolding supply_at
  supply_is k s l =
      let t = figures_say p i good in
      let e : k - 1 + 1 ≡ k = omega arith in
      ap (λ (f : Figures). get_or f.supply (k - 1) 0) figures_are
      ∙ stored_at (ceiling_on p i) 8 (supply_at p i) (k - 1) (omega arith) (ceiling_room p t.0 i t.1)
      ∙ ap (λ (n : ℕ). given p i n) e

  pub slice_is : (k : ℕ) → 0 < k → k ≤ ceiling_on p i → BadSlice p i k (get_or (figures_of p i).slice (k - 1) 0)
  unfolding bad_slice_at
  slice_is k s l =
      let t = figures_say p i good in
      let e : k - 1 + 1 ≡ k = omega arith in
      let same : get_or (figures_of p i).slice (k - 1) 0 ≡ bad_slice p.frame (held_on p i) k (kind_of p i).deadline =
      ap (λ (f : Figures). get_or f.slice (k - 1) 0) figures_are
      ∙ stored_at (ceiling_on p i) 8 (bad_slice_at p i) (k - 1) (omega arith) (ceiling_room p t.0 i t.1)
      ∙ ap (λ (n : ℕ). bad_slice p.frame (held_on p i) n (kind_of p i).deadline) e in
      rw same (bad_on p i t.0.counts.some_slice k)

  -- beyond q stands 0
  pub none_past : (j : ℕ) → ceiling_on p i ≤ j → (get_or (figures_of p i).supply j 0 ≡ 0) × (get_or (figures_of p i).slice j 0 ≡ 0)
  none_past j l = (
    ap (λ (f : Figures). get_or f.supply j 0) figures_are ∙ stored_past (ceiling_on p i) 8 (supply_at p i) j l,
    ap (λ (f : Figures). get_or f.slice j 0) figures_are ∙ stored_past (ceiling_on p i) 8 (bad_slice_at p i) j l,
  )
