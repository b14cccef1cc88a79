-- Laws of the steps.
-- Assumes nothing.
use Rattle.std.specs.Prelude.{◌≡◌, refl, List, eqb, set, get_or, length, take, replicate}
use Rattle.std.proofs.Math.Path.{sym, fun_ext}
use Rattle.std.proofs.Common.{ap, ◌∙◌, mod-eq_of_lt, mod-lt, mul-le-mul, mul-le-mul_right}
use Prim.Native.Nat.{ℕ, ◌+◌, ◌-◌, ◌*◌, ◌%◌, ◌≤◌, ◌<◌}
use native.Mathlib.Omega.{arith}
use Rattle.std.proofs.Math.ListN.{length-replicate}
use Rattle.laws.specs.Written.{written}
use Rattle.laws.specs.Written.Properties.{written_again, written_at}
use Rattle.plan.specs.declared.Plan.{Plan}
use Rattle.plan.specs.declared.Kind.{Kind}
use Rattle.plan.specs.Record.{no_project, no_kind}
use Rattle.answer.specs.declared.Answer.{Answer}
use Rattle.answer.specs.declared.Answer.TheVariants.{Good, No}
use Rattle.answer.specs.declared.Refusal.{Refusal}
use Rattle.answer.specs.Answer.{not_admitted, refuse, ◌and_then◌, each_to}
use Rattle.answer.specs.Answer.Properties.{each_more, each_stop, each_opened, opened_no, opened_on}
use Rattle.plan.specs.Order.{kind_of, checked, InOrder}
use Rattle.layout.specs.Cards.{cards_below, held_from}
use Rattle.layout.specs.Cards.Properties.{below_grows, run_closed, run_ceiling}
use Rattle.layout.specs.Layout.{first_cell}
use Rattle.layout.proofs.Laws.Front.{front_below, front_end, front_at}
use Rattle.layout.proofs.Laws.Walk.{budget_there}
use Rattle.layout.proofs.Laws.Layout.{first_next, first_most, held_from_law, held_mod}
use Rattle.supply.specs.declared.Fit.{Fit}
use Rattle.supply.specs.Fit.{held_at, fit_of}
use Rattle.supply.proofs.Laws.Fit.{fit_framed, excess_within, slice_in_frame}
use Rattle.verdict.specs.declared.Verdict.{Verdict}
use Rattle.workload.specs.Workload.{workload}
use Rattle.workload.specs.Workload.Properties.{workload_most}
use Rattle.verdict.specs.Verdict.{project_on, ceiling_on, held_on, width_of, excess_of, bad_slice_of, fitted, admitted, verdict_of, judged}
use Rattle.verdict.specs.Steps.{run_cards, project_cards, all_cards, fit_on}

-- ---- a run of cells

module _ (first budget frame s low high : ℕ) (l : s < frame) (below : low ≡ cards_below frame first s)
    (above : high ≡ cards_below frame (first + budget) s) where
  run_at : high - low ≡ held_from first budget frame s
  run_at =
      let e : s % frame ≡ s = mod-eq_of_lt l in let r = run_closed first budget frame s (omega arith) in rw (below, above) (sym (rw e at r))

  pub run_ordered : low ≤ high
  run_ordered = omega (arith, below_grows frame s l first (first + budget) (omega arith))

  pub run_small : budget ≤ 8 * frame → high - low < 256
  run_small b = omega (arith, run_at, run_ceiling first budget frame s (omega arith) 8 b)

  pub run_again : (before after : List ℕ) → before ≡ written s (held_from first budget frame) after →
      set before s (high - low) ≡ written (s + 1) (held_from first budget frame) after
  run_again before after e = written_again s (held_from first budget frame) after before (high - low) e run_at

-- ---- the cards of each project

module _ (p : Plan) (o : InOrder p) (j first : ℕ) (l : j < length (take p.projects p.project)) (here : first ≡ first_cell p j) where
  low : j < p.projects
  low = front_below p.projects p.project j l

  abbrev budget : ℕ
  budget = (get_or (take p.projects p.project) j no_project).budget

  pub first_room : first ≤ 512
  first_room = omega (arith, here, low, first_most p o j (omega (arith, low)), mul-le-mul o.counts.cards_most o.counts.frame_most)

  pub budget_room : budget ≤ 8 * p.frame
  budget_room =
      let v = o.project_at_law j low in
      omega (
        arith,
        budget_there p j l,
        v.budget_most,
        mul-le-mul_right p.frame v.ceiling_most,
        mul-le-mul_right p.frame o.counts.cards_most,
      )

  pub first_fits : first + budget < 65536
  first_fits = omega (arith, first_room, budget_room, o.counts.frame_most)

  pub first_again : first + budget ≡ first_cell p (j + 1)
  first_again = rw (here, budget_there p j l) (sym (first_next p j))

  row_is : run_cards first budget p.frame ≡ project_cards p j
  unfolding run_cards project_cards
  row_is =
      rw (here, budget_there p j l)
      (ap (λ (h : ℕ → ℕ). written p.frame h (replicate 64 0)) (fun_ext (λ s. sym (held_from_law p o j low s))))

  pub cards_again : (before after : List (List ℕ)) (row : List ℕ) → before ≡ written j (project_cards p) after →
      row ≡ run_cards first budget p.frame → set before j row ≡ written (j + 1) (project_cards p) after
  cards_again before after row e q = written_again j (project_cards p) after before row e (q ∙ row_is)

-- after the last
pub cards_stop : (p : Plan) (j : ℕ) (cards : List (List ℕ)) → InOrder p → length p.project ≡ 8 →
    cards ≡ written j (project_cards p) (replicate 8 (replicate 64 0)) → j ≤ length (take p.projects p.project) →
    length (take p.projects p.project) ≤ j → cards ≡ all_cards p
unfolding all_cards
cards_stop p j cards o long e a b =
    e ∙ ap (λ (n : ℕ). written n (project_cards p) (replicate 8 (replicate 64 0)))
    (front_end p.projects p.project j (omega (arith, o.counts.projects_most)) a b)

-- ---- the fit of each kind

module _ (p : Plan) (o : InOrder p) (i : ℕ) (l : i < p.kinds) where
  pub project_place : project_on p i < 8
  project_place = omega (arith, (o.kind_at_law i l).its_project, o.counts.projects_most)

  pub row_at : (cards : List (List ℕ)) (d : List ℕ) → cards ≡ all_cards p →
      get_or cards (project_on p i) d ≡ project_cards p (project_on p i)
  unfolding all_cards
  row_at cards d e =
      rw e (written_at p.projects (project_cards p) (replicate 8 (replicate 64 0)) d (project_on p i) (o.kind_at_law i l).its_project
      (omega (arith, length-replicate 8 (replicate {A = ℕ} 64 0), o.counts.projects_most)))

  -- the same where the kinds are gone through in their part of the record
  pub place_there : i < length (take p.kinds p.kind) → (get_or (take p.kinds p.kind) i no_kind).project < 8
  place_there m = omega (arith, ap (λ (k : Kind). k.project) (front_at p.kinds p.kind no_kind i m), project_place)

  pub row_there : (cards : List (List ℕ)) (d : List ℕ) → i < length (take p.kinds p.kind) → cards ≡ all_cards p →
      get_or cards (get_or (take p.kinds p.kind) i no_kind).project d ≡ project_cards p (project_on p i)
  row_there cards d m e =
      ap (λ (n : ℕ). get_or cards n d) (ap (λ (k : Kind). k.project) (front_at p.kinds p.kind no_kind i m)) ∙ row_at cards d e

  pub cards_held : held_at p.frame (project_cards p (project_on p i)) ≡ held_on p i
  unfolding held_at project_cards
  cards_held =
      fun_ext (λ s. written_at p.frame (held_on p i) (replicate 64 0) 0 (s % p.frame) (mod-lt s o.counts.some_slice)
      (omega (arith, length-replicate {A = ℕ} 64 0, o.counts.frame_most)) ∙ held_mod p (project_on p i) s)

  pub fit_is : (cards : List ℕ) (w : ℕ) (r : Fit) → cards ≡ project_cards p (project_on p i) → w ≡ workload p i →
      r ≡ fit_of p.frame cards (ceiling_on p i) (kind_of p i).length w (kind_of p i).deadline → r ≡ fit_on p i
  unfolding width_of excess_of bad_slice_of
  fit_is cards w r e f q =
      q ∙ rw (
        e,
        f,
        fit_framed p.frame (project_cards p (project_on p i)) (ceiling_on p i) (kind_of p i).length (workload p i)
            (kind_of p i).deadline (λ z. omega (arith, o.counts.some_slice)) o.counts.frame_most,
        cards_held,
      )

  pub workload_room : (w : ℕ) → w ≡ workload p i → w < 4294967296
  workload_room w e = omega (arith, e, workload_most p o.counts.kinds_most o.kind_at_law i l)

  pub excess_room : (r : Fit) → r ≡ fit_on p i → r.excess ≤ 16777215
  unfolding excess_of
  excess_room r e =
      let a = o.kind_at_law i l in
      rw e (omega (
        arith,
        excess_within p.frame (held_on p i) (kind_of p i).length (workload p i) (kind_of p i).deadline (ceiling_on p i),
        a.length_most,
        a.deadline_most,
        a.separation_most,
      ))

pub slice_room : (p : Plan) → InOrder p → (i : ℕ) → bad_slice_of p i < 64
unfolding bad_slice_of
slice_room p o i =
    omega (
      arith,
      slice_in_frame p.frame (held_on p i) (kind_of p i).length (workload p i) (kind_of p i).deadline o.counts.some_slice
          (ceiling_on p i),
      o.counts.frame_most,
    )

-- ---- the kinds in their order

-- 8 or not, for kind i
fit_told : (p : Plan) (i : ℕ) (r : Fit) (a : Answer) → r ≡ fit_on p i →
    a ≡ refuse (eqb r.width 0) (not_admitted i r.excess r.slice) → a ≡ fitted p i
unfolding fitted
fit_told p i r a e q = q ∙ rw e

-- "A refused verdict gives k 0 for every kind"
abbrev refused_by : Answer → Verdict
refused_by a = record { answer = a; width = replicate 16 0; slice = replicate 16 0 }

verdict_no : (p : Plan) (x a : Answer) (w : Refusal) → a ≡ No w → a ≡ x → refused_by a ≡ verdict_of p x
verdict_no p x a w e q = rw (← q, e)

module _ (p : Plan) (i : ℕ) (so : Good ≡ each_to i (fitted p)) where
  -- the first kind with no k leaves at once
  pub fits_no : (r : Fit) (a : Answer) (w : Refusal) → i < p.kinds → a ≡ No w → r ≡ fit_on p i →
      a ≡ refuse (eqb r.width 0) (not_admitted i r.excess r.slice) → refused_by a ≡ verdict_of p (admitted p)
  unfolding admitted
  fits_no r a w l n e q = verdict_no p (admitted p) a w n (each_opened p.kinds i (fitted p) a w so n (fit_told p i r a e q) l)

  pub fits_again : (r : Fit) (a : Answer) → a ≡ Good → r ≡ fit_on p i →
      a ≡ refuse (eqb r.width 0) (not_admitted i r.excess r.slice) → Good ≡ each_to (i + 1) (fitted p)
  fits_again r a g e q = each_more i (fitted p) so (sym g ∙ fit_told p i r a e q)

  pub fits_all : (k s : List ℕ) → k ≡ written i (width_of p) (replicate 16 0) → s ≡ written i (bad_slice_of p) (replicate 16 0) →
      InOrder p → length p.kind ≡ 16 → i ≤ length (take p.kinds p.kind) → length (take p.kinds p.kind) ≤ i →
      record { answer = Good; width = k; slice = s } ≡ verdict_of p (admitted p)
  unfolding admitted
  fits_all k s e f o long a b =
      let z = front_end p.kinds p.kind i (omega (arith, o.counts.kinds_most)) a b in
      rw (
        ← (each_stop i p.kinds (fitted p) Good so (omega (arith, z)) (omega (arith, z))),
        e ∙ ap (λ (n : ℕ). written n (width_of p) (replicate 16 0)) z,
        f ∙ ap (λ (n : ℕ). written n (bad_slice_of p) (replicate 16 0)) z,
      )

pub width_again : (p : Plan) (i : ℕ) (r : Fit) (before after : List ℕ) → before ≡ written i (width_of p) after → r ≡ fit_on p i →
    set before i r.width ≡ written (i + 1) (width_of p) after
width_again p i r before after e q = written_again i (width_of p) after before r.width e (rw q)

pub slice_again : (p : Plan) (i : ℕ) (r : Fit) (before after : List ℕ) → before ≡ written i (bad_slice_of p) after → r ≡ fit_on p i →
    set before i r.slice ≡ written (i + 1) (bad_slice_of p) after
slice_again p i r before after e q = written_again i (bad_slice_of p) after before r.slice e (rw q)

-- ---- the stages

pub judged_no : (p : Plan) (a : Answer) (w : Refusal) → a ≡ No w → a ≡ checked p → refused_by a ≡ judged p
unfolding judged
judged_no p a w e q = verdict_no p (checked p and_then admitted p) a w e (opened_no a (checked p) (admitted p) w e q)

pub judged_on : (p : Plan) (a : Answer) (v : Verdict) → a ≡ Good → a ≡ checked p → v ≡ verdict_of p (admitted p) → v ≡ judged p
unfolding judged
judged_on p a v e q f = f ∙ ap (verdict_of p) (opened_on a (checked p) (admitted p) (admitted p) e q refl)
