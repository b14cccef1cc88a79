-- Laws of the steps.
-- Assumes nothing.
use Rattle.std.specs.Prelude.{◌≡◌, refl, Bool, true, false, cond, List, ℕ, zero, suc, ◌+◌, ◌*◌, ◌/◌, ◌%◌, ◌≤◌, ◌<◌, ltb, set, get_or}
use Rattle.std.specs.Prelude.{length, take, replicate}
use Rattle.std.proofs.Common.{sym, ap, ◌∙◌, mod-eq_of_lt, mod-lt, mul-le-mul, mul-le-mul_right, div-add-mod', div-lt_iff_lt-mul, zero-mul}
use Rattle.std.proofs.Common.{lt-ltb, le-ltb, eq-eqb, ne_eqb}
use Rattle.std.proofs.Math.Path.{fun_ext}
use Rattle.std.proofs.Math.Decide.{dec_lt}
use Rattle.std.proofs.Math.Nat.{mod-mod, zero-add}
use mir.Val.{bool_byte}
use native.Mathlib.Omega.{arith}
use Rattle.std.proofs.Math.ListN.{length-replicate}
use Rattle.std.proofs.lemmas.List.{get_or-take, length-take-le}
use Rattle.laws.specs.Written.{written}
use Rattle.laws.specs.Written.Properties.{written_again, written_at, written_length}
use Rattle.plan.specs.declared.Plan.{Plan}
use Rattle.plan.specs.Record.{no_kind}
use Rattle.layout.proofs.Laws.Front.{front_most, front_at, front_end}
use Rattle.answer.specs.declared.Answer.{Answer}
use Rattle.answer.specs.declared.Answer.TheVariants.{Good}
use Rattle.answer.specs.Answer.{not_admitted, each_to}
use Rattle.plan.specs.Order.{project_of, kind_of, budgets_fit, checked}
use Rattle.plan.specs.Open.{with_budget, checked_open, InOrderOpen}
use Rattle.plan.specs.Open.Properties.{open_opened, with_checked}
use Rattle.layout.specs.Cards.{cards_below, held_from}
use Rattle.layout.specs.Cards.Properties.{below_start, below_frames, below_cell, past_cell, below_part, run_closed}
use Rattle.layout.specs.Layout.{cell_at, first_cell}
use Rattle.supply.specs.declared.Fit.{Fit}
use Rattle.supply.specs.Fit.{held_at, fit_of}
use Rattle.supply.proofs.Laws.Fit.{fit_framed, excess_within, slice_in_frame}
use Rattle.workload.specs.Workload.{workload}
use Rattle.workload.specs.Workload.Properties.{workload_most}
use Rattle.smallest_budget.specs.declared.Asked.{Asked}
use Rattle.smallest_budget.specs.Rotation.{width_anywhere, excess_anywhere}
use Rattle.smallest_budget.specs.Smallest.{width_with, excess_with, slice_with, most_budget, least_budget}
use Rattle.smallest_budget.specs.Smallest.{fitted_with, served_with, served_at_most}
use Rattle.smallest_budget.specs.Smallest.Properties.{least_most, least_some}
use Rattle.smallest_budget.specs.Steps.{cards_with, asked_at, nothing_asked, asked_of, fit_by, fitted_by, served_by, fit_with}

-- ---- the cards of a budget from cell 0 on

-- a test as a number
as_cond : (t : Bool) → bool_byte t ≡ cond t 1 0
as_cond true = refl
as_cond false = refl

pub more_most : (b F v : ℕ) (t : Bool) → 0 < F → b ≤ 8 * F → v ≡ bool_byte t → b / F + v < 256
more_most b F v t some l e = go t e
  where
    most : b / F < 9
    most = (div-lt_iff_lt-mul {k = F} {x = b} {y = 9} some).1 (omega arith)

    go : (t : Bool) → v ≡ bool_byte t → b / F + v < 256
    go true e = omega (arith, most)
    go false e = omega (arith, most)

module _ (b F s : ℕ) (l : s < F) where
  -- the rest of less than a frame: one card at each of its first slices
  rest_below : (r : ℕ) → r ≤ F → cards_below F r s ≡ cond (ltb s r) 1 0
  unfolding cell_at
  rest_below r m =
      elim (dec_lt s r) [
        | yes q ↦
            rw (lt-ltb s r q) (omega (
              arith,
              below_cell F s l r 0 (rw (zero-mul F, zero-add s) q),
              rw (zero-add r) at (below_part F s l 0 r m),
              below_start F s l,
            ))
        | no q ↦ rw (le-ltb s r (omega arith)) (omega (arith, past_cell F s l r 0 (rw (zero-mul F, zero-add s) (omega arith))))
      ]

  -- "at slice s either floor(B/F) or that plus one card": which, from cell 0 on
  pub laid : held_from 0 b F s ≡ b / F + cond (ltb s (b % F)) 1 0
  laid =
      let some : 0 < F = omega arith in
      let r : b % F ≤ F = omega (arith, mod-lt b some) in
      let e : s % F ≡ s = mod-eq_of_lt l in
      let d : b % F + b / F * F ≡ b = omega (arith, div-add-mod' b F) in
      let c = rw (e, zero-add b) at (run_closed 0 b F s some) in
      omega (arith, c, below_start F s l, ap (λ (n : ℕ). cards_below F n s) d, below_frames F s l (b % F) (b / F), rest_below (b % F) r)

  pub cards_again : (v : ℕ) (before after : List ℕ) → v ≡ bool_byte (ltb s (b % F)) → before ≡ written s (held_from 0 b F) after →
      set before s (b / F + v) ≡ written (s + 1) (held_from 0 b F) after
  cards_again v before after e h =
      written_again s (held_from 0 b F) after before (b / F + v) h (ap (λ (n : ℕ). b / F + n) (e ∙ as_cond (ltb s (b % F))) ∙ sym laid)

-- a project of a plan in order has a place
pub project_fits : (p : Plan) (j : ℕ) (a : Answer) → a ≡ Good → a ≡ checked_open p j → j < 256
project_fits p j a e q = let o = open_opened p j a e q in omega (arith, o.its_place, o.counts.projects_most)

-- ---- a judgement by what is asked of each kind

pub asked_again : (p : Plan) (i : ℕ) (before after : List Asked) (w : ℕ) → i < length (take p.kinds p.kind) →
    before ≡ written i (asked_at p) after → w ≡ workload p i →
    set before i (record {
      project = (get_or (take p.kinds p.kind) i no_kind).project;
      length = (get_or (take p.kinds p.kind) i no_kind).length;
      deadline = (get_or (take p.kinds p.kind) i no_kind).deadline;
      workload = w;
    }) ≡ written (i + 1) (asked_at p) after
asked_again p i before after w l e q =
    written_again i (asked_at p) after before _ e (rw (front_at p.kinds p.kind no_kind i l, q))

pub asked_stop : (p : Plan) (j i : ℕ) (asked : List Asked) → InOrderOpen p j → length p.kind ≡ 16 →
    asked ≡ written i (asked_at p) (replicate 16 nothing_asked) → i ≤ length (take p.kinds p.kind) → length (take p.kinds p.kind) ≤ i →
    asked ≡ asked_of p
unfolding asked_of
asked_stop p j i asked o long e a b =
    e ∙ ap (λ (n : ℕ). written n (asked_at p) (replicate 16 nothing_asked))
    (front_end p.kinds p.kind i (omega (arith, o.counts.kinds_most)) a b)

each_like : (n : ℕ) (f g : ℕ → Answer) → ((i : ℕ) → i < n → f i ≡ g i) → each_to n f ≡ each_to n g
unfolding each_to
each_like zero f g h = refl
each_like (suc n) f g h = rw (each_like n f g (λ i l. h i (omega arith)), h n (omega arith))

module _ (j : ℕ) (asked : List Asked) (i : ℕ) where
  pub by_skipped : (fit : ℕ → Fit) → ((get_or asked i nothing_asked).project ≡ j → ⊥) → Good ≡ fitted_by j asked fit i
  by_skipped fit n = rw (ne_eqb (get_or asked i nothing_asked).project j n)

  module _ (frame ceiling b : ℕ) (r : Fit) (cards : List ℕ) (c : cards ≡ cards_with b frame)
      (f : r ≡ (let kind = get_or asked i nothing_asked in fit_of frame cards ceiling kind.length kind.workload kind.deadline)) where
    by_is : r ≡ fit_by frame ceiling asked b i
    by_is = f ∙ rw c

    pub excess_room : 0 < frame → frame ≤ 64 → (get_or asked i nothing_asked).length < 65536 → r.excess < 4294967296
    excess_room some most room =
        let kind = get_or asked i nothing_asked in
        let e = f ∙ fit_framed frame cards ceiling kind.length kind.workload kind.deadline (λ z. omega arith) most in
        rw e (omega (arith, excess_within frame (held_at frame cards) kind.length kind.workload kind.deadline ceiling))

    pub by_lacks : (a : Answer) → (get_or asked i nothing_asked).project ≡ j → r.width ≡ 0 → a ≡ not_admitted i r.excess r.slice →
        a ≡ fitted_by j asked (fit_by frame ceiling asked b) i
    by_lacks a e z q = q ∙ rw (eq-eqb (get_or asked i nothing_asked).project j e, ← by_is, eq-eqb r.width 0 z)

    pub by_fits : (get_or asked i nothing_asked).project ≡ j → (r.width ≡ 0 → ⊥) → Good ≡ fitted_by j asked (fit_by frame ceiling asked b) i
    by_fits e n = rw (eq-eqb (get_or asked i nothing_asked).project j e, ← by_is, ne_eqb r.width 0 n)

-- ---- a plan in order but for one budget

module _ (p : Plan) (j : ℕ) (o : InOrderOpen p j) where
  pub some_frame : 0 < p.frame
  some_frame = o.counts.some_slice

  pub frame_room : p.frame ≤ 64
  frame_room = o.counts.frame_most

  pub kinds_room : p.kinds ≤ 16
  kinds_room = o.counts.kinds_most

  pub project_place : j < 8
  project_place = omega (arith, o.its_place, o.counts.projects_most)

  pub most_eight : most_budget p j ≤ 8 * p.frame
  most_eight =
      omega (
        arith,
        mul-le-mul_right p.frame (o.ceiling_most j o.its_place),
        mul-le-mul_right p.frame o.counts.cards_most,
      )

  pub budget_room : (b : ℕ) → b ≤ most_budget p j → b ≤ 8 * p.frame
  budget_room b l = omega (arith, l, most_eight)

  pub most_some : 0 < most_budget p j
  most_some = omega (arith, mul-le-mul (o.some_ceiling j o.its_place) o.counts.some_slice)

  -- the most that a frame of 64 slices and 8 cards has
  pub most_room : (most : ℕ) → most ≡ most_budget p j → most ≤ 512
  most_room most e = omega (arith, e, most_eight, o.counts.frame_most)

  pub most_above : (most : ℕ) → most ≡ most_budget p j → 0 < most
  most_above most e = omega (arith, e, most_some)

  -- half way is not above it
  pub middle_room : (most below enough : ℕ) → most ≡ most_budget p j → below < enough → enough ≤ most → (below + enough) / 2 ≤ 8 * p.frame
  middle_room most below enough e l m = budget_room ((below + enough) / 2) (omega arith)

  pub ceiling_fits : (project_of p j).ceiling < 65536
  ceiling_fits = omega (arith, o.ceiling_most j o.its_place, o.counts.cards_most)

  pub most_fits : most_budget p j < 65536
  most_fits = omega (arith, most_room (most_budget p j) refl)

  -- the least budget, where the most serves
  pub found_some : (b : ℕ) (a : Answer) → a ≡ Good → a ≡ served_at_most p j → b ≡ least_budget p j → 0 < b
  found_some b a e q f = omega (arith, f, least_some p j most_some (sym q ∙ e))

  pub found_room : (b : ℕ) → b ≡ least_budget p j → b ≤ most_budget p j
  found_room b f = omega (arith, f, least_most p j)

  -- the plan with a budget written in that serves
  pub filled_is : (b : ℕ) (a : Answer) → 0 < b → b ≤ most_budget p j → a ≡ checked (with_budget p j b) → a ≡ budgets_fit (with_budget p j b)
  filled_is b a l m e = e ∙ with_checked p j o b l m

  cards_held : (b : ℕ) → held_at p.frame (cards_with b p.frame) ≡ held_from 0 b p.frame
  unfolding held_at cards_with held_from
  cards_held b =
      fun_ext (λ s. written_at p.frame (held_from 0 b p.frame) (replicate 64 0) 0 (s % p.frame) (mod-lt s o.counts.some_slice)
      (omega (arith, length-replicate {A = ℕ} 64 0, o.counts.frame_most)) ∙ rw (mod-mod s p.frame))

  module _ (i : ℕ) (l : i < p.kinds) where
    pub workload_room : (w : ℕ) → w ≡ workload p i → w < 4294967296
    workload_room w e = omega (arith, e, workload_most p o.counts.kinds_most o.kind_at_law i l)

    pub with_room : (b : ℕ) (r : Fit) → r ≡ fit_with p j b i → r.excess < 16777216
    unfolding excess_with
    with_room b r e =
        let a = o.kind_at_law i l in
        rw e (omega (
          arith,
          excess_within p.frame (held_from (first_cell p j) b p.frame) (kind_of p i).length (workload p i) (kind_of p i).deadline
              (project_of p j).ceiling,
          a.length_most,
          a.deadline_most,
          a.separation_most,
        ))

    pub with_slice : (b : ℕ) → slice_with p j b i < 64
    unfolding slice_with
    with_slice b =
        omega (
          arith,
          slice_in_frame p.frame (held_from 0 b p.frame) (kind_of p i).length (workload p i) (kind_of p i).deadline
              o.counts.some_slice (project_of p j).ceiling,
          o.counts.frame_most,
        )

    kind_at : get_or (take p.kinds (asked_of p)) i nothing_asked ≡ asked_at p i
    unfolding asked_of
    kind_at =
        get_or-take p.kinds (asked_of p) i nothing_asked l
        ∙ written_at p.kinds (asked_at p) (replicate 16 nothing_asked) nothing_asked i l
        (omega (arith, length-replicate {A = Asked} 16 nothing_asked, o.counts.kinds_most))

    -- what `least_fit` finds of the cards from cell 0 on is the fit on the layout as it is
    fit_is : (b : ℕ) → fit_by p.frame (project_of p j).ceiling (take p.kinds (asked_of p)) b i ≡ fit_with p j b i
    unfolding width_with excess_with slice_with
    fit_is b =
        rw (
          kind_at,
          fit_framed p.frame (cards_with b p.frame) (project_of p j).ceiling (kind_of p i).length (workload p i)
              (kind_of p i).deadline (λ z. omega (arith, o.counts.some_slice)) o.counts.frame_most,
          cards_held b,
          width_anywhere 0 (first_cell p j) b p.frame (kind_of p i).length (workload p i) (kind_of p i).deadline
              (project_of p j).ceiling,
          excess_anywhere 0 (first_cell p j) b p.frame (kind_of p i).length (workload p i) (kind_of p i).deadline
              (project_of p j).ceiling,
        )

    fitted_is : (b : ℕ) →
        fitted_by j (take p.kinds (asked_of p)) (fit_by p.frame (project_of p j).ceiling (take p.kinds (asked_of p)) b) i
        ≡ fitted_with p j b i
    fitted_is b = rw (fit_is b, kind_at)

  -- as many are lent as there are kinds
  pub asked_many : length (take p.kinds (asked_of p)) ≡ p.kinds
  unfolding asked_of
  asked_many =
      length-take-le p.kinds (asked_of p) (omega (
        arith,
        written_length p.kinds (asked_at p) (replicate 16 nothing_asked),
        length-replicate {A = Asked} 16 nothing_asked,
        o.counts.kinds_most,
      ))

  -- a judgement by what is asked of each kind is the judgement of the plan
  pub served_is : (b : ℕ) (asked : List Asked) (a : Answer) → asked ≡ take p.kinds (asked_of p) →
      a ≡ served_by j asked (fit_by p.frame (project_of p j).ceiling asked b) → a ≡ served_with p j b
  unfolding served_by served_with
  served_is b asked a f e = e ∙ rw (f, asked_many) (each_like p.kinds _ (fitted_with p j b) (λ i l. fitted_is i l b))

  pub served_open : (b : ℕ) (all : List Asked) (a : Answer) → all ≡ asked_of p →
      a ≡ served_by j (take p.kinds all) (fit_by p.frame (project_of p j).ceiling (take p.kinds all) b) → a ≡ served_with p j b
  served_open b all a e f = served_is b (take p.kinds all) a (ap (take p.kinds) e) f

  pub asked_most : (asked : List Asked) → asked ≡ take p.kinds (asked_of p) → length asked ≤ 16
  asked_most asked e = omega (arith, ap (λ (l : List Asked). length l) e, asked_many, kinds_room)

  pub open_most : (all : List Asked) → length (take p.kinds all) ≤ 16
  open_most all = omega (arith, front_most p.kinds all, kinds_room)
