-- The verdict is what document 01 says: a plan is admitted exactly when every kind fits at some k, each k given is the least, and 8 names
-- the first kind with no k and its excess. The slice beside a k or an excess is the bad one to arrive in.
-- Assumes nothing.
use Rattle.std.specs.Prelude.{◌≡◌, refl, ◌↔◌, ℕ, zero, suc, ◌-◌, ◌≤◌, ◌<◌, eqb, get_or, replicate}
use Rattle.std.proofs.Common.{sym, ◌∙◌}
use Rattle.std.proofs.Math.Path.{ap}
use Rattle.std.proofs.Math.Nat.{add-mod_right}
use Rattle.std.proofs.Math.Decide.{dec_lt}
use native.Mathlib.Omega.{arith}
use Rattle.std.proofs.lemmas.List.{length-replicate, get_or-replicate}
use Rattle.std.proofs.Math.ListN.{get_or-eq_default}
use borrow.Author.Tests.{eq-eqb, ne_eqb, eqb-false}
use Rattle.laws.specs.Written.Properties.{written_at, written_kept}
use Rattle.plan.specs.declared.Plan.{Plan}
use Rattle.answer.specs.declared.Answer.{Answer}
use Rattle.answer.specs.declared.Answer.TheVariants.{Good, No}
use Rattle.answer.specs.declared.Refusal.{Refusal}
use Rattle.answer.specs.Answer.{not_admitted, ◌and_then◌, each_to}
use Rattle.answer.specs.Answer.Properties.{and_then_good, and_then_no, and_then_left, and_then_right, refuse_good, each_at, each_of}
use Rattle.answer.specs.Answer.Properties.{each_opened}
use Rattle.plan.specs.Order.{kind_of, checked, InOrder}
use Rattle.plan.specs.Order.Properties.{in_order, in_order_good}
use Rattle.layout.specs.Layout.{held}
use Rattle.supply.specs.Supply.{Periodic, bad_slice}
use Rattle.supply.proofs.Laws.Supply.{supply_everywhere, bad_below, bad_attains, bad_earliest, bad_only, bad_no_width}
use Rattle.supply.specs.Fit.{least_width, named_slice}
use Rattle.supply.proofs.Laws.Fit.{width_most, width_fits, width_least, width_some, excess_within, excess_allows, excess_greatest}
use Rattle.supply.proofs.Laws.Fit.{named_is, slice_given}
use Rattle.workload.specs.Workload.{workload}
use Rattle.verdict.specs.Verdict.{ceiling_on, held_on, width_of, excess_of, bad_slice_of, fitted, admitted, verdict_of, judged}
use Rattle.verdict.specs.Admission.{Allows, Fits, Excess, NotAdmitted, BadSlice, Names}

-- ---- the k of one kind

module _ (p : Plan) (i : ℕ) where
  kind_fits : 0 < width_of p i → Fits p i (width_of p i)
  unfolding width_of
  kind_fits l =
      record { width = record { some = l; most = width_most _ _ _ _ _ (ceiling_on p i) }; room = width_fits _ _ _ _ _ (ceiling_on p i) l }

  kind_some : (k : ℕ) → Fits p i k → 0 < width_of p i
  unfolding width_of
  kind_some k f = width_some _ _ _ _ _ (ceiling_on p i) k f.width.some f.width.most f.room

  kind_least : (k : ℕ) → Fits p i k → width_of p i ≤ k
  unfolding width_of
  kind_least k f =
      elim (dec_lt k (width_of p i)) [
        | yes q ↦ absurd (omega (
          arith,
          f.room,
          width_least p.frame (held_on p i) (kind_of p i).length
              (workload p i) (kind_of p i).deadline (ceiling_on p i) k f.width.some q,
        ))
        | no q ↦ omega arith
      ]

  -- the least k that allows a length; 0 where there is none
  abbrev width_for : ℕ → ℕ
  width_for c = least_width p.frame (held_on p i) c (workload p i) (kind_of p i).deadline (ceiling_on p i)

  width_allows : (c : ℕ) → 0 < width_for c → Allows p i c (width_for c)
  width_allows c l =
      record { width = record { some = l; most = width_most _ _ _ _ _ (ceiling_on p i) }; room = width_fits _ _ _ _ _ (ceiling_on p i) l }

  allows_width : (c k : ℕ) → Allows p i c k → 0 < width_for c
  allows_width c k a = width_some _ _ _ _ _ (ceiling_on p i) k a.width.some a.width.most a.room

  kind_excess : Excess p i (excess_of p i)
  unfolding excess_of
  kind_excess =
      record {
        most = excess_within p.frame (held_on p i) (kind_of p i).length (workload p i) (kind_of p i).deadline (ceiling_on p i);
        allowed =
            λ l. (
              width_for ((kind_of p i).length - excess_of p i),
              width_allows ((kind_of p i).length - excess_of p i)
                  (excess_allows p.frame (held_on p i) (kind_of p i).length (workload p i) (kind_of p i).deadline (ceiling_on p i) l),
            );
        greatest =
            λ c k l a. excess_greatest p.frame (held_on p i) (kind_of p i).length (workload p i) (kind_of p i).deadline (ceiling_on p i)
            c k l a.width.some a.width.most a.room;
      }

  -- ---- the bad slice

  -- "taken modulo F"
  held_turn : Periodic p.frame (held_on p i)
  unfolding held
  held_turn s = rw (add-mod_right s p.frame)

  module _ (slices : 0 < p.frame) where
    -- that of a k, on the cards that its project really holds
    pub bad_on : (k : ℕ) → BadSlice p i k (bad_slice p.frame (held_on p i) k (kind_of p i).deadline)
    bad_on k =
        record {
          in_frame = bad_below p.frame (held_on p i) slices k (kind_of p i).deadline;
          attained = bad_attains p.frame (held_on p i) slices k (kind_of p i).deadline;
          earliest = bad_earliest p.frame (held_on p i) slices k (kind_of p i).deadline;
          least = λ b. supply_everywhere p.frame (held_on p i) held_turn slices k b (kind_of p i).deadline;
        }

    -- beside the k given
    bad_given : 0 < width_of p i → BadSlice p i (width_of p i) (bad_slice_of p i)
    unfolding width_of bad_slice_of
    bad_given l =
        rw (slice_given p.frame (held_on p i) (kind_of p i).length (workload p i) (kind_of p i).deadline (ceiling_on p i) l) (bad_on _)

    -- it is that of the least k that allows what the excess leaves
    slice_is : bad_slice_of p i ≡ bad_slice p.frame (held_on p i) (width_for ((kind_of p i).length - excess_of p i)) (kind_of p i).deadline
    unfolding bad_slice_of excess_of named_slice
    slice_is =
        ap (λ (k : ℕ). bad_slice p.frame (held_on p i) k (kind_of p i).deadline)
        (named_is p.frame (held_on p i) (kind_of p i).length (workload p i) (kind_of p i).deadline (ceiling_on p i))

    -- beside the excess
    bad_named : (k : ℕ) → Names p i (excess_of p i) k → BadSlice p i k (bad_slice_of p i)
    bad_named k n = rw (slice_is, same) (bad_on k)
      where
        c : ℕ
        c = (kind_of p i).length - excess_of p i

        same : width_for c ≡ k
        same =
            let some = allows_width c k n.allows in
            elim (dec_lt (width_for c) k) [
              | yes l ↦ absurd (n.first (width_for c) l (width_allows c some))
              | no l ↦ elim (dec_lt k (width_for c)) [
                | yes m ↦
                    absurd (omega (
                      arith,
                      n.allows.room,
                      width_least p.frame (held_on p i) c (workload p i) (kind_of p i).deadline (ceiling_on p i) k
                          n.allows.width.some m,
                    ))
                | no m ↦ omega arith
              ]
            ]

    -- "or 0 without one"
    bad_unnamed : ((k : ℕ) → Allows p i ((kind_of p i).length - excess_of p i) k → ⊥) → bad_slice_of p i ≡ 0
    bad_unnamed none =
        rw (slice_is, (let e : width_for c ≡ 0 = no_width in e)) (bad_no_width p.frame (held_on p i) slices (kind_of p i).deadline)
      where
        c : ℕ
        c = (kind_of p i).length - excess_of p i

        no_width : width_for c ≡ 0
        no_width = elim (dec_lt 0 (width_for c)) [ yes l ↦ absurd (none (width_for c) (width_allows c l)) | no l ↦ omega arith ]

    -- two bad slices of one k are one
    pub bad_one : (k a b : ℕ) → BadSlice p i k a → BadSlice p i k b → a ≡ b
    bad_one k a b s t = its a s ∙ sym (its b t)
      where
        its : (c : ℕ) → BadSlice p i k c → c ≡ bad_slice p.frame (held_on p i) k (kind_of p i).deadline
        its c u = bad_only p.frame (held_on p i) slices k (kind_of p i).deadline c u.in_frame u.attained u.earliest

  -- ---- 8 or not

  fitted_of : 0 < width_of p i → fitted p i ≡ Good
  unfolding fitted
  fitted_of l = rw (ne_eqb (width_of p i) 0 (λ e. omega arith))

  fitted_good : fitted p i ≡ Good → 0 < width_of p i
  unfolding fitted
  fitted_good e = let n = eqb-false (width_of p i) 0 (refuse_good (eqb (width_of p i) 0) _ e) in omega arith

  fitted_no : width_of p i ≡ 0 → fitted p i ≡ not_admitted i (excess_of p i) (bad_slice_of p i)
  unfolding fitted
  fitted_no e = rw (eq-eqb (width_of p i) 0 e)

  fitted_told : (w : Refusal) → fitted p i ≡ No w → (width_of p i ≡ 0) × (not_admitted i (excess_of p i) (bad_slice_of p i) ≡ No w)
  fitted_told w e = elim (dec_lt 0 (width_of p i)) [ yes q ↦ none (fitted_of q) | no q ↦ (omega arith, sym (fitted_no (omega arith)) ∙ e) ]
    where
      none : fitted p i ≡ Good → (width_of p i ≡ 0) × (not_admitted i (excess_of p i) (bad_slice_of p i) ≡ No w)
      none g = let z : ◌≡◌ {A = ℕ} 0 1 = cc in absurd (omega arith)

-- the first place that is refused
pub each_no : (n : ℕ) (f : ℕ → Answer) (w : Refusal) → each_to n f ≡ No w →
    (i : ℕ) × (i < n) × (f i ≡ No w) × ((j : ℕ) → j < i → f j ≡ Good)
unfolding each_to
each_no zero f w e = let z : ◌≡◌ {A = ℕ} 0 1 = cc in absurd (omega arith)
each_no (suc n) f w e = go (each_to n f) refl (each_no n f w)
  where
    go : (a : Answer) → each_to n f ≡ a → (each_to n f ≡ No w → (i : ℕ) × (i < n) × (f i ≡ No w) × ((j : ℕ) → j < i → f j ≡ Good)) →
        (i : ℕ) × (i < suc n) × (f i ≡ No w) × ((j : ℕ) → j < i → f j ≡ Good)
    go Good g rec = (n, omega arith, sym (and_then_good (each_to n f) (f n) g) ∙ e, each_at n f g)
    go (No r) g rec = let t = rec (g ∙ sym (and_then_no (each_to n f) (f n) r g) ∙ e) in (t.0, omega (arith, t.1), t.2, t.3)

-- ---- the stages

-- "Records: 2, 3, 4, 5/6, 7" come first
pub order_first : (p : Plan) (r : Refusal) → checked p ≡ No r → (judged p).answer ≡ No r
unfolding judged
order_first p r e = and_then_no (checked p) (admitted p) r e

pub order_next : (p : Plan) → InOrder p → (judged p).answer ≡ admitted p
unfolding judged
order_next p o = and_then_good (checked p) (admitted p) (in_order_good p o)

pub judged_in_order : (p : Plan) → (judged p).answer ≡ Good → InOrder p
unfolding judged
judged_in_order p e = in_order p (and_then_left (checked p) (admitted p) e)

judged_admitted : (p : Plan) → (judged p).answer ≡ Good → admitted p ≡ Good
unfolding judged
judged_admitted p e = and_then_right (checked p) (admitted p) e

kind_admitted : (p : Plan) → (judged p).answer ≡ Good → (i : ℕ) → i < p.kinds → 0 < width_of p i
unfolding admitted
kind_admitted p e i l = fitted_good p i (each_at p.kinds (fitted p) (judged_admitted p e) i l)

-- ---- demand 2

-- admitted exactly when the record is in order and for every kind some k in 1..q has kC + W <= S(k,D)
pub admitted_exactly : (p : Plan) → ((judged p).answer ≡ Good) ↔ (InOrder p × ((i : ℕ) → i < p.kinds → (k : ℕ) × Fits p i k))
unfolding admitted
admitted_exactly p = (
  λ e. (judged_in_order p e, λ i l. (width_of p i, kind_fits p i (kind_admitted p e i l))),
  λ t. order_next p t.0 ∙ each_of p.kinds (fitted p) (λ i l. fitted_of p i (kind_some p i (t.1 i l).0 (t.1 i l).1)),
)

-- the k given
width_at : (p : Plan) → (judged p).answer ≡ Good → (i : ℕ) → i < p.kinds → get_or (judged p).width i 0 ≡ width_of p i
unfolding judged
width_at p e i l =
    rw e (written_at p.kinds (width_of p) (replicate 16 0) 0 i l
    (omega (arith, length-replicate {A = ℕ} 16 0, (judged_in_order p e).counts.kinds_most)))

-- "The verdict gives for each kind the least such k": it fits
pub given_fits : (p : Plan) → (judged p).answer ≡ Good → (i : ℕ) → i < p.kinds → Fits p i (get_or (judged p).width i 0)
given_fits p e i l = rw (width_at p e i l) (kind_fits p i (kind_admitted p e i l))

-- and it is the least that does
pub given_least : (p : Plan) → (judged p).answer ≡ Good → (i : ℕ) → i < p.kinds → (k : ℕ) → Fits p i k → get_or (judged p).width i 0 ≤ k
given_least p e i l k f = rw (width_at p e i l) (kind_least p i k f)

zeros : (i : ℕ) → get_or {A = ℕ} (replicate 16 0) i 0 ≡ 0
zeros i =
    elim (dec_lt i 16) [
      | yes q ↦ get_or-replicate 16 i 0 0 q
      | no q ↦ get_or-eq_default {A = ℕ} (replicate 16 0) 0 {n = i} (omega (arith, length-replicate {A = ℕ} 16 0))
    ]

-- "k 0 beyond n"
pub none_beyond : (p : Plan) (i : ℕ) → p.kinds ≤ i → get_or (judged p).width i 0 ≡ 0
unfolding judged
none_beyond p i l = go (checked p and_then admitted p)
  where
    go : (a : Answer) → get_or (verdict_of p a).width i 0 ≡ 0
    go Good = written_kept p.kinds (width_of p) (replicate 16 0) 0 i l ∙ zeros i
    go (No r) = zeros i

-- "A refused verdict gives k 0 for every kind"
pub none_refused : (p : Plan) (r : Refusal) → (judged p).answer ≡ No r → (judged p).width ≡ replicate 16 0
unfolding judged
none_refused p r e = rw e

-- ---- the slice beside each k

slice_at : (p : Plan) → (judged p).answer ≡ Good → (i : ℕ) → i < p.kinds → get_or (judged p).slice i 0 ≡ bad_slice_of p i
unfolding judged
slice_at p e i l =
    rw e (written_at p.kinds (bad_slice_of p) (replicate 16 0) 0 i l
    (omega (arith, length-replicate {A = ℕ} 16 0, (judged_in_order p e).counts.kinds_most)))

-- the bad one of the k given
pub given_slice : (p : Plan) → (judged p).answer ≡ Good → (i : ℕ) → i < p.kinds →
    BadSlice p i (get_or (judged p).width i 0) (get_or (judged p).slice i 0)
given_slice p e i l =
    rw (width_at p e i l, slice_at p e i l) (bad_given p i (judged_in_order p e).counts.some_slice (kind_admitted p e i l))

-- "0 .. beside a k of 0"
pub no_slice_beyond : (p : Plan) (i : ℕ) → p.kinds ≤ i → get_or (judged p).slice i 0 ≡ 0
unfolding judged
no_slice_beyond p i l = go (checked p and_then admitted p)
  where
    go : (a : Answer) → get_or (verdict_of p a).slice i 0 ≡ 0
    go Good = written_kept p.kinds (bad_slice_of p) (replicate 16 0) 0 i l ∙ zeros i
    go (No r) = zeros i

pub no_slice_refused : (p : Plan) (r : Refusal) → (judged p).answer ≡ No r → (judged p).slice ≡ replicate 16 0
unfolding judged
no_slice_refused p r e = rw e

-- ---- 8

-- two excesses are one
excess_below : (p : Plan) (i x y : ℕ) → Excess p i x → Excess p i y → x < y → ⊥
excess_below p i x y a b l =
    let t = a.allowed (omega (arith, b.most)) in
    omega (arith, b.most, b.greatest ((kind_of p i).length - x) t.0 (omega arith) t.1)

excess_one : (p : Plan) (i x y : ℕ) → Excess p i x → Excess p i y → x ≡ y
excess_one p i x y a b =
    elim (dec_lt x y) [
      | yes l ↦ absurd (excess_below p i x y a b l)
      | no l ↦ elim (dec_lt y x) [ yes m ↦ absurd (excess_below p i y x b a m) | no m ↦ omega arith ]
    ]

-- 8 exactly for the first kind with no k, with its excess and the slice of it
pub refused_exactly : (p : Plan) → InOrder p → (i x a : ℕ) →
    ((judged p).answer ≡ not_admitted i x a) ↔ ((NotAdmitted p i x) × (a ≡ bad_slice_of p i))
unfolding admitted
refused_exactly p o i x a = (told, tell)
  where
    kind : (n : ℕ) → width_of p n ≡ 0 → n < p.kinds → ((j : ℕ) → j < n → fitted p j ≡ Good) → NotAdmitted p n (excess_of p n)
    kind n e l g =
        record {
          its_kind = l;
          first = λ j m. (width_of p j, kind_fits p j (fitted_good p j (g j m)));
          no_width = λ k f. omega
              (arith, kind_some p n k f);
          excess = kind_excess p n;
        }

    told : (judged p).answer ≡ not_admitted i x a → (NotAdmitted p i x) × (a ≡ bad_slice_of p i)
    told e =
        let t = each_no p.kinds (fitted p) _ (sym (order_next p o) ∙ e) in
        let s = fitted_told p t.0 _ t.2 in
        let b : t.0 ≡ i = cc s.1 in
        let c : excess_of p t.0 ≡ x = cc s.1 in
        let d : bad_slice_of p t.0 ≡ a = cc s.1 in
        (rw (c, b) at (kind t.0 s.0 t.1 t.3), sym d ∙ ap (bad_slice_of p) b)

    tell : (NotAdmitted p i x) × (a ≡ bad_slice_of p i) → (judged p).answer ≡ not_admitted i x a
    tell t =
        let n = t.0 in
        let none : width_of p i ≡ 0 = elim (dec_lt 0 (width_of p i))
        [ yes q ↦ absurd (n.no_width (width_of p i) (kind_fits p i q)) | no q ↦ omega arith ] in
        let same = excess_one p i (excess_of p i) x (kind_excess p i) n.excess in
        let before = each_of i (fitted p) (λ j l. fitted_of p j (kind_some p j (n.first j l).0 (n.first j l).1)) in
        order_next p o
        ∙ sym
        (each_opened p.kinds i (fitted p) (not_admitted i (excess_of p i) (bad_slice_of p i)) _ (sym before) refl (sym (fitted_no p i none))
        n.its_kind)
        ∙ rw (same, t.1)

-- the slice beside an excess is the bad one of the k that it names
pub refused_slice : (p : Plan) → InOrder p → (i x : ℕ) → NotAdmitted p i x → (k : ℕ) → Names p i x k → BadSlice p i k (bad_slice_of p i)
refused_slice p o i x n k named =
    let same = excess_one p i x (excess_of p i) n.excess (kind_excess p i) in
    bad_named p i o.counts.some_slice k (rw same at named)

-- and 0 where it names none
pub refused_no_slice : (p : Plan) → InOrder p → (i x : ℕ) → NotAdmitted p i x →
    ((k : ℕ) → Allows p i ((kind_of p i).length - x) k → ⊥) → bad_slice_of p i ≡ 0
refused_no_slice p o i x n none =
    let same = excess_one p i (excess_of p i) x (kind_excess p i) n.excess in
    bad_unnamed p i o.counts.some_slice (rw same none)
