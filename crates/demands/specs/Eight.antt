-- Refusal 8 by its number, place, excess and slice: the record order never gives it, and the verdict gives nothing else.
-- Assumes nothing.
use Rattle.std.specs.Prelude.{◌≡◌, refl, ◌≢◌, ◌↔◌, Bool, true, false, ℕ, zero, suc, ◌-◌, eqb}
use Rattle.std.proofs.Common.{sym, ap, ◌∙◌, arith}
use Rattle.std.proofs.lemmas.Bool.{false≢true}
use Rattle.answer.specs.declared.Answer.{Answer}
use Rattle.answer.specs.declared.Answer.TheVariants.{Good, No}
use Rattle.answer.specs.declared.Refusal.{Refusal}
use Rattle.answer.specs.Answer.{not_admitted, number, place, excess, slice, refuse, ◌and_then◌, each_to}
use Rattle.answer.specs.Numbers.{among}
use Rattle.plan.specs.declared.Plan.{Plan}
use Rattle.plan.specs.Order.{kind_of, InOrder, checked}
use Rattle.plan.specs.Order.Properties.{in_order}
use Rattle.verdict.specs.Verdict.{width_of, excess_of, bad_slice_of, fitted, admitted, judged}
use Rattle.verdict.specs.Admission.{Allows, NotAdmitted, BadSlice, Names}
use Rattle.verdict.specs.Admission.Properties.{order_first, order_next, refused_exactly, refused_slice, refused_no_slice}
use Rattle.demands.specs.Numbers.{record_order, check_numbers}

-- ---- "Records: 2, 3, 4, 5/6, 7"

check_not_eight : (p : Plan) (r : Refusal) → checked p ≡ No r → number (checked p) ≢ 8
unfolding among
check_not_eight p r e z =
    let listed : among record_order 8 ≡ true = rw z at ((check_numbers p).its_number r e) in
    false≢true listed

-- ---- "8: not admitted"

-- good, or that
abbrev Eight : Answer → Type 0
Eight a = number a ≢ 0 → a ≡ not_admitted (place a) (excess a) (slice a)

good_eight : Eight Good
good_eight h = absurd (h refl)

fitted_eight : (p : Plan) (i : ℕ) → Eight (fitted p i)
unfolding fitted
fitted_eight p i = go (eqb (width_of p i) 0)
  where
    go : (t : Bool) → Eight (refuse t (not_admitted i (excess_of p i) (bad_slice_of p i)))
    go true h = refl
    go false h = good_eight h

next_eight : (a b : Answer) → Eight a → Eight b → Eight (a and_then b)
next_eight Good b p q = q
next_eight (No r) b p q = p

each_eight : (n : ℕ) (f : ℕ → Answer) → ((i : ℕ) → Eight (f i)) → Eight (each_to n f)
unfolding each_to
each_eight zero f h = good_eight
each_eight (suc n) f h = next_eight (each_to n f) (f n) (each_eight n f h) (h n)

admitted_eight : (p : Plan) → Eight (admitted p)
unfolding admitted
admitted_eight p = each_eight p.kinds (fitted p) (fitted_eight p)

-- ---- exactly when

-- with its slice
told_eight : (p : Plan) →
    let a = (judged p).answer in
    number a ≡ 8 → InOrder p × NotAdmitted p (place a) (excess a) × (slice a ≡ bad_slice_of p (place a))
told_eight p t = go (checked p) refl
  where
    go : (c : Answer) → checked p ≡ c →
        let a = (judged p).answer in
        InOrder p × NotAdmitted p (place a) (excess a) × (slice a ≡ bad_slice_of p (place a))
    go Good e =
        let o = in_order p e in
        let a = (judged p).answer in
        let shape : Eight a = rw (order_next p o) (admitted_eight p) in
        let told = (refused_exactly p o (place a) (excess a) (slice a)).0 (shape (λ z. omega (arith, t))) in
        (o, told.0, told.1)
    go (No r) e = absurd (check_not_eight p r e (ap number e ∙ sym (ap number (order_first p r e)) ∙ t))

eight_says : (p : Plan) (i x : ℕ) →
    let a = (judged p).answer in
    (number a ≡ 8) × (place a ≡ i) × (excess a ≡ x) → InOrder p × NotAdmitted p i x
eight_says p i x t = let s = told_eight p t.0 in (s.0, rw (t.1, t.2) at s.1)

eight_of : (p : Plan) (i x : ℕ) → InOrder p × NotAdmitted p i x →
    let a = (judged p).answer in
    (number a ≡ 8) × (place a ≡ i) × (excess a ≡ x)
eight_of p i x t = let e = (refused_exactly p t.0 i x (bad_slice_of p i)).1 (t.1, refl) in (ap number e, ap place e, ap excess e)

-- 8 with place i and excess x is given exactly when the plan is in order and kind i is the first with no k, with excess x
pub eight_exactly : (p : Plan) (i x : ℕ) →
    let a = (judged p).answer in
    ((number a ≡ 8) × (place a ≡ i) × (excess a ≡ x)) ↔ (InOrder p × NotAdmitted p i x)
eight_exactly p i x = (eight_says p i x, eight_of p i x)

-- and its slice is the bad one of the k that the excess names
pub eight_slice : (p : Plan) (k : ℕ) →
    let a = (judged p).answer in
    number a ≡ 8 → Names p (place a) (excess a) k → BadSlice p (place a) k (slice a)
eight_slice p k t named =
    let a = (judged p).answer in
    let s = told_eight p t in
    rw s.2 (refused_slice p s.0 (place a) (excess a) s.1 k named)

-- or 0 where it names none
pub eight_no_slice : (p : Plan) →
    let a = (judged p).answer in
    number a ≡ 8 → ((k : ℕ) → Allows p (place a) ((kind_of p (place a)).length - excess a) k → ⊥) → slice a ≡ 0
eight_no_slice p t none =
    let a = (judged p).answer in
    let s = told_eight p t in
    s.2 ∙ refused_no_slice p s.0 (place a) (excess a) s.1 none
