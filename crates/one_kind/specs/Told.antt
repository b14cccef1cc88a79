-- The six ways in which building is answered, and so when each number is given.
-- Assumes nothing.
use Rattle.std.specs.Prelude.{◌≡◌, Bool, not, ℕ, ◌*◌, ◌≤◌, ◌<◌, leb}
use Rattle.std.proofs.Math.Path.{refl}
use Rattle.std.proofs.Common.{sym, ◌∙◌}
use Rattle.std.proofs.Math.Bool.{true, false, true≢false}
use Rattle.std.proofs.Math.Decide.{dec_le, dec_lt}
use native.Mathlib.Omega.{arith}
use borrow.Author.Tests.{le-leb, lt-leb}
use Rattle.laws.specs.Sum.{sum_to}
use Rattle.answer.specs.declared.Answer.{Answer}
use Rattle.answer.specs.declared.Answer.TheVariants.{Good, No}
use Rattle.answer.specs.declared.Refusal.{Refusal}
use Rattle.answer.specs.Answer.{bare, at_kind, number, place, refuse, ◌and_then◌}
use Rattle.plan.specs.Order.{budgets_fit}
use Rattle.verdict.specs.Admission.Properties.{each_no}
use Rattle.one_kind.specs.Built.{offered, counts, timed_alone, frame_for, frame_fits, kind_timed, kinds_timed, budget_for, plan_for}
use Rattle.one_kind.specs.Built.{finished_answer}
use Rattle.one_kind.specs.Built.{answer_for, Offer, Timed, Untimed, InLimits, Buildable}
use Rattle.one_kind.specs.Built.Properties.{offer_says, offer_of, timed_says, timed_of, limits_says}
use Rattle.one_kind.specs.Admitted.{budgets_are}

no_good : {A : Type 0} (w : Refusal) → No w ≡ Good → A
no_good w e = let z : ◌≡◌ {A = ℕ} 0 1 = cc in absurd (omega arith)

module _ (m n : ℕ) (T C : ℕ → ℕ) where
  abbrev sum : ℕ
  sum = sum_to n (budget_for n T C)

  module _ (P : Answer → Type 0) (seventeen : (Offer m n → ⊥) → P (bare 17)) (eighteen : Offer m n → 8 < n → P (bare 18))
      (six : (i : ℕ) → Offer m n → n ≤ 8 → i < n → Untimed T C i → P (at_kind 6 i))
      (nineteen : InLimits m n T C → 64 < frame_for n T → P (bare 19))
      (seven : InLimits m n T C → frame_for n T ≤ 64 → m * frame_for n T < sum → P (bare 7)) (good : Buildable m n T C → P Good)
    where
      told_sum : InLimits m n T C → frame_for n T ≤ 64 → P (budgets_fit (plan_for m n T C))
      unfolding budgets_fit
      told_sum o f =
          rw (budgets_are m n T C o) (elim (dec_le sum (m * frame_for n T)) [
            | yes l ↦ rw (le-leb sum (m * frame_for n T) l) (good (record { limits = o; frame_most = f; cells = l }))
            | no l ↦ let k : m * frame_for n T < sum = omega arith in rw (lt-leb sum (m * frame_for n T) k) (seven o f k)
          ])

      told_frame : InLimits m n T C → P (finished_answer m n T C)
      unfolding frame_fits
      told_frame o =
          elim (dec_le (frame_for n T) 64) [
            | yes l ↦ rw (le-leb (frame_for n T) 64 l) (told_sum o l)
            | no l ↦ let k : 64 < frame_for n T = omega arith in rw (lt-leb (frame_for n T) 64 k) (nineteen o k)
          ]

      timed_where : (i : ℕ) → kind_timed T C i ≡ Good → Timed (T i) (C i)
      timed_where i e = go (timed_alone (T i) (C i)) refl e
        where
          go : (t : Bool) → timed_alone (T i) (C i) ≡ t → refuse (not t) (at_kind 6 i) ≡ Good → Timed (T i) (C i)
          go true q f = timed_says (T i) (C i) q
          go false q f = no_good _ f

      told_kind : (i : ℕ) (r : Refusal) → Offer m n → n ≤ 8 → i < n → ((j : ℕ) → j < i → kind_timed T C j ≡ Good) →
          kind_timed T C i ≡ No r → P (No r)
      told_kind i r o k l first e = go (timed_alone (T i) (C i)) refl e
        where
          go : (t : Bool) → timed_alone (T i) (C i) ≡ t → refuse (not t) (at_kind 6 i) ≡ No r → P (No r)
          go true q f = no_good r (sym f)
          go false q f =
              rw f at (six i o k l (record {
                first = λ j h. timed_where j (first j h);
                not_timed = λ t. true≢false (sym (timed_of (T i) (C i) t) ∙ q);
              }))

      told_kinds : (a : Answer) → Offer m n → n ≤ 8 → counts m n ≡ Good → kinds_timed T C n ≡ a → P (a and_then finished_answer m n T C)
      unfolding kinds_timed
      told_kinds Good o k e f = told_frame (limits_says m n T C e f)
      told_kinds (No r) o k e f = let t = each_no n (kind_timed T C) r f in told_kind t.0 r o k t.1 t.3 t.2

      told_counts : (t : Bool) →
          offered m n ≡ t →
          P ((refuse (not t) (bare 17) and_then refuse (not (leb n 8)) (bare 18))
          and_then (kinds_timed T C n and_then finished_answer m n T C))
      unfolding counts
      told_counts true e =
          elim (dec_le n 8) [
            | yes l ↦
                rw (le-leb n 8 l)
                (told_kinds (kinds_timed T C n) (offer_says m n e) l (rw (e, le-leb n 8 l)) refl)
            | no l ↦ let k : 8 < n = omega arith in rw (lt-leb n 8 k) (eighteen (offer_says m n e) k)
          ]
      told_counts false e = seventeen (λ o. true≢false (sym (offer_of m n o) ∙ e))

      pub told : P (answer_for m n T C)
      unfolding answer_for counts
      told = told_counts (offered m n) refl

  -- ---- each number

  abbrev a : Answer
  a = answer_for m n T C

  pub seventeen_says : number a ≡ 17 → Offer m n → ⊥
  seventeen_says =
      told (λ x. number x ≡ 17 → Offer m n → ⊥) (λ z e. z) (λ o l e. absurd (omega arith)) (λ i o k l u e. absurd (omega arith))
      (λ o l e. absurd (omega arith)) (λ o f l e. absurd (omega arith)) (λ b e. absurd (omega arith))

  pub seventeen_of : (Offer m n → ⊥) → number a ≡ 17
  seventeen_of z =
      told (λ x. number x ≡ 17) (λ y. refl) (λ o l. absurd (z o)) (λ i o k l u. absurd (z o)) (λ o l. absurd (z (offer o)))
      (λ o f l. absurd (z (offer o))) (λ b. absurd (z (offer b.limits)))
    where
      offer : InLimits m n T C → Offer m n
      offer o = record { some_card = o.some_card; cards_most = o.cards_most; some_kind = o.some_kind }

  pub eighteen_says : number a ≡ 18 → (Offer m n) × (8 < n)
  eighteen_says =
      told (λ x. number x ≡ 18 → (Offer m n) × (8 < n)) (λ z e. absurd (omega arith)) (λ o l e. (o, l))
      (λ i o k l u e. absurd (omega arith)) (λ o l e. absurd (omega arith)) (λ o f l e. absurd (omega arith)) (λ b e. absurd (omega arith))

  pub eighteen_of : (Offer m n) × (8 < n) → number a ≡ 18
  eighteen_of t =
      told (λ x. number x ≡ 18) (λ z. absurd (z t.0)) (λ o l. refl) (λ i o k l u. absurd (omega (arith, t.1)))
      (λ o l. absurd (omega (arith, t.1, o.kinds_most))) (λ o f l. absurd (omega (arith, t.1, o.kinds_most)))
      (λ b. absurd (omega (arith, t.1, b.limits.kinds_most)))

  abbrev Six : ℕ → Type 0
  Six i = (Offer m n) × (n ≤ 8) × (i < n) × (Untimed T C i)

  pub six_says : (i : ℕ) → (number a ≡ 6) × (place a ≡ i) → Six i
  six_says i =
      told (λ x. (number x ≡ 6) × (place x ≡ i) → Six i) (λ z e. absurd (omega (arith, e.0))) (λ o l e. absurd (omega (arith, e.0)))
      (λ j o k l u e. let t : Six j = (o, k, l, u) in rw e.1 at t) (λ o l e. absurd (omega (arith, e.0)))
      (λ o f l e. absurd (omega (arith, e.0))) (λ b e. absurd (omega (arith, e.0)))

  -- one kind is the first
  one_first : (i j : ℕ) → Untimed T C i → Untimed T C j → j ≡ i
  one_first i j u v =
      elim (dec_lt i j) [
        | yes l ↦ absurd (u.not_timed (v.first i l))
        | no l ↦ elim (dec_lt j i) [ yes k ↦ absurd (v.not_timed (u.first j k)) | no k ↦ omega arith ]
      ]

  pub six_of : (i : ℕ) → Six i → (number a ≡ 6) × (place a ≡ i)
  six_of i t =
      told (λ x. (number x ≡ 6) × (place x ≡ i)) (λ z. absurd (z t.0)) (λ o l. absurd (omega (arith, t.1)))
      (λ j o k l u. (refl, one_first i j t.3 u)) (λ o l. absurd (t.3.not_timed (o.kind_at_law i t.2)))
      (λ o f l. absurd (t.3.not_timed (o.kind_at_law i t.2))) (λ b. absurd (t.3.not_timed (b.limits.kind_at_law i t.2)))

  pub nineteen_says : number a ≡ 19 → (InLimits m n T C) × (64 < frame_for n T)
  nineteen_says =
      told (λ x. number x ≡ 19 → (InLimits m n T C) × (64 < frame_for n T)) (λ z e. absurd (omega arith)) (λ o l e. absurd (omega arith))
      (λ i o k l u e. absurd (omega arith)) (λ o l e. (o, l)) (λ o f l e. absurd (omega arith)) (λ b e. absurd (omega arith))

  module _ (o : InLimits m n T C) where
    none_before : (i : ℕ) → i < n → Untimed T C i → ⊥
    none_before i l u = u.not_timed (o.kind_at_law i l)

    pub nineteen_of : 64 < frame_for n T → number a ≡ 19
    nineteen_of l =
        told (λ x. number x ≡ 19)
        (λ z. absurd (z (record { some_card = o.some_card; cards_most = o.cards_most; some_kind = o.some_kind })))
        (λ p k. absurd (omega (arith, o.kinds_most))) (λ i p k h u. absurd (none_before i h u)) (λ p k. refl)
        (λ p f k. absurd (omega arith)) (λ b. absurd (omega (arith, b.frame_most)))

    pub seven_of : frame_for n T ≤ 64 → m * frame_for n T < sum → number a ≡ 7
    seven_of f l =
        told (λ x. number x ≡ 7)
        (λ z. absurd (z (record { some_card = o.some_card; cards_most = o.cards_most; some_kind = o.some_kind })))
        (λ p k. absurd (omega (arith, o.kinds_most))) (λ i p k h u. absurd (none_before i h u)) (λ p k. absurd (omega arith))
        (λ p g k. refl) (λ b. absurd (omega (arith, b.cells)))

  pub seven_says : number a ≡ 7 → (InLimits m n T C) × (frame_for n T ≤ 64) × (m * frame_for n T < sum)
  seven_says =
      told (λ x. number x ≡ 7 → (InLimits m n T C) × (frame_for n T ≤ 64) × (m * frame_for n T < sum)) (λ z e. absurd (omega arith))
      (λ o l e. absurd (omega arith)) (λ i o k l u e. absurd (omega arith)) (λ o l e. absurd (omega arith)) (λ o f l e. (o, f, l))
      (λ b e. absurd (omega arith))
