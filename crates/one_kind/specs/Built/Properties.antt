-- Laws of the plan that is built: rounding up, what 17, 18 and 6 leave, and that nothing but 7 is left to refuse.
-- Assumes nothing.
use Rattle.std.specs.Prelude.{◌≡◌, Bool, true, false, not, ◌&&◌, ℕ, ◌+◌, ◌-◌, ◌*◌, ◌/◌, ◌≤◌, ◌<◌, leb, eqb, replicate}
use Rattle.std.proofs.Common.{sym, ap, ◌∙◌, mul-le-mul_left, mul-le-mul_right, mul-pos, div-lt_iff_lt-mul, zero-mul, add-one}
use Rattle.std.specs.Int.{◌∣◌}
use Rattle.std.proofs.Math.Nat.{div-add-mod', mod-lt, div-mul_cancel, suc-mul}
use Rattle.std.proofs.Math.Decide.{dec_lt}
use native.Mathlib.Omega.{arith}
use Rattle.std.proofs.lemmas.List.{length-replicate, get_or-replicate}
use borrow.Author.Tests.{lt-ltb, le-leb, lt-leb, ne_eqb, leb-true, eqb-false, not-true, not-false}
use Rattle.laws.specs.Tests.{and_left, and_right}
use Rattle.laws.specs.All.Properties.{all_of}
use Rattle.laws.specs.Written.Properties.{written_at, written_kept}
use Rattle.answer.specs.declared.Answer.{Answer}
use Rattle.answer.specs.declared.Answer.TheVariants.{Good}
use Rattle.answer.specs.Answer.{bare, at_kind, refuse, each_to}
use Rattle.answer.specs.Answer.Properties.{and_then_left, and_then_right, refuse_good, refused, passed, each_more, each_opened, each_at}
use Rattle.answer.specs.Answer.Properties.{each_of}
use Rattle.plan.specs.declared.Project.{Project}
use Rattle.plan.specs.declared.Kind.{Kind}
use Rattle.plan.specs.Record.{no_project, no_kind}
use Rattle.plan.specs.Order.{within, empty_project, empty_kind, tidy_project, tidy_kind, tidy_projects, tidy_kinds, project_of, kind_of}
use Rattle.plan.specs.Order.{budgets, Sized, ProjectInRange, KindInRange, InOrder, unused, project_in_range, projects_in_range}
use Rattle.plan.specs.Order.{kind_in_range_at, kinds_in_range, ranges, checked, budgets_fit}
use Rattle.plan.specs.Order.Properties.{within_low, within_high, within_of, sizes_of, project_of_law, kind_of_law, kept_empty}
use Rattle.plan.specs.Order.Properties.{no_project_empty, no_kind_empty}
use Rattle.one_kind.specs.Divisor.Properties.{divisor_some}
use Rattle.one_kind.specs.Built.{rounded_up, offered, counts, frame_for, timed_alone, kind_for, kind_timed, kinds_timed, budget_for}
use Rattle.one_kind.specs.Built.{project_for, plan_for}
use Rattle.one_kind.specs.Built.{Offer, Timed, InLimits}

-- ---- "FC/T rounded up"

module _ (F T C : ℕ) (some : 0 < T) where
  -- it is enough
  pub rounded_enough : F * C ≤ rounded_up F T C * T
  unfolding rounded_up
  rounded_enough =
      omega (arith, div-add-mod' (F * C + (T - 1)) T, mod-lt (F * C + (T - 1)) some)

  -- and nothing less is
  pub rounded_least : (b : ℕ) → F * C ≤ b * T → rounded_up F T C ≤ b
  unfolding rounded_up
  rounded_least b l =
      let q : F * C + (T - 1) < (b + 1) * T = rw (add-one b, suc-mul b T) (omega arith) in
      let r : (F * C + (T - 1)) / T < b + 1 = (div-lt_iff_lt-mul some).1 q in
      omega arith

  pub rounded_most : C ≤ T → rounded_up F T C ≤ F
  rounded_most l = rounded_least F (mul-le-mul_left F l)

  pub rounded_some : 0 < F → 0 < C → 0 < rounded_up F T C
  rounded_some p q =
      elim (dec_lt 0 (rounded_up F T C)) [
        | yes l ↦ l
        | no l ↦
            let z : rounded_up F T C ≡ 0 = omega arith in
            let e : rounded_up F T C * T ≡ 0 = rw z (zero-mul T) in
            absurd (omega (arith, e, rounded_enough, mul-pos p q))
      ]

  -- a multiple of T is not rounded
  pub rounded_exact : T ∣ F * C → rounded_up F T C * T ≡ F * C
  rounded_exact d =
      let e : F * C / T * T ≡ F * C = div-mul_cancel T d in
      let l : rounded_up F T C ≤ F * C / T = rounded_least (F * C / T) (omega arith) in
      omega (arith, rounded_enough, e, mul-le-mul_right T l)

-- ---- what 17, 18 and 6 leave

pub counts_say : (m n : ℕ) → counts m n ≡ Good → (offered m n ≡ true) × (n ≤ 8)
unfolding counts
counts_say m n e =
    let a = refuse (not (offered m n)) _ in
    let b = refuse (not (leb n 8)) _ in (
      not-false (offered m n) (refuse_good (not (offered m n)) _ (and_then_left a b e)),
      leb-true n 8 (not-false (leb n 8) (refuse_good (not (leb n 8)) _ (and_then_right a b e))),
    )

-- ---- the code's way through 17 and 18: t is what the test answered

pub seventeen : (m n : ℕ) (t : Bool) (x : Answer) → t ≡ offered m n → not t ≡ true → x ≡ bare 17 → x ≡ counts m n
unfolding counts
seventeen m n t x e f q = rw (← e, not-true t f) q

pub eighteen : (m n : ℕ) (t : Bool) (x : Answer) → t ≡ offered m n → not t ≡ false → 8 < n → x ≡ bare 18 → x ≡ counts m n
unfolding counts
eighteen m n t x e f l q = rw (← e, not-false t f, lt-leb n 8 l) q

pub counted : (m n : ℕ) (t : Bool) → t ≡ offered m n → not t ≡ false → n ≤ 8 → Good ≡ counts m n
unfolding counts
counted m n t e f l = rw (← e, not-false t f, le-leb n 8 l)

-- ---- the code's way through 6

module _ (T C : ℕ → ℕ) (i s l : ℕ) (t : Bool) (p : s ≡ T i) (q : l ≡ C i) (e : t ≡ timed_alone s l) where
  asked_here : t ≡ timed_alone (T i) (C i)
  asked_here = e ∙ ap (λ (x : ℕ). timed_alone x l) p ∙ ap (timed_alone (T i)) q

  pub six_here : (n : ℕ) (x : Answer) → Good ≡ each_to i (kind_timed T C) → not t ≡ true → x ≡ at_kind 6 i → i < n → x ≡ kinds_timed T C n
  unfolding kinds_timed
  six_here n x g f a m =
      each_opened n i (kind_timed T C) x _ g a (refused (timed_alone (T i) (C i)) t (at_kind 6 i) x asked_here f a) m

  pub six_again : Good ≡ each_to i (kind_timed T C) → not t ≡ false → Good ≡ each_to (i + 1) (kind_timed T C)
  six_again g f = each_more i (kind_timed T C) g (passed (timed_alone (T i) (C i)) t (at_kind 6 i) asked_here f)

-- 17 and 18 have been asked: both numbers fit a byte
pub cards_fit : (m n : ℕ) (r : Answer) → r ≡ Good → r ≡ counts m n → m < 256
unfolding offered
cards_fit m n r e q = omega (arith, within_high 8 m (and_left (within 8 m) (not (eqb n 0)) (counts_say m n (sym q ∙ e)).0))

pub kinds_fit : (m n : ℕ) (r : Answer) → r ≡ Good → r ≡ counts m n → n < 256
kinds_fit m n r e q = omega (arith, (counts_say m n (sym q ∙ e)).1)

-- ---- what they say

pub offer_says : (m n : ℕ) → offered m n ≡ true → Offer m n
unfolding offered
offer_says m n e =
    let here = and_left (within 8 m) (not (eqb n 0)) e in
    let z = eqb-false n 0 (not-true (eqb n 0) (and_right (within 8 m) (not (eqb n 0)) e)) in
    record { some_card = within_low 8 m here; cards_most = within_high 8 m here; some_kind = omega arith }

pub offer_of : (m n : ℕ) → Offer m n → offered m n ≡ true
unfolding offered
offer_of m n o = rw (within_of 8 m o.some_card o.cards_most, ne_eqb n 0 (λ e. omega (arith, o.some_kind)))

pub timed_says : (T C : ℕ) → timed_alone T C ≡ true → Timed T C
unfolding timed_alone
timed_says T C e =
    let a = not (eqb C 0) in
    let b = leb C T in
    let d = leb T 4095 in
    let z = eqb-false C 0 (not-true (eqb C 0) (and_left a (b && d) e)) in
    record {
      some_length = omega arith;
      length_most = leb-true C T (and_left b d (and_right a (b && d) e));
      separation_most = leb-true T 4095 (and_right b d (and_right a (b && d) e));
    }

pub timed_of : (T C : ℕ) → Timed T C → timed_alone T C ≡ true
unfolding timed_alone
timed_of T C t =
    rw (ne_eqb C 0 (λ e. omega (arith, t.some_length)), le-leb C T t.length_most, le-leb T 4095 t.separation_most)

module _ (m n : ℕ) (T C : ℕ → ℕ) where
  -- good answers to 17, 18 and 6 say that all is within the limits
  pub limits_says : counts m n ≡ Good → kinds_timed T C n ≡ Good → InLimits m n T C
  unfolding kinds_timed
  limits_says e f =
      let both = counts_say m n e in
      let offer = offer_says m n both.0 in
      record {
        some_card = offer.some_card;
        cards_most = offer.cards_most;
        some_kind = offer.some_kind;
        kinds_most = both.1;
        kind_at_law = λ i l.
            timed_says (T i) (C i)
            (not-false (timed_alone (T i) (C i)) (refuse_good (not (timed_alone (T i) (C i))) _ (each_at n (kind_timed T C) f i l)));
      }

  module _ (o : InLimits m n T C) where
    -- and nothing more is asked
    pub limits_counts : counts m n ≡ Good
    unfolding counts
    limits_counts =
        rw (
          offer_of m n (record { some_card = o.some_card; cards_most = o.cards_most; some_kind = o.some_kind }),
          le-leb n 8 o.kinds_most,
        )

    pub limits_timed : kinds_timed T C n ≡ Good
    unfolding kinds_timed
    limits_timed = each_of n (kind_timed T C) (λ i l. rw (timed_of (T i) (C i) (o.kind_at_law i l)))

    pub some_separation : (i : ℕ) → i < n → 0 < T i
    some_separation i l = omega (arith, (o.kind_at_law i l).some_length, (o.kind_at_law i l).length_most)

    pub some_frame : 0 < frame_for n T
    some_frame = divisor_some n T 0 o.some_kind (some_separation 0 o.some_kind)

    pub budget_some : (i : ℕ) → i < n → 0 < budget_for n T C i
    budget_some i l = rounded_some (frame_for n T) (T i) (C i) (some_separation i l) some_frame (o.kind_at_law i l).some_length

    pub budget_most : (i : ℕ) → i < n → budget_for n T C i ≤ frame_for n T
    budget_most i l = rounded_most (frame_for n T) (T i) (C i) (some_separation i l) (o.kind_at_law i l).length_most

    -- ---- the plan's places

    pub project_is : (i : ℕ) → i < n → project_of (plan_for m n T C) i ≡ project_for n T C i
    project_is i l =
        written_at n (project_for n T C) (replicate 8 no_project) no_project i l
        (omega (arith, o.kinds_most, length-replicate {A = Project} 8 no_project))

    pub kind_is : (i : ℕ) → i < n → kind_of (plan_for m n T C) i ≡ kind_for T C i
    kind_is i l =
        written_at n (kind_for T C) (replicate 16 no_kind) no_kind i l
        (omega (arith, o.kinds_most, length-replicate {A = Kind} 16 no_kind))

    project_past : (i : ℕ) → n ≤ i → i < 8 → project_of (plan_for m n T C) i ≡ no_project
    project_past i p l =
        written_kept n (project_for n T C) (replicate 8 no_project) no_project i p ∙ get_or-replicate 8 i no_project no_project l

    kind_past : (i : ℕ) → n ≤ i → i < 16 → kind_of (plan_for m n T C) i ≡ no_kind
    kind_past i p l = written_kept n (kind_for T C) (replicate 16 no_kind) no_kind i p ∙ get_or-replicate 16 i no_kind no_kind l

    -- ---- 2 to 6 hold of the plan, where 19 does not apply

    module _ (most : frame_for n T ≤ 64) where
      sized_plan : Sized (plan_for m n T C)
      sized_plan =
          record {
            some_card = o.some_card;
            cards_most = o.cards_most;
            some_project = o.some_kind;
            projects_most = o.kinds_most;
            some_kind = o.some_kind;
            kinds_most = omega (arith, o.kinds_most);
            some_slice = some_frame;
            frame_most = most;
          }

      projects_zero : (j : ℕ) → j < 8 → tidy_project (plan_for m n T C) j ≡ true
      projects_zero j l =
          elim (dec_lt j n) [
            | yes q ↦ rw (lt-ltb j n q)
            | no q ↦
                kept_empty j n (empty_project (project_of (plan_for m n T C) j))
                (ap empty_project (project_past j (omega arith) l) ∙ no_project_empty)
          ]

      kinds_zero : (i : ℕ) → i < 16 → tidy_kind (plan_for m n T C) i ≡ true
      kinds_zero i l =
          elim (dec_lt i n) [
            | yes q ↦ rw (lt-ltb i n q)
            | no q ↦
                kept_empty i n (empty_kind (kind_of (plan_for m n T C) i)) (ap empty_kind (kind_past i (omega arith) l) ∙ no_kind_empty)
          ]

      project_there : (j : ℕ) → j < n → ProjectInRange (plan_for m n T C) (project_of (plan_for m n T C) j)
      project_there j l =
          rw (project_is j l) (record {
            some_ceiling = omega arith;
            ceiling_most = omega (arith, o.some_card);
            some_budget = budget_some j l;
            budget_most = omega (arith, budget_most j l);
          })

      kind_there : (i : ℕ) → i < n → KindInRange (plan_for m n T C) (kind_of (plan_for m n T C) i)
      kind_there i l =
          rw (kind_is i l) (record {
            its_project = l;
            some_length = (o.kind_at_law i l).some_length;
            length_most = (o.kind_at_law i l).length_most;
            deadline_most = omega arith;
            separation_most = (o.kind_at_law i l).separation_most;
          })

      -- its record check answers 7 or nothing
      pub plan_checked : checked (plan_for m n T C) ≡ budgets_fit (plan_for m n T C)
      unfolding checked unused ranges projects_in_range kinds_in_range tidy_projects tidy_kinds
      plan_checked =
          rw (
            sizes_of (plan_for m n T C) sized_plan,
            all_of 8 (tidy_project (plan_for m n T C)) projects_zero,
            all_of 16 (tidy_kind (plan_for m n T C)) kinds_zero,
            each_of n (project_in_range (plan_for m n T C)) (λ j l. project_of_law (plan_for m n T C) j (project_there j l)),
            each_of n (kind_in_range_at (plan_for m n T C)) (λ i l. kind_of_law (plan_for m n T C) i (kind_there i l)),
          )

      -- it is in order where the budgets' sum is not too large
      pub plan_in_order : budgets (plan_for m n T C) ≤ m * frame_for n T → InOrder (plan_for m n T C)
      plan_in_order l =
          record {
            counts = sized_plan;
            projects_tidy = projects_zero;
            kinds_tidy = kinds_zero;
            project_at_law = project_there;
            kind_at_law = kind_there;
            cells = l;
          }
