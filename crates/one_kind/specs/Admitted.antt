-- Every plan that is built is in order and admitted.
-- Assumes nothing.
use Rattle.std.specs.Prelude.{◌≡◌, not, ℕ, ◌*◌, ◌/◌, ◌≤◌, ◌<◌, leb}
use Rattle.std.proofs.Common.{sym, ◌∙◌, one-mul, arith}
use Rattle.std.proofs.Math.Path.{ap, fun_ext}
use Rattle.std.proofs.Math.Decide.{ℕ_discrete}
use borrow.Author.Tests.{le-leb, leb-true, not-false}
use Rattle.laws.specs.Sum.{sum_to}
use Rattle.laws.specs.Sum.Properties.{sum_cong, sum_zero}
use Rattle.answer.specs.declared.Answer.TheVariants.{Good}
use Rattle.answer.specs.Answer.{◌and_then◌}
use Rattle.answer.specs.Answer.Properties.{and_then_left, and_then_right, refuse_good}
use Rattle.plan.specs.declared.Project.{Project}
use Rattle.plan.specs.declared.Kind.{Kind}
use Rattle.plan.specs.Order.{project_of, kind_of, budget_of, budgets, budgets_fit, InOrder}
use Rattle.layout.specs.Cards.{held_from}
use Rattle.layout.specs.Layout.{first_cell}
use Rattle.layout.proofs.Laws.Layout.{held_from_law}
use Rattle.supply.specs.Supply.{supply}
use Rattle.workload.specs.Workload.{part_of, workload}
use Rattle.workload.specs.Workload.Properties.{part_own, part_foreign}
use Rattle.verdict.specs.Verdict.{judged}
use Rattle.verdict.specs.Admission.{asked, given, Fits}
use Rattle.verdict.specs.Admission.Properties.{admitted_exactly}
use Rattle.one_kind.specs.Divisor.Properties.{divides_each}
use Rattle.one_kind.specs.Built.{counts, frame_for, frame_fits, kinds_timed, budget_for, project_for, plan_for, answer_for}
use Rattle.one_kind.specs.Built.{InLimits, Buildable}
use Rattle.one_kind.specs.Built.Properties.{rounded_enough, limits_says, limits_counts, limits_timed, some_separation, some_frame}
use Rattle.one_kind.specs.Built.Properties.{budget_most, project_is, kind_is, plan_in_order}
use Rattle.one_kind.specs.WholeFrames.{whole_supply, room-enough}

module _ (m n : ℕ) (T C : ℕ → ℕ) where
  -- the budgets that 7 adds up are the rounded ones
  pub budgets_are : InLimits m n T C → budgets (plan_for m n T C) ≡ sum_to n (budget_for n T C)
  unfolding budgets
  budgets_are o =
      sum_cong n (budget_of (plan_for m n T C)) (budget_for n T C) (λ i l. ap (λ (v : Project). v.budget) (project_is m n T C o i l))

  pub built_says : answer_for m n T C ≡ Good → Buildable m n T C
  unfolding answer_for frame_fits budgets_fit
  built_says e =
      let p = plan_for m n T C in
      let one = counts m n in
      let six = kinds_timed T C n in
      let nineteen = frame_fits n T in
      let seven = budgets_fit p in
      let a = and_then_right one (six and_then (nineteen and_then seven)) e in
      let b = and_then_right six (nineteen and_then seven) a in
      let o = limits_says m n T C (and_then_left one (six and_then (nineteen and_then seven)) e)
      (and_then_left six (nineteen and_then seven) a) in
      record {
        limits = o;
        frame_most =
            leb-true (frame_for n T) 64 (not-false (leb (frame_for n T) 64)
            (refuse_good (not (leb (frame_for n T) 64)) _ (and_then_left nineteen seven b)));
        cells =
            rw (← (budgets_are o)) (leb-true (budgets p) (m * frame_for n T) (not-false (leb (budgets p) (m * frame_for n T))
            (refuse_good (not (leb (budgets p) (m * frame_for n T))) _ (and_then_right nineteen seven b))));
      }

  module _ (w : Buildable m n T C) where
    o : InLimits m n T C
    o = w.limits

    cells_fit : budgets (plan_for m n T C) ≤ m * frame_for n T
    cells_fit = rw (budgets_are o) w.cells

    -- and nothing more is asked
    pub built_of_law : answer_for m n T C ≡ Good
    unfolding answer_for frame_fits budgets_fit
    built_of_law =
        rw (
          limits_counts m n T C o,
          limits_timed m n T C o,
          le-leb (frame_for n T) 64 w.frame_most,
          le-leb (budgets (plan_for m n T C)) (m * frame_for n T) cells_fit,
        )

    pub built_in_order : InOrder (plan_for m n T C)
    built_in_order = plan_in_order m n T C o w.frame_most cells_fit

    -- ---- no project has another kind

    -- each kind is of its own project
    pub own_project : (i : ℕ) → i < n → (kind_of (plan_for m n T C) i).project ≡ i
    own_project i l = ap (λ (v : Kind). v.project) (kind_is m n T C o i l)

    pub no_workload : (i : ℕ) → i < n → workload (plan_for m n T C) i ≡ 0
    unfolding workload
    no_workload i l = sum_zero n (part_of (plan_for m n T C) i) none
      where
        none : (j : ℕ) → j < n → part_of (plan_for m n T C) i j ≡ 0
        none j q =
            elim (ℕ_discrete j i) [
              | yes e ↦ part_own (plan_for m n T C) i j e
              | no z ↦ part_foreign (plan_for m n T C) i j z (λ e. z (sym (own_project j q) ∙ e ∙ own_project i l))
            ]

    pub alone_asked : (i : ℕ) → i < n → asked (plan_for m n T C) i 1 ≡ C i
    alone_asked i l = rw (no_workload i l, kind_is m n T C o i l) (omega (arith, one-mul (C i)))

    -- with a budget of b it is given as many whole frames of b
    pub alone_given : (i b : ℕ) → i < n → (first : ℕ) → b ≤ frame_for n T →
        supply (frame_for n T) (held_from first b (frame_for n T)) 1 (kind_of (plan_for m n T C) i).deadline ≡ T i / frame_for n T * b
    alone_given i b l first q =
        rw (kind_is m n T C o i l) (whole_supply first b (frame_for n T) (some_frame m n T C o) q (T i) (divides_each n T i l))

    -- ---- so it fits at 1

    one_card : (i : ℕ) → i < n → project_of (plan_for m n T C) (kind_of (plan_for m n T C) i).project ≡ project_for n T C i
    one_card i l = ap (project_of (plan_for m n T C)) (own_project i l) ∙ project_is m n T C o i l

    given_is : (i : ℕ) → i < n → given (plan_for m n T C) i 1 ≡ T i / frame_for n T * budget_for n T C i
    given_is i l =
        let p = plan_for m n T C in
        let F = frame_for n T in
        let j = (kind_of p i).project in
        let D = (kind_of p i).deadline in
        ap (λ (h : ℕ → ℕ). supply F h 1 D) (fun_ext (λ s. held_from_law p built_in_order j (built_in_order.kind_at_law i l).its_project s))
        ∙ ap (λ (b : ℕ). supply F (held_from (first_cell p j) b F) 1 D) (ap (λ (v : Project). v.budget) (one_card i l))
        ∙ alone_given i (budget_for n T C i) l (first_cell p j) (budget_most m n T C o i l)

    pub alone_fits : (i : ℕ) → i < n → Fits (plan_for m n T C) i 1
    alone_fits i l =
        let F = frame_for n T in
        let q : (project_of (plan_for m n T C) (kind_of (plan_for m n T C) i).project).ceiling ≡ 1
        = ap (λ (v : Project). v.ceiling) (one_card i l) in
        let enough = room-enough F (T i) (C i) (budget_for n T C i) (some_frame m n T C o) (divides_each n T i l)
        (rounded_enough F (T i) (C i) (some_separation m n T C o i l)) in
        record {
          width = record { some = omega arith; most = omega (arith, q) };
          room = rw (alone_asked i l, given_is i l) enough;
        }

    -- "Every plan built must be admitted"
    pub built_admitted : (judged (plan_for m n T C)).answer ≡ Good
    built_admitted = (admitted_exactly (plan_for m n T C)).1 (built_in_order, λ i l. (1, alone_fits i l))
