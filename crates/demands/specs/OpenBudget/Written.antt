-- The plan with a budget written in for one project, on its own layout: what fits there, and that the budget which was stored has no say.
-- Assumes nothing.
use Rattle.std.specs.Prelude.{◌≡◌, refl, ◌≢◌, Bool, true, ◌&&◌, ◌||◌, List, ltb, length, get_or, set}
use Rattle.std.proofs.Common.{sym, ◌∙◌, arith, set-set, get_or-set_same, lt-ltb, eq-eqb}
use Rattle.std.proofs.Math.Path.{ap, fun_ext}
use Rattle.std.proofs.Math.Bool.{not}
use Prim.Native.Nat.{ℕ, ◌+◌, ◌*◌, ◌≤◌, ◌<◌}
use Rattle.std.proofs.Math.Decide.{dec_lt, ℕ_discrete}
use Rattle.std.proofs.Math.Dec.{eqb}
use Rattle.std.proofs.Math.ListN.{get_or-eq_default}
use Rattle.std.proofs.Math.Seq.{set_out}
use Rattle.laws.specs.Sum.Properties.{sum_le, sum_cong}
use Rattle.laws.specs.All.{all_to}
use Rattle.laws.specs.First.{first_to}
use Rattle.answer.specs.Answer.{bare, at_project, not_admitted, refuse, ◌and_then◌, each_to, if_good}
use Rattle.plan.specs.declared.Project.{Project}
use Rattle.plan.specs.declared.Plan.{Plan}
use Rattle.plan.specs.Record.{no_project}
use Rattle.plan.specs.Order.{project_of, kind_of, budget_of, budgets, within, empty_project, tidy_project, tidy_projects, tidy_kinds}
use Rattle.plan.specs.Order.{InOrder, sized, sizes, unused, kinds_in_range, budgets_fit}
use Rattle.plan.specs.Open.{with_budget, project_there, in_range_open, projects_in_range_open, ranges_open, checked_open, InOrderOpen}
use Rattle.plan.specs.Open.Properties.{with_other, with_there}
use Rattle.layout.specs.Cards.{held_from}
use Rattle.layout.specs.Layout.{first_cell}
use Rattle.layout.proofs.Laws.Layout.{held_from_law}
use Rattle.supply.specs.Supply.{supply}
use Rattle.supply.specs.Fit.{least_width, least_excess, named_slice}
use Rattle.workload.specs.Workload.{besides, part_of, workload}
use Rattle.verdict.specs.Verdict.{project_on}
use Rattle.verdict.specs.Admission.{asked, given, Fits}
use Rattle.smallest_budget.specs.Smallest.{its, width_with, excess_with, slice_with, serves, most_budget, least_budget, served_with}
use Rattle.smallest_budget.specs.Smallest.{sum_fits, smallest_answer, smallest_of}
use Rattle.smallest_budget.specs.Rotation.{supply_anywhere}
use Rattle.smallest_budget.specs.Growth.{budget_grows}
use Rattle.demands.specs.OpenBudget.{given_with, FitsWith}

-- ---- the plan with a budget written in

-- a project that is there has it
written_there : (p : Plan) (j b : ℕ) → 0 < (project_of (with_budget p j b) j).ceiling → budget_of (with_budget p j b) j ≡ b
written_there p j b some =
    elim (dec_lt j (length p.project)) [
      | yes q ↦ ap (λ (v : Project). v.budget) (get_or-set_same p.project j filled no_project q)
      | no q ↦ absurd (omega (arith, ap (λ (v : Project). v.ceiling) (none (omega arith))))
    ]
  where
    filled : Project
    filled = record { ceiling = (project_of p j).ceiling; budget = b }

    none : length p.project ≤ j → project_of (with_budget p j b) j ≡ no_project
    none l =
        ap (λ (v : List Project). get_or v j no_project) (set_out p.project j filled l)
        ∙ get_or-eq_default p.project no_project {n = j} l

-- every ceiling is kept
ceiling_kept : (p : Plan) (j b i : ℕ) → (project_of (with_budget p j b) i).ceiling ≡ (project_of p i).ceiling
ceiling_kept p j b i =
    elim (ℕ_discrete i j) [ yes e ↦ rw e here | no n ↦ ap (λ (v : Project). v.ceiling) (with_other p j b i n) ]
  where
    filled : Project
    filled = record { ceiling = (project_of p j).ceiling; budget = b }

    here : (project_of (with_budget p j b) j).ceiling ≡ (project_of p j).ceiling
    here =
        elim (dec_lt j (length p.project)) [
          | yes q ↦ ap (λ (v : Project). v.ceiling) (get_or-set_same p.project j filled no_project q)
          | no q ↦ ap (λ (v : List Project). (get_or v j no_project).ceiling) (set_out p.project j filled (omega arith))
        ]

-- so is the project's first cell
first_kept : (p : Plan) (j b : ℕ) → first_cell (with_budget p j b) j ≡ first_cell p j
unfolding first_cell
first_kept p j b =
    sum_cong j (budget_of (with_budget p j b)) (budget_of p)
    (λ i l. ap (λ (v : Project). v.budget) (with_other p j b i (λ e. omega arith)))

-- and every workload
workload_kept : (p : Plan) (j b i : ℕ) → workload (with_budget p j b) i ≡ workload p i
unfolding workload part_of besides
workload_kept p j b i = refl

-- the sum of the budgets grows with it
pub sum_grows : (p : Plan) (j small large : ℕ) → InOrderOpen p j → small ≤ large →
    budgets (with_budget p j small) ≤ budgets (with_budget p j large)
unfolding budgets
sum_grows p j small large o l = sum_le p.projects (budget_of (with_budget p j small)) (budget_of (with_budget p j large)) more
  where
    budget_at : (b i : ℕ) → i ≢ j → budget_of (with_budget p j b) i ≡ budget_of p i
    budget_at b i n = ap (λ (v : Project). v.budget) (with_other p j b i n)

    budget_there : (b : ℕ) → budget_of (with_budget p j b) j ≡ b
    budget_there b = ap (λ (v : Project). v.budget) (with_there p j o b)

    more : (i : ℕ) → i < p.projects → budget_of (with_budget p j small) i ≤ budget_of (with_budget p j large) i
    more i m =
        elim (ℕ_discrete i j) [
          | yes e ↦ rw e (omega (arith, budget_there small, budget_there large))
          | no n ↦ omega (arith, budget_at small i n, budget_at large i n)
        ]

-- ---- what is given there, from whichever cell

-- the supply of a kind's project is that of its budget, laid from cell 0 on
given_anywhere : (p : Plan) → InOrder p → (i k : ℕ) → i < p.kinds →
    given p i k ≡ supply p.frame (held_from 0 (budget_of p (project_on p i)) p.frame) k (kind_of p i).deadline
given_anywhere p o i k l =
    let j = project_on p i in
    ap (λ (h : ℕ → ℕ). supply p.frame h k (kind_of p i).deadline) (fun_ext (λ s. held_from_law p o j (o.kind_at_law i l).its_project s))
    ∙ supply_anywhere (first_cell p j) 0 (budget_of p j) p.frame k (kind_of p i).deadline

module _ (p : Plan) (j b i k : ℕ) (o : InOrder (with_budget p j b)) (l : i < p.kinds) where
  -- another project's kind is given what it was
  given_other : (kind_of p i).project ≢ j →
      given (with_budget p j b) i k ≡ supply p.frame (held_from 0 (budget_of p (project_on p i)) p.frame) k (kind_of p i).deadline
  given_other n =
      given_anywhere (with_budget p j b) o i k l
      ∙ ap (λ (v : Project). supply p.frame (held_from 0 v.budget p.frame) k (kind_of p i).deadline)
      (with_other p j b (project_on p i) n)

  -- the open project's is given what the budget gives
  given_own : (kind_of p i).project ≡ j → given (with_budget p j b) i k ≡ given_with p j b i k
  given_own e =
      given_anywhere (with_budget p j b) o i k l
      ∙ ap (λ (n : ℕ). supply p.frame (held_from 0 n p.frame) k (kind_of p i).deadline) own
      ∙ supply_anywhere 0 (first_cell p j) b p.frame k (kind_of p i).deadline
    where
      own : budget_of (with_budget p j b) (project_on p i) ≡ b
      own =
          ap (budget_of (with_budget p j b)) e
          ∙ written_there p j b (rw e at (o.project_at_law (project_on p i) (o.kind_at_law i l).its_project).some_ceiling)

  asked_kept : asked (with_budget p j b) i k ≡ asked p i k
  asked_kept = ap (λ (w : ℕ). k * (kind_of p i).length + w) (workload_kept p j b i)

  -- so a kind of the project fits there exactly where it fits with that budget
  pub written_fits : (kind_of p i).project ≡ j → FitsWith p j b i k → Fits (with_budget p j b) i k
  written_fits e f =
      record {
        width = record { some = f.width.some; most = omega (arith, f.width.most, ceiling_kept p j b (project_on p i)) };
        room = omega (arith, f.room, asked_kept, given_own e);
      }

  pub fits_written : (kind_of p i).project ≡ j → Fits (with_budget p j b) i k → FitsWith p j b i k
  fits_written e f =
      record {
        width = record { some = f.width.some; most = omega (arith, f.width.most, ceiling_kept p j b (project_on p i)) };
        room = omega (arith, f.room, asked_kept, given_own e);
      }

-- ---- "a greater budget never takes a fit away"

pub fits_more : (p : Plan) (j small large i k : ℕ) → small ≤ large → FitsWith p j small i k → FitsWith p j large i k
fits_more p j small large i k l f =
    record {
      width = f.width;
      room = omega (arith, f.room, budget_grows (first_cell p j) small large p.frame l k (kind_of p i).deadline);
    }

-- ---- "others are not judged": whether another project's kind fits does not depend on the open budget

pub others_kept : (p : Plan) (j b c i k : ℕ) → InOrder (with_budget p j b) → InOrder (with_budget p j c) → i < p.kinds →
    (kind_of p i).project ≢ j → Fits (with_budget p j b) i k → Fits (with_budget p j c) i k
others_kept p j b c i k o r l n f =
    record {
      width = record {
        some = f.width.some;
        most = omega (arith, f.width.most, ceiling_kept p j b (project_on p i), ceiling_kept p j c (project_on p i));
      };
      room = omega (
        arith,
        f.room,
        asked_kept p j b i k o l,
        asked_kept p j c i k r l,
        given_other p j b i k o l n,
        given_other p j c i k r l n,
      );
    }

pub written_more : (p : Plan) (j small large i k : ℕ) → small ≤ large → InOrder (with_budget p j small) → InOrder (with_budget p j large) →
    i < p.kinds → Fits (with_budget p j small) i k → Fits (with_budget p j large) i k
written_more p j small large i k m o r l f =
    elim (ℕ_discrete (kind_of p i).project j) [
      | yes e ↦ written_fits p j large i k r l e (fits_more p j small large i k m (fits_written p j small i k o l e f))
      | no n ↦ others_kept p j small large i k o r l n f
    ]

-- ---- the stored budget has no say

-- what is written in twice
written_twice : (p : Plan) (j b c : ℕ) → with_budget (with_budget p j b) j c ≡ with_budget p j c
written_twice p j b c = λ t. record {
  cards = p.cards;
  projects = p.projects;
  kinds = p.kinds;
  frame = p.frame;
  project = (ap (λ (q : ℕ). set (with_budget p j b).project j (record { ceiling = q; budget = c })) (ceiling_kept p j b j)
      ∙ set-set p.project j (record { ceiling = (project_of p j).ceiling; budget = b })
      (record { ceiling = (project_of p j).ceiling; budget = c })) t;
  kind = p.kind;
}

module _ (p : Plan) (j b : ℕ) (there : j < p.projects) where
  -- 3: an unused place is no project
  tidy_same : (i : ℕ) → tidy_project (with_budget p j b) i ≡ tidy_project p i
  tidy_same i =
      elim (ℕ_discrete i j) [
        | yes e ↦ rw (lt-ltb i p.projects (omega arith))
        | no n ↦ ap (λ (v : Project). ltb i p.projects || empty_project v) (with_other p j b i n)
      ]

  -- 4: it skips the budget
  range_same : (i : ℕ) → in_range_open (with_budget p j b) j i ≡ in_range_open p j i
  unfolding in_range_open
  range_same i =
      elim (ℕ_discrete i j) [
        | yes e ↦ rw (eq-eqb i j e) (ap (λ (q : ℕ). within p.cards q && true) (ceiling_kept p j b i))
        | no n ↦
            ap (λ (v : Project). within p.cards v.ceiling && (eqb i j || within (v.ceiling * p.frame) v.budget))
            (with_other p j b i n)
      ]

  unused_same : unused (with_budget p j b) ≡ unused p
  unfolding unused tidy_projects tidy_kinds
  unused_same = ap (λ (f : ℕ → Bool). refuse (not (all_to 8 f && tidy_kinds p)) (bare 3)) (fun_ext tidy_same)

  projects_same : projects_in_range_open (with_budget p j b) j ≡ projects_in_range_open p j
  unfolding projects_in_range_open
  projects_same = ap (λ (f : ℕ → Bool). each_to p.projects (λ i. refuse (not (f i)) (at_project 4 i))) (fun_ext range_same)

  order_same : checked_open (with_budget p j b) j ≡ checked_open p j
  unfolding checked_open ranges_open sizes sized project_there kinds_in_range
  order_same = λ t. sizes p and_then (unused_same t and_then (project_there p j and_then (projects_same t and_then kinds_in_range p)))

module _ (p : Plan) (j b c i : ℕ) where
  width_same : width_with (with_budget p j b) j c i ≡ width_with p j c i
  unfolding width_with
  width_same =
      λ t. least_width p.frame (held_from (first_kept p j b t) c p.frame) (kind_of p i).length (workload_kept p j b i t)
      (kind_of p i).deadline (ceiling_kept p j b j t)

  excess_same : excess_with (with_budget p j b) j c i ≡ excess_with p j c i
  unfolding excess_with
  excess_same =
      λ t. least_excess p.frame (held_from (first_kept p j b t) c p.frame) (kind_of p i).length (workload_kept p j b i t)
      (kind_of p i).deadline (ceiling_kept p j b j t)

  slice_same : slice_with (with_budget p j b) j c i ≡ slice_with p j c i
  unfolding slice_with
  slice_same =
      λ t. named_slice p.frame (held_from 0 c p.frame) (kind_of p i).length (workload_kept p j b i t) (kind_of p i).deadline
      (ceiling_kept p j b j t)

module _ (p : Plan) (j b : ℕ) where
  serves_same : (c : ℕ) → serves (with_budget p j b) j c ≡ serves p j c
  unfolding serves
  serves_same c = λ t. all_to p.kinds (λ i. not (its p j i && eqb (width_same p j b c i t) 0))

  served_same : (c : ℕ) → served_with (with_budget p j b) j c ≡ served_with p j c
  unfolding served_with
  served_same c =
      λ t. each_to p.kinds
      (λ i. refuse (its p j i && eqb (width_same p j b c i t) 0) (not_admitted i (excess_same p j b c i t) (slice_same p j b c i t)))

  most_same : most_budget (with_budget p j b) j ≡ most_budget p j
  most_same = ap (λ (q : ℕ). q * p.frame) (ceiling_kept p j b j)

  least_same : least_budget (with_budget p j b) j ≡ least_budget p j
  unfolding least_budget
  least_same = λ t. first_to (most_same t) (λ c. serves_same c t)

  sum_same : sum_fits (with_budget p j b) j ≡ sum_fits p j
  sum_same = ap budgets_fit (written_twice p j b (least_budget (with_budget p j b) j) ∙ ap (with_budget p j) least_same)

  answer_same : j < p.projects → smallest_answer (with_budget p j b) j ≡ smallest_answer p j
  unfolding smallest_answer
  answer_same there =
      λ t. order_same p j b there t and_then
      ((served_same (most_budget (with_budget p j b) j) ∙ ap (served_with p j) most_same) t and_then sum_same t)

pub stored_unread : (p : Plan) (j b : ℕ) → j < p.projects → smallest_of (with_budget p j b) j ≡ smallest_of p j
unfolding smallest_of
stored_unread p j b there =
    λ t. record { answer = answer_same p j b there t; budget = if_good (answer_same p j b there t) (least_same p j b t) 0 }

pub alike_but_open : (p other : Plan) (j b : ℕ) → j < p.projects → with_budget p j b ≡ with_budget other j b →
    smallest_of p j ≡ smallest_of other j
alike_but_open p other j b there e =
    sym (stored_unread p j b there) ∙ ap (λ (q : Plan). smallest_of q j) e ∙ stored_unread other j b there_too
  where
    there_too : j < other.projects
    there_too = omega (arith, ap (λ (q : Plan). q.projects) e)
