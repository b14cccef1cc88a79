-- Laws of the record order with one budget open: what a good answer says, and that nothing less is asked; and of the plan with a budget
-- written in.
-- Assumes nothing.
use Rattle.std.specs.Prelude.{◌≡◌, refl, ◌≢◌, Option, None, Some, Bool, true, not, ◌&&◌, ◌||◌, ℕ, ◌*◌, ◌≤◌, ◌<◌, ltb, eqb, length}
use Rattle.std.proofs.Common.{sym, ap, ◌∙◌, arith, get_or-set_same, get_or-set_other}
use Rattle.std.proofs.Math.Decide.{dec_lt, ℕ_discrete}
use Rattle.std.proofs.Math.ListN.{get_or-eq_default}
use borrow.Author.Tests.{lt-ltb, eq-eqb, ne_eqb, ltb-true, not-false}
use Rattle.laws.specs.Tests.{and_left, and_right}
use Rattle.laws.specs.All.Properties.{all_at, all_of}
use Rattle.plan.specs.declared.Project.{Project}
use Rattle.plan.specs.declared.Plan.{Plan}
use Rattle.answer.specs.declared.Answer.{Answer}
use Rattle.answer.specs.declared.Answer.TheVariants.{Good}
use Rattle.answer.specs.Answer.{◌and_then◌}
use Rattle.answer.specs.Answer.Properties.{and_then_left, and_then_right, refuse_good, each_at, each_of}
use Rattle.std.specs.Option.{option_eq}
use Rattle.answer.specs.Answer.{at_project, refuse, each_to}
use Rattle.plan.specs.Order.{in_range}
use Rattle.plan.specs.Open.{project_in_range_but, projects_in_range_but}
use Rattle.plan.specs.Record.{no_project}
use Rattle.plan.specs.Order.{Sized, ProjectInRange, KindInRange, InOrder, within, empty_project, tidy_project, tidy_kind}
use Rattle.plan.specs.Order.{tidy_projects, tidy_kinds}
use Rattle.plan.specs.Order.{budgets, project_of, kind_of, sizes, unused, project_in_range, projects_in_range, kind_in_range_at}
use Rattle.plan.specs.Order.{kinds_in_range, budgets_fit, ranges, checked}
use Rattle.plan.specs.Order.Properties.{within_low, within_high, within_of, sizes_says, sizes_of, sized_same, project_of_law, kind_says}
use Rattle.plan.specs.Order.Properties.{kind_of_law}
use Rattle.plan.specs.Open.{with_budget, project_there, in_range_open, project_in_range_open, projects_in_range_open, ranges_open}
use Rattle.plan.specs.Open.{checked_open, InOrderOpen}

-- ---- the code's way to 4: b says whether project i's budget is skipped, and r is what the test of the project answered

eqb_turned : (i j : ℕ) → eqb i j ≡ eqb j i
eqb_turned i j =
    elim (ℕ_discrete i j) [ yes e ↦ rw (eq-eqb i j e, eq-eqb j i (sym e)) | no n ↦ rw (ne_eqb i j n, ne_eqb j i (λ e. n (sym e))) ]

pub but_is : (o : Option ℕ) (p : Plan) (i : ℕ) (b r : Bool) → b ≡ option_eq eqb o (Some i)
    → r ≡ (within p.cards (project_of p i).ceiling && (b || within ((project_of p i).ceiling * p.frame) (project_of p i).budget))
    → refuse (not r) (at_project 4 i) ≡ project_in_range_but o p i
unfolding in_range in_range_open
but_is None p i b r e q = rw (q, e)
but_is (Some j) p i b r e q = rw (q, e, eqb_turned j i)

pub but_each : (o : Option ℕ) (p : Plan) → projects_in_range_but o p ≡ each_to p.projects (project_in_range_but o p)
unfolding projects_in_range projects_in_range_open
but_each None p = refl
but_each (Some j) p = refl

-- ---- the plan with a budget written in

-- every other project is as it was
pub with_other : (p : Plan) (j b i : ℕ) → i ≢ j → project_of (with_budget p j b) i ≡ project_of p i
with_other p j b i n = get_or-set_other p.project j i (record { ceiling = (project_of p j).ceiling; budget = b }) no_project n

module _ (p : Plan) (j : ℕ) where
  -- ---- "4 skipping that one budget"

  -- the open project's ceiling is judged as every other's
  ceiling_says : (i : ℕ) → project_in_range_open p j i ≡ Good → within p.cards (project_of p i).ceiling ≡ true
  unfolding in_range_open
  ceiling_says i e =
      let v = project_of p i in
      and_left (within p.cards v.ceiling) (eqb i j || within (v.ceiling * p.frame) v.budget)
      (not-false (in_range_open p j i) (refuse_good (not (in_range_open p j i)) _ e))

  -- and so is every other's budget
  budget_says : (i : ℕ) → i ≢ j → project_in_range_open p j i ≡ Good →
      within ((project_of p i).ceiling * p.frame) (project_of p i).budget ≡ true
  unfolding in_range_open
  budget_says i n e =
      let v = project_of p i in
      let t = and_right (within p.cards v.ceiling) (eqb i j || within (v.ceiling * p.frame) v.budget)
      (not-false (in_range_open p j i) (refuse_good (not (in_range_open p j i)) _ e)) in
      rw (ne_eqb i j n) at t

  project_open_says : (i : ℕ) → i ≢ j → project_in_range_open p j i ≡ Good → ProjectInRange p (project_of p i)
  project_open_says i n e =
      let v = project_of p i in
      record {
        some_ceiling = within_low p.cards v.ceiling (ceiling_says i e);
        ceiling_most = within_high p.cards v.ceiling (ceiling_says i e);
        some_budget = within_low (v.ceiling * p.frame) v.budget (budget_says i n e);
        budget_most = within_high (v.ceiling * p.frame) v.budget (budget_says i n e);
      }

  -- ---- the whole record

  -- a good answer says that the plan is in order but for the open budget
  pub open_order_law : checked_open p j ≡ Good → InOrderOpen p j
  unfolding checked_open ranges_open project_there projects_in_range_open unused kinds_in_range tidy_projects tidy_kinds
  open_order_law e =
      let two = sizes p in
      let three = unused p in
      let there = project_there p j in
      let four = projects_in_range_open p j in
      let six = kinds_in_range p in
      let a = and_then_right two (three and_then ranges_open p j) e in
      let b = and_then_right three (ranges_open p j) a in
      let d = and_then_right there (four and_then six) b in
      let t = not-false (tidy_projects p && tidy_kinds p)
      (refuse_good (not (tidy_projects p && tidy_kinds p)) _ (and_then_left three (ranges_open p j) a)) in
      let at = each_at p.projects (project_in_range_open p j) (and_then_left four six d) in
      record {
        counts = sizes_says p (and_then_left two (three and_then ranges_open p j) e);
        projects_tidy = all_at 8 (tidy_project p) (and_left (tidy_projects p) (tidy_kinds p) t);
        kinds_tidy = all_at 16 (tidy_kind p) (and_right (tidy_projects p) (tidy_kinds p) t);
        its_place =
            ltb-true j p.projects (not-false (ltb j p.projects)
            (refuse_good (not (ltb j p.projects)) _ (and_then_left there (four and_then six) b)));
        some_ceiling = λ i l. within_low p.cards (project_of p i).ceiling (ceiling_says i (at i l));
        ceiling_most = λ i l. within_high p.cards (project_of p i).ceiling (ceiling_says i (at i l));
        project_at_law = λ i l n. project_open_says i n (at i l);
        kind_at_law = λ i l. kind_says p i (each_at p.kinds (kind_in_range_at p) (and_then_right four six d) i l);
      }

  -- what the check answered, opened
  pub open_opened : (r : Answer) → r ≡ Good → r ≡ checked_open p j → InOrderOpen p j
  open_opened r e q = open_order_law (sym q ∙ e)

  module _ (o : InOrderOpen p j) where
    project_open_of : (i : ℕ) → i < p.projects → project_in_range_open p j i ≡ Good
    unfolding in_range_open
    project_open_of i l =
        let v = project_of p i in
        elim (ℕ_discrete i j) [
          | yes e ↦ rw (within_of p.cards v.ceiling (o.some_ceiling i l) (o.ceiling_most i l), eq-eqb i j e)
          | no n ↦
              let r = o.project_at_law i l n in
              rw (
                within_of p.cards v.ceiling (o.some_ceiling i l) (o.ceiling_most i l),
                ne_eqb i j n,
                within_of (v.ceiling * p.frame) v.budget r.some_budget r.budget_most,
              )
        ]

    -- and nothing more is asked
    pub open_order_good : checked_open p j ≡ Good
    unfolding checked_open ranges_open project_there projects_in_range_open unused kinds_in_range tidy_projects tidy_kinds
    open_order_good =
        rw (
          sizes_of p o.counts,
          all_of 8 (tidy_project p) o.projects_tidy,
          all_of 16 (tidy_kind p) o.kinds_tidy,
          lt-ltb j p.projects o.its_place,
          each_of p.projects (project_in_range_open p j) project_open_of,
          each_of p.kinds (kind_in_range_at p) (λ i l. kind_of_law p i (o.kind_at_law i l)),
        )

    -- ---- with a budget written in

    -- the open project has a place
    place_there : j < length p.project
    place_there =
        elim (dec_lt j (length p.project)) [
          | yes q ↦ q
          | no q ↦
              let e : project_of p j ≡ no_project = get_or-eq_default p.project no_project {n = j} (omega arith) in
              absurd (omega (arith, ap (λ (v : Project). v.ceiling) e, o.some_ceiling j o.its_place))
        ]

    module _ (b : ℕ) where
      -- the open project has it
      pub with_there : project_of (with_budget p j b) j ≡ record { ceiling = (project_of p j).ceiling; budget = b }
      with_there = get_or-set_same p.project j (record { ceiling = (project_of p j).ceiling; budget = b }) no_project place_there

      counts_kept : Sized (with_budget p j b)
      counts_kept = sized_same (with_budget p j b) p refl refl refl refl o.counts

      tidy_kept : (i : ℕ) → i < 8 → tidy_project (with_budget p j b) i ≡ true
      tidy_kept i l =
          elim (ℕ_discrete i j) [
            | yes e ↦ rw (lt-ltb i p.projects (omega (arith, e, o.its_place)))
            | no n ↦ ap (λ (v : Project). ltb i p.projects || empty_project v) (with_other p j b i n) ∙ o.projects_tidy i l
          ]

      kind_kept : (i : ℕ) → i < p.kinds → KindInRange (with_budget p j b) (kind_of p i)
      kind_kept i l =
          let r = o.kind_at_law i l in
          record {
            its_project = r.its_project;
            some_length = r.some_length;
            length_most = r.length_most;
            deadline_most = r.deadline_most;
            separation_most = r.separation_most;
          }

      module _ (some : 0 < b) (most : b ≤ (project_of p j).ceiling * p.frame) where
        project_with : (i : ℕ) → i < p.projects → ProjectInRange (with_budget p j b) (project_of (with_budget p j b) i)
        project_with i l =
            elim (ℕ_discrete i j) [
              | yes e ↦
                  rw (e, with_there) (record {
                    some_ceiling = o.some_ceiling j o.its_place;
                    ceiling_most = o.ceiling_most j o.its_place;
                    some_budget = some;
                    budget_most = most;
                  })
              | no n ↦
                  let r = o.project_at_law i l n in
                  rw (with_other p j b i n) (record {
                    some_ceiling = r.some_ceiling;
                    ceiling_most = r.ceiling_most;
                    some_budget = r.some_budget;
                    budget_most = r.budget_most;
                  })
            ]

        -- 2 to 6 hold of it: its check answers 7 or nothing
        pub with_checked : checked (with_budget p j b) ≡ budgets_fit (with_budget p j b)
        unfolding checked unused ranges projects_in_range kinds_in_range tidy_projects tidy_kinds
        with_checked =
            rw (
              sizes_of (with_budget p j b) counts_kept,
              all_of 8 (tidy_project (with_budget p j b)) tidy_kept,
              all_of 16 (tidy_kind (with_budget p j b)) o.kinds_tidy,
              each_of p.projects (project_in_range (with_budget p j b)) (λ i l. project_of_law (with_budget p j b) i (project_with i l)),
              each_of p.kinds (kind_in_range_at (with_budget p j b)) (λ i l. kind_of_law (with_budget p j b) i (kind_kept i l)),
            )

        -- it is in order where the budgets' sum is not too large
        pub with_in_order : budgets (with_budget p j b) ≤ p.cards * p.frame → InOrder (with_budget p j b)
        with_in_order l =
            record {
              counts = counts_kept;
              projects_tidy = tidy_kept;
              kinds_tidy = o.kinds_tidy;
              project_at_law = project_with;
              kind_at_law = kind_kept;
              cells = l;
            }
