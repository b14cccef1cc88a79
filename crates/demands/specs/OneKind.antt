-- A plan that is built from one-kind projects, as the rest of the house sees it: it starts, its bytes are written and read, and each budget
-- is the smallest.
-- Assumes nothing.
use Rattle.std.specs.Prelude.{◌≡◌, List, ◌++◌, ℕ, ◌*◌, ◌≤◌, ◌<◌, length, replicate}
use Rattle.std.proofs.Common.{sym, ap, subst, ◌∙◌, one-mul, arith}
use Rattle.std.proofs.Math.Decide.{dec_le}
use Rattle.std.proofs.lemmas.List.{length-replicate, set-get_or}
use borrow.Author.Tests.{le-ltb}
use Rattle.laws.specs.Written.Properties.{written_length}
use Rattle.answer.specs.declared.Answer.TheVariants.{Good}
use Rattle.plan.specs.declared.Project.{Project}
use Rattle.plan.specs.declared.Kind.{Kind}
use Rattle.plan.specs.declared.Plan.{Plan}
use Rattle.plan.specs.Record.{no_project, no_kind}
use Rattle.plan.specs.Order.{project_of, kind_of, budgets, checked, InOrder}
use Rattle.plan.specs.Order.Properties.{in_order_good}
use Rattle.plan.specs.Open.{with_budget, InOrderOpen}
use Rattle.plan_bytes.specs.Parts.{Shaped, encoded, size}
use Rattle.plan_bytes.specs.Reading.{read_of}
use Rattle.plan_bytes.specs.Writing.{write_answer}
use Rattle.plan_bytes.specs.RoundTrip.{read_written}
use Rattle.layout.specs.Layout.{first_cell}
use Rattle.verdict.specs.Verdict.{judged}
use Rattle.smallest_budget.specs.Smallest.{smallest_of}
use Rattle.one_kind.specs.Divisor.Properties.{divides_each}
use Rattle.one_kind.specs.Built.{frame_for, kind_for, budget_for, project_for, plan_for, Buildable}
use Rattle.one_kind.specs.Built.Properties.{rounded_enough, rounded_least, some_separation, some_frame, budget_some, budget_most}
use Rattle.one_kind.specs.Built.Properties.{project_is}
use Rattle.one_kind.specs.WholeFrames.{room-enough, enough_room}
use Rattle.one_kind.specs.Admitted.{built_in_order, built_admitted, own_project, alone_asked, alone_given}
use Rattle.rack.specs.Start.{start_answer, start_of}
use Rattle.demands.specs.OpenBudget.{FitsWith, Least}
use Rattle.demands.specs.OpenBudget.Exactly.{given_of}

-- a plan in order is in order whichever budget is left open
order_open : (p : Plan) → InOrder p → (j : ℕ) → j < p.projects → InOrderOpen p j
order_open p o j l =
    record {
      counts = o.counts;
      projects_tidy = o.projects_tidy;
      kinds_tidy = o.kinds_tidy;
      its_place = l;
      some_ceiling = λ i q. (o.project_at_law i q).some_ceiling;
      ceiling_most = λ i q. (o.project_at_law i q).ceiling_most;
      project_at_law = λ i q z. o.project_at_law i q;
      kind_at_law = o.kind_at_law;
    }

-- a budget written in where it is already changes nothing
budget_there : (p : Plan) (j : ℕ) → with_budget p j (project_of p j).budget ≡ p
budget_there p j =
    λ i. record {
      cards = p.cards;
      projects = p.projects;
      kinds = p.kinds;
      frame = p.frame;
      project = set-get_or p.project j no_project i;
      kind = p.kind;
    }

module _ (m n : ℕ) (T C : ℕ → ℕ) (w : Buildable m n T C) where
  abbrev p : Plan
  p = plan_for m n T C

  abbrev F : ℕ
  F = frame_for n T

  -- ---- it starts, and its bytes are written and read

  pub built_starts : (start_of p).answer ≡ Good
  unfolding start_of start_answer judged
  built_starts = built_admitted m n T C w

  built_checked : checked p ≡ Good
  built_checked = in_order_good p (built_in_order m n T C w)

  built_shaped : Shaped p
  built_shaped =
      record {
        eight = written_length n (project_for n T C) (replicate 8 no_project) ∙ length-replicate {A = Project} 8 no_project;
        sixteen = written_length n (kind_for T C) (replicate 16 no_kind) ∙ length-replicate {A = Kind} 16 no_kind;
      }

  pub built_written : (out : List ℕ) → size p ≤ length out → write_answer p out ≡ Good
  unfolding write_answer
  built_written out l = rw (built_checked, le-ltb (length out) (size p) l)

  pub built_read : (rest : List ℕ) → read_of (encoded p ++ rest) ≡ record { answer = Good; plan = p; taken = size p }
  built_read = read_written p built_shaped built_checked

  -- ---- each budget is the smallest

  module _ (j : ℕ) (l : j < n) where
    project_there : project_of p j ≡ project_for n T C j
    project_there = project_is m n T C w.limits j l

    -- with a budget of at most F it fits where FC is at most bT
    served_with : (b : ℕ) → b ≤ F → F * C j ≤ b * T j → FitsWith p j b j 1
    served_with b q h =
        let c : (project_of p (kind_of p j).project).ceiling ≡ 1
        = ap (λ (i : ℕ). (project_of p i).ceiling) (own_project m n T C w j l) ∙ ap (λ (v : Project). v.ceiling) project_there in
        record {
          width = record { some = omega arith; most = omega (arith, c) };
          room =
              rw (alone_asked m n T C w j l, alone_given m n T C w j b l (first_cell p j) q)
              (room-enough F (T j) (C j) b (some_frame m n T C w.limits) (divides_each n T j l) h);
        }

    needed : (b k : ℕ) → b ≤ F → FitsWith p j b j k → F * C j ≤ b * T j
    needed b k q f =
        let c : (project_of p (kind_of p j).project).ceiling ≡ 1
        = ap (λ (i : ℕ). (project_of p i).ceiling) (own_project m n T C w j l) ∙ ap (λ (v : Project). v.ceiling) project_there in
        let one : k ≡ 1 = omega (arith, f.width.some, f.width.most, c) in
        let g : FitsWith p j b j 1 = rw one at f in
        let r = g.room in
        enough_room F (T j) (C j) b (some_frame m n T C w.limits) (divides_each n T j l)
        (omega (arith, r, alone_asked m n T C w j l, alone_given m n T C w j b l (first_cell p j) q))

    least_one : Least p j (budget_for n T C j)
    least_one =
        record {
          some = budget_some m n T C w.limits j l;
          most = rw project_there (omega (arith, one-mul F, budget_most m n T C w.limits j l));
          serves = λ i h own. its i (sym own ∙ own_project m n T C w i h);
          least = λ c some s. elim (dec_le c F) [
            | yes q ↦
                let t = s j l (own_project m n T C w j l) in
                rounded_least F (T j) (C j) (some_separation m n T C w.limits j l) c (needed c t.0 q t.1)
            | no q ↦ omega (arith, budget_most m n T C w.limits j l)
          ];
        }
      where
        its : (i : ℕ) → j ≡ i → (k : ℕ) × FitsWith p j (budget_for n T C j) i k
        its i e =
            let f = served_with (budget_for n T C j) (budget_most m n T C w.limits j l)
            (rounded_enough F (T j) (C j) (some_separation m n T C w.limits j l)) in
            (1, subst (λ (x : ℕ). FitsWith p j (budget_for n T C j) x 1) e f)

    kept : with_budget p j (budget_for n T C j) ≡ p
    kept = ap (λ (v : Project). with_budget p j v.budget) (sym project_there) ∙ budget_there p j

    pub built_least : smallest_of p j ≡ record { answer = Good; budget = budget_for n T C j }
    built_least =
        let o = built_in_order m n T C w in
        let cells : budgets (with_budget p j (budget_for n T C j)) ≤ m * F = rw kept o.cells in
        let t = given_of p j (budget_for n T C j) (order_open p o j l, least_one, cells) in
        λ i. record { answer = t.0 i; budget = t.1 i }
