-- Laws of the record's order: what a good answer says of each field, and that nothing less is asked.
-- Assumes nothing.
use Rattle.std.specs.Prelude.{◌≡◌, refl, Bool, true, false, not, ◌&&◌, ◌||◌, List, ℕ, zero, suc, ◌+◌, ◌-◌, ◌*◌, ◌≤◌, ◌<◌, leb, ltb, eqb}
use Rattle.std.specs.Prelude.{length, get_or, take, drop}
use Rattle.std.specs.List.{list_all, sum_by}
use Rattle.std.proofs.Common.{sym, ap, ap₂, ◌∙◌, true≢false, add-suc, add-one, arith, lt-ltb, le-ltb, le-leb, ne_eqb, ltb-true, leb-true}
use Rattle.std.proofs.Common.{length-drop, get_or-drop}
use Rattle.std.proofs.lemmas.List.Folds.{list_all_more}
use Rattle.std.proofs.lemmas.List.Sums.{sum_by_more}
use Rattle.laws.specs.Sum.{sum_to}
use Rattle.laws.specs.All.{all_to}
use Rattle.plan.specs.declared.Project.{Project}
use Rattle.plan.specs.Order.{budget_of}
use Rattle.std.proofs.lemmas.Bool.{eqb-false, not-true, not-false}
use Rattle.laws.specs.Tests.{and_left, and_right}
use Rattle.laws.specs.All.Properties.{all_at, all_of}
use Rattle.plan.specs.declared.Plan.{Plan}
use Rattle.answer.specs.declared.Answer.{Answer}
use Rattle.answer.specs.declared.Answer.TheVariants.{Good}
use Rattle.plan.specs.Record.{no_project, no_kind}
use Rattle.answer.specs.Answer.{at_kind, refuse, ◌and_then◌}
use Rattle.answer.specs.Answer.Properties.{and_then_left, and_then_right, refuse_good, each_at, each_of}
use Rattle.plan.specs.Order.{Sized, ProjectInRange, KindInRange, InOrder, within, sized, empty_project, empty_kind, tidy_project}
use Rattle.plan.specs.Order.{tidy_kind, tidy_projects, tidy_kinds, in_range, timed, budgets, project_of, kind_of, sizes, unused}
use Rattle.plan.specs.Order.{project_in_range, projects_in_range, kind_in_range, kind_in_range_at, kinds_in_range, budgets_fit, ranges}
use Rattle.plan.specs.Order.{checked}

-- ---- "1..most"

pub within_low : (most x : ℕ) → within most x ≡ true → 0 < x
unfolding within
within_low most x e = let z = eqb-false x 0 (not-true (eqb x 0) (and_left (not (eqb x 0)) (leb x most) e)) in omega arith

pub within_high : (most x : ℕ) → within most x ≡ true → x ≤ most
unfolding within
within_high most x e = leb-true x most (and_right (not (eqb x 0)) (leb x most) e)

pub within_of : (most x : ℕ) → 0 < x → x ≤ most → within most x ≡ true
unfolding within
within_of most x p q = rw (ne_eqb x 0 (λ e. omega arith), le-leb x most q)

-- ---- the counts

pub sized_says : (p : Plan) → sized p ≡ true → Sized p
unfolding sized
sized_says p e =
    let m = and_left (within 8 p.cards) (within 8 p.projects && (within 16 p.kinds && within 64 p.frame)) e in
    let r = and_right (within 8 p.cards) (within 8 p.projects && (within 16 p.kinds && within 64 p.frame)) e in
    let q = and_left (within 8 p.projects) (within 16 p.kinds && within 64 p.frame) r in
    let s = and_right (within 8 p.projects) (within 16 p.kinds && within 64 p.frame) r in
    let n = and_left (within 16 p.kinds) (within 64 p.frame) s in
    let f = and_right (within 16 p.kinds) (within 64 p.frame) s in
    record {
      some_card = within_low 8 p.cards m;
      cards_most = within_high 8 p.cards m;
      some_project = within_low 8 p.projects q;
      projects_most = within_high 8 p.projects q;
      some_kind = within_low 16 p.kinds n;
      kinds_most = within_high 16 p.kinds n;
      some_slice = within_low 64 p.frame f;
      frame_most = within_high 64 p.frame f;
    }

-- no 2: every count is in range
pub sizes_says : (p : Plan) → sizes p ≡ Good → Sized p
unfolding sizes
sizes_says p e = sized_says p (not-false (sized p) (refuse_good (not (sized p)) _ e))

-- what the stage answered, opened
pub sizes_opened : (p : Plan) (r : Answer) → r ≡ Good → r ≡ sizes p → Sized p
sizes_opened p r e q = sizes_says p (sym q ∙ e)

pub projects_opened : (p : Plan) (r : Answer) → r ≡ Good → r ≡ sizes p → p.projects ≤ 8
projects_opened p r e q = (sizes_opened p r e q).projects_most

pub kinds_opened : (p : Plan) (r : Answer) → r ≡ Good → r ≡ sizes p → p.kinds ≤ 16
kinds_opened p r e q = (sizes_opened p r e q).kinds_most

-- and nothing more is asked
pub sizes_of : (p : Plan) → Sized p → sizes p ≡ Good
unfolding sizes sized
sizes_of p s =
    rw (
      within_of 8 p.cards s.some_card s.cards_most,
      within_of 8 p.projects s.some_project s.projects_most,
      within_of 16 p.kinds s.some_kind s.kinds_most,
      within_of 64 p.frame s.some_slice s.frame_most,
    )

-- the counts decide it, whatever the places hold
module _ (p q : Plan) (cards : p.cards ≡ q.cards) (projects : p.projects ≡ q.projects) (kinds : p.kinds ≡ q.kinds)
    (frame : p.frame ≡ q.frame) where
  pub sizes_same : sizes p ≡ sizes q
  unfolding sizes sized
  sizes_same = rw (cards, projects, kinds, frame)

  pub sized_same : Sized q → Sized p
  sized_same s = sizes_says p (sizes_same ∙ sizes_of q s)

-- ---- a place: used, empty, or beyond the used ones and not empty. r is what the test of emptiness answered

pub used_place : (j used n : ℕ) (e : Bool) → used ≡ n → j < used → (ltb j n || e) ≡ true
used_place j used n e q l = rw (lt-ltb j n (omega arith))

pub empty_place : (j n : ℕ) (e r : Bool) → r ≡ e → not r ≡ false → (ltb j n || e) ≡ true
empty_place j n e true q t = rw (← q) (go (ltb j n))
  where
    go : (b : Bool) → (b || true) ≡ true
    go true = refl
    go false = refl
empty_place j n e false q t = absurd (true≢false t)

pub full_place : (j used n : ℕ) (e r : Bool) → used ≡ n → used ≤ j → r ≡ e → not r ≡ true → (ltb j n || e) ≡ false
full_place j used n e true q l p t = absurd (true≢false (sym t))
full_place j used n e false q l p t = rw (le-ltb j n (omega arith), ← p)

-- a place that holds zeros, used or not
pub kept_empty : (j n : ℕ) (e : Bool) → e ≡ true → (ltb j n || e) ≡ true
kept_empty j n e q = empty_place j n e true (sym q) refl

pub no_project_empty : empty_project no_project ≡ true
unfolding empty_project
no_project_empty = refl

pub no_kind_empty : empty_kind no_kind ≡ true
unfolding empty_kind
no_kind_empty = refl

-- the places from the first unused one on, one after the other
tidy_from : {A : Type 0} (e : A → Bool) (d : A) (xs : List A) (used k : ℕ) → used + k ≤ length xs
    → all_to (used + k) (λ j. ltb j used || e (get_or xs j d)) ≡ list_all e (take k (drop used xs))
unfolding all_to
tidy_from e d xs used zero l =
    let f = λ (j : ℕ). ltb j used || e (get_or xs j d) in
    let z : used + 0 ≡ used = omega arith in
    rw z (all_of used f (λ i m. rw (lt-ltb i used m)))
tidy_from e d xs used (suc k) l =
    let f = λ (j : ℕ). ltb j used || e (get_or xs j d) in
    let ys = drop used xs in
    let m : k < length ys = omega (arith, length-drop used xs) in
    let v : f (used + k) ≡ e (get_or ys k d) = rw (le-ltb (used + k) used (omega arith)) (ap e (sym (get_or-drop used xs k d))) in
    ap (λ (n : ℕ). all_to n f) (add-suc used k) ∙ ap₂ ◌&&◌ (tidy_from e d xs used k (omega arith)) v
    ∙ sym (list_all_more e ys k d m) ∙ ap (λ (n : ℕ). list_all e (take n ys)) (add-one k)

pub tidy_all : {A : Type 0} (n used : ℕ) (e : A → Bool) (d : A) (xs : List A) (r : Bool) → length xs ≡ n → used ≤ n
    → r ≡ list_all e (take (n - used) (drop used xs)) → r ≡ all_to n (λ j. ltb j used || e (get_or xs j d))
tidy_all n used e d xs r m l q =
    let k : used + (n - used) ≡ n = omega arith in
    q ∙ sym (tidy_from e d xs used (n - used) (omega arith)) ∙ ap (λ (i : ℕ). all_to i (λ j. ltb j used || e (get_or xs j d))) k

-- ---- the budgets of the first projects, one after the other

budgets_to : (p : Plan) (n : ℕ) → n ≤ length p.project → sum_by (λ (v : Project). v.budget) (take n p.project) ≡ sum_to n (budget_of p)
unfolding sum_to
budgets_to p zero l = refl
budgets_to p (suc n) l =
    ap (λ (k : ℕ). sum_by (λ (v : Project). v.budget) (take k p.project)) (sym (add-one n))
    ∙ sum_by_more (λ (v : Project). v.budget) p.project n no_project (omega arith)
    ∙ ap (λ (k : ℕ). k + budget_of p n) (budgets_to p n (omega arith))

pub budgets_all : (p : Plan) (r : ℕ) → p.projects ≤ length p.project → r ≡ sum_by (λ (v : Project). v.budget) (take p.projects p.project)
    → r ≡ budgets p
unfolding budgets
budgets_all p r l q = q ∙ budgets_to p p.projects l

-- ---- a project and a kind in range

-- no 4: "a ceiling q (1..m) and a budget B (1..qF)"
pub project_says : (p : Plan) (j : ℕ) → project_in_range p j ≡ Good → ProjectInRange p (project_of p j)
unfolding in_range
project_says p j e =
    let v = project_of p j in
    let t = not-false (in_range p.cards p.frame v) (refuse_good (not (in_range p.cards p.frame v)) _ e) in
    let a = and_left (within p.cards v.ceiling) (within (v.ceiling * p.frame) v.budget) t in
    let b = and_right (within p.cards v.ceiling) (within (v.ceiling * p.frame) v.budget) t in
    record {
      some_ceiling = within_low p.cards v.ceiling a;
      ceiling_most = within_high p.cards v.ceiling a;
      some_budget = within_low (v.ceiling * p.frame) v.budget b;
      budget_most = within_high (v.ceiling * p.frame) v.budget b;
    }

-- and nothing more is asked
pub project_of_law : (p : Plan) (j : ℕ) → ProjectInRange p (project_of p j) → project_in_range p j ≡ Good
unfolding in_range
project_of_law p j r =
    let v = project_of p j in
    rw (
      within_of p.cards v.ceiling r.some_ceiling r.ceiling_most,
      within_of (v.ceiling * p.frame) v.budget r.some_budget r.budget_most,
    )

-- no 5 and no 6: "names its project .. with 1 <= C <= D <= T <= 4095"
pub kind_says : (p : Plan) (i : ℕ) → kind_in_range_at p i ≡ Good → KindInRange p (kind_of p i)
unfolding kind_in_range timed
kind_says p i e =
    let v = kind_of p i in
    let five = refuse (not (ltb v.project p.projects)) (at_kind 5 i) in
    let six = refuse (not (timed v)) (at_kind 6 i) in
    let a = not-false (ltb v.project p.projects) (refuse_good (not (ltb v.project p.projects)) _ (and_then_left five six e)) in
    let t = not-false (timed v) (refuse_good (not (timed v)) _ (and_then_right five six e)) in
    let one = not (eqb v.length 0) in
    let two = leb v.length v.deadline in
    let three = leb v.deadline v.separation in
    let four = leb v.separation 4095 in
    let b = eqb-false v.length 0 (not-true (eqb v.length 0) (and_left one (two && (three && four)) t)) in
    let r = and_right one (two && (three && four)) t in
    let s = and_right two (three && four) r in
    record {
      its_project = ltb-true v.project p.projects a;
      some_length = omega arith;
      length_most = leb-true v.length v.deadline (and_left two (three && four) r);
      deadline_most = leb-true v.deadline v.separation (and_left three four s);
      separation_most = leb-true v.separation 4095 (and_right three four s);
    }

-- and nothing more is asked
pub kind_of_law : (p : Plan) (i : ℕ) → KindInRange p (kind_of p i) → kind_in_range_at p i ≡ Good
unfolding kind_in_range timed
kind_of_law p i r =
    let v = kind_of p i in
    rw (
      lt-ltb v.project p.projects r.its_project,
      ne_eqb v.length 0 (λ e. omega (arith, r.some_length)),
      le-leb v.length v.deadline r.length_most,
      le-leb v.deadline v.separation r.deadline_most,
      le-leb v.separation 4095 r.separation_most,
    )

-- ---- the whole record

-- a good answer says that the plan is in order
pub in_order : (p : Plan) → checked p ≡ Good → InOrder p
unfolding checked unused ranges projects_in_range kinds_in_range budgets_fit tidy_projects tidy_kinds
in_order p e =
    let two = sizes p in
    let three = unused p in
    let four = projects_in_range p in
    let six = kinds_in_range p in
    let seven = budgets_fit p in
    let a = and_then_right two (three and_then ranges p) e in
    let b = and_then_right three (ranges p) a in
    let d = and_then_right four (six and_then seven) b in
    let t = not-false (tidy_projects p && tidy_kinds p)
    (refuse_good (not (tidy_projects p && tidy_kinds p)) _ (and_then_left three (ranges p) a)) in
    record {
      counts = sizes_says p (and_then_left two (three and_then ranges p) e);
      projects_tidy = all_at 8 (tidy_project p) (and_left (tidy_projects p) (tidy_kinds p) t);
      kinds_tidy = all_at 16 (tidy_kind p) (and_right (tidy_projects p) (tidy_kinds p) t);
      project_at_law = λ j l. project_says p j (each_at p.projects (project_in_range p) (and_then_left four (six and_then seven) b) j l);
      kind_at_law = λ i l. kind_says p i (each_at p.kinds (kind_in_range_at p) (and_then_left six seven d) i l);
      cells =
          leb-true (budgets p) (p.cards * p.frame) (not-false (leb (budgets p) (p.cards * p.frame))
          (refuse_good (not (leb (budgets p) (p.cards * p.frame))) _ (and_then_right six seven d)));
    }

-- and a plan in order has a good answer: nothing else is refused
pub in_order_good : (p : Plan) → InOrder p → checked p ≡ Good
unfolding checked unused ranges projects_in_range kinds_in_range budgets_fit tidy_projects tidy_kinds
in_order_good p o =
    rw (
      sizes_of p o.counts,
      all_of 8 (tidy_project p) o.projects_tidy,
      all_of 16 (tidy_kind p) o.kinds_tidy,
      each_of p.projects (project_in_range p) (λ j l. project_of_law p j (o.project_at_law j l)),
      each_of p.kinds (kind_in_range_at p) (λ i l. kind_of_law p i (o.kind_at_law i l)),
      le-leb (budgets p) (p.cards * p.frame) o.cells,
    )

-- what the record check answered, opened
pub check_opened : (p : Plan) (r : Answer) → r ≡ Good → r ≡ checked p → InOrder p
check_opened p r e q = in_order p (sym q ∙ e)

pub check_projects : (p : Plan) (r : Answer) → r ≡ Good → r ≡ checked p → p.projects ≤ 8
check_projects p r e q = (check_opened p r e q).counts.projects_most

pub check_kinds : (p : Plan) (r : Answer) → r ≡ Good → r ≡ checked p → p.kinds ≤ 16
check_kinds p r e q = (check_opened p r e q).counts.kinds_most
