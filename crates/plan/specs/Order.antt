-- Document 01, "What the base holds" and the refusals 2 to 7: when a plan's record is in order, and what is said where it is not.
-- Assumes nothing.
use Rattle.std.specs.Prelude.{ℕ, ◌*◌, ◌≤◌, ◌<◌, ◌≡◌, Bool, true, not, ◌&&◌, ◌||◌, leb, ltb, eqb, get_or}
use Rattle.laws.specs.Sum.{sum_to}
use Rattle.laws.specs.All.{all_to}
use Rattle.plan.specs.declared.Project.{Project}
use Rattle.plan.specs.declared.Kind.{Kind}
use Rattle.plan.specs.declared.Plan.{Plan}
use Rattle.answer.specs.declared.Answer.{Answer}
use Rattle.plan.specs.Record.{no_project, no_kind}
use Rattle.answer.specs.Answer.{bare, at_project, at_kind, refuse, ◌and_then◌, each_to}
pub mod Properties

-- ---- the plan's places

-- project j of the plan
abbrev pub project_of : Plan → ℕ → Project
project_of p j = get_or p.project j no_project

-- kind i of the plan
abbrev pub kind_of : Plan → ℕ → Kind
kind_of p i = get_or p.kind i no_kind

-- ---- the tests

-- "1..most"
unfoldable pub within : ℕ → ℕ → Bool
within most x = not (eqb x 0) && leb x most

-- "cards m 1..8; projects p 1..8; unit kinds n 1..16; frame length F 1..64"
unfoldable pub sized : Plan → Bool
sized p = within 8 p.cards && (within 8 p.projects && (within 16 p.kinds && within 64 p.frame))

-- a place of a project that holds zeros
unfoldable pub empty_project : Project → Bool
empty_project v = eqb v.ceiling 0 && eqb v.budget 0

-- a place of a kind that holds zeros
unfoldable pub empty_kind : Kind → Bool
empty_kind v = eqb v.project 0 && (eqb v.separation 0 && (eqb v.deadline 0 && eqb v.length 0))

-- "places beyond p .. hold zeros", at place j
abbrev pub tidy_project : Plan → ℕ → Bool
tidy_project p j = ltb j p.projects || empty_project (project_of p j)

-- "places beyond .. n hold zeros", at place i
abbrev pub tidy_kind : Plan → ℕ → Bool
tidy_kind p i = ltb i p.kinds || empty_kind (kind_of p i)

-- "places beyond p .. hold zeros"
unfoldable pub tidy_projects : Plan → Bool
tidy_projects p = all_to 8 (tidy_project p)

-- "places beyond .. n hold zeros"
unfoldable pub tidy_kinds : Plan → Bool
tidy_kinds p = all_to 16 (tidy_kind p)

-- "A project has a ceiling q (1..m) and a budget B (1..qF)"
unfoldable pub in_range : ℕ → ℕ → Project → Bool
in_range cards frame v = within cards v.ceiling && within (v.ceiling * frame) v.budget

-- "1 <= C <= D <= T <= 4095"
unfoldable pub timed : Kind → Bool
timed v = not (eqb v.length 0) && (leb v.length v.deadline && (leb v.deadline v.separation && leb v.separation 4095))

-- project j's budget B
abbrev pub budget_of : Plan → ℕ → ℕ
budget_of p j = (project_of p j).budget

-- the sum of the budgets
unfoldable pub budgets : Plan → ℕ
budgets p = sum_to p.projects (budget_of p)

-- ---- the refusals

-- "2: m, p, n or F out of range"
unfoldable pub sizes : Plan → Answer
sizes p = refuse (not (sized p)) (bare 2)

-- "3: .. an unused place not zero"
unfoldable pub unused : Plan → Answer
unused p = refuse (not (tidy_projects p && tidy_kinds p)) (bare 3)

-- "4: q or B out of range", of project j
abbrev pub project_in_range : Plan → ℕ → Answer
project_in_range p j = refuse (not (in_range p.cards p.frame (project_of p j))) (at_project 4 j)

-- "4: q or B out of range", at the first such project
unfoldable pub projects_in_range : Plan → Answer
projects_in_range p = each_to p.projects (project_in_range p)

-- "5: kind names a project not below p", "6: not 1 <= C <= D <= T <= 4095", of kind i, 5 before 6
unfoldable pub kind_in_range : ℕ → Kind → ℕ → Answer
kind_in_range projects v i = refuse (not (ltb v.project projects)) (at_kind 5 i) and_then refuse (not (timed v)) (at_kind 6 i)

-- the plan's kind i
abbrev pub kind_in_range_at : Plan → ℕ → Answer
kind_in_range_at p i = kind_in_range p.projects (kind_of p i) i

-- "kind by kind 5 before 6"
unfoldable pub kinds_in_range : Plan → Answer
kinds_in_range p = each_to p.kinds (kind_in_range_at p)

-- "7: budgets sum above mF"
unfoldable pub budgets_fit : Plan → Answer
budgets_fit p = refuse (not (leb (budgets p) (p.cards * p.frame))) (bare 7)

-- ".. 4, 5/6, 7"
unfoldable pub ranges : Plan → Answer
ranges p = projects_in_range p and_then (kinds_in_range p and_then budgets_fit p)

-- "Records: 2, 3, 4, 5/6, 7"
unfoldable pub checked : Plan → Answer
checked p = sizes p and_then (unused p and_then ranges p)

-- ---- what a good answer says, field by field

-- "cards m 1..8; projects p 1..8; unit kinds n 1..16; frame length F 1..64"
pub record Sized (p : Plan) : Type 0 where
  pub some_card : 0 < p.cards
  pub cards_most : p.cards ≤ 8
  pub some_project : 0 < p.projects
  pub projects_most : p.projects ≤ 8
  pub some_kind : 0 < p.kinds
  pub kinds_most : p.kinds ≤ 16
  pub some_slice : 0 < p.frame
  pub frame_most : p.frame ≤ 64

-- "A project has a ceiling q (1..m) and a budget B (1..qF)"
pub record ProjectInRange (p : Plan) (v : Project) : Type 0 where
  pub some_ceiling : 0 < v.ceiling
  pub ceiling_most : v.ceiling ≤ p.cards
  pub some_budget : 0 < v.budget
  pub budget_most : v.budget ≤ v.ceiling * p.frame

-- "A unit kind names its project and has a separation T, deadline D and length C with 1 <= C <= D <= T <= 4095"
pub record KindInRange (p : Plan) (v : Kind) : Type 0 where
  pub its_project : v.project < p.projects
  pub some_length : 0 < v.length
  pub length_most : v.length ≤ v.deadline
  pub deadline_most : v.deadline ≤ v.separation
  pub separation_most : v.separation ≤ 4095

-- what a plan in order is, field by field
pub record InOrder (p : Plan) : Type 0 where
  pub counts : Sized p
  pub projects_tidy : (j : ℕ) → j < 8 → tidy_project p j ≡ true
  pub kinds_tidy : (i : ℕ) → i < 16 → tidy_kind p i ≡ true
  pub project_at_law : (j : ℕ) → j < p.projects → ProjectInRange p (project_of p j)
  pub kind_at_law : (i : ℕ) → i < p.kinds → KindInRange p (kind_of p i)
  pub cells : budgets p ≤ p.cards * p.frame
