-- Document 02 (i): the record order of a plan with one project's budget left open, and that plan with a budget written in.
-- Assumes nothing.
use Rattle.std.specs.Prelude.{ℕ, ◌*◌, ◌≤◌, ◌<◌, ◌≡◌, ◌≢◌, Option, None, Some, Bool, true, not, ◌&&◌, ◌||◌, ltb, eqb, set}
use Rattle.plan.specs.declared.Plan.{Plan}
use Rattle.answer.specs.declared.Answer.{Answer}
use Rattle.answer.specs.Answer.{bare, at_project, refuse, ◌and_then◌, each_to}
use Rattle.plan.specs.Order.{project_of, kind_of, within, tidy_project, tidy_kind, sizes, unused, project_in_range, projects_in_range}
use Rattle.plan.specs.Order.{kinds_in_range}
use Rattle.plan.specs.Order.{Sized, ProjectInRange, KindInRange}
pub mod Properties

-- "Leave one project's budget open": the plan with b written in as project j's budget, and all else kept
abbrev pub with_budget : Plan → ℕ → ℕ → Plan
with_budget p j b =
    record {
      cards = p.cards;
      projects = p.projects;
      kinds = p.kinds;
      frame = p.frame;
      project = set p.project j (record { ceiling = (project_of p j).ceiling; budget = b });
      kind = p.kind;
    }

-- "27 for a project not below p"
unfoldable pub project_there : Plan → ℕ → Answer
project_there p j = refuse (not (ltb j p.projects)) (bare 27)

-- "4 skipping that one budget": project i's ceiling and, unless it is the open project's, its budget
unfoldable pub in_range_open : Plan → ℕ → ℕ → Bool
in_range_open p j i =
    within p.cards (project_of p i).ceiling && (eqb i j || within ((project_of p i).ceiling * p.frame) (project_of p i).budget)

-- "4 skipping that one budget", of project i
abbrev pub project_in_range_open : Plan → ℕ → ℕ → Answer
project_in_range_open p j i = refuse (not (in_range_open p j i)) (at_project 4 i)

-- "4 skipping that one budget", at the first such project
unfoldable pub projects_in_range_open : Plan → ℕ → Answer
projects_in_range_open p j = each_to p.projects (project_in_range_open p j)

-- "4", or "4 skipping that one budget" where one is left open: of project i, and at the first such project
abbrev pub project_in_range_but : Option ℕ → Plan → ℕ → Answer
project_in_range_but None p = project_in_range p
project_in_range_but (Some j) p = project_in_range_open p j

abbrev pub projects_in_range_but : Option ℕ → Plan → Answer
projects_in_range_but None p = projects_in_range p
projects_in_range_but (Some j) p = projects_in_range_open p j

-- "then 27 for a project not below p; the rest of the record order, 4 skipping that one budget, without 7"
unfoldable pub ranges_open : Plan → ℕ → Answer
ranges_open p j = project_there p j and_then (projects_in_range_open p j and_then kinds_in_range p)

-- "2, 3, then 27 .."
unfoldable pub checked_open : Plan → ℕ → Answer
checked_open p j = sizes p and_then (unused p and_then ranges_open p j)

-- ---- what a good answer says, field by field

-- what a plan in order is but for project j's budget, which is open
pub record InOrderOpen (p : Plan) (j : ℕ) : Type 0 where
  pub counts : Sized p
  pub projects_tidy : (i : ℕ) → i < 8 → tidy_project p i ≡ true
  pub kinds_tidy : (i : ℕ) → i < 16 → tidy_kind p i ≡ true
  pub its_place : j < p.projects
  pub some_ceiling : (i : ℕ) → i < p.projects → 0 < (project_of p i).ceiling
  pub ceiling_most : (i : ℕ) → i < p.projects → (project_of p i).ceiling ≤ p.cards
  pub project_at_law : (i : ℕ) → i < p.projects → i ≢ j → ProjectInRange p (project_of p i)
  pub kind_at_law : (i : ℕ) → i < p.kinds → KindInRange p (kind_of p i)
