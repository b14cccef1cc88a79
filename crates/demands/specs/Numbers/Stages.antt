-- The numbers that each stage of the record order gives, for any list that has them.
-- Assumes nothing.
use Rattle.std.specs.Prelude.{◌≡◌, true, not, ◌&&◌, List, ℕ, ◌*◌, ◌≤◌, ◌<◌, leb, ltb}
use Rattle.std.proofs.Math.Path.{refl}
use Rattle.std.proofs.Common.{arith}
use Rattle.answer.specs.Numbers.{among, Numbered}
use Rattle.answer.specs.Numbers.Properties.{bare_numbered, project_numbered, kind_numbered}
use Rattle.answer.specs.Numbers.Properties.{refuse_numbered, and_then_numbered, each_numbered}
use Rattle.plan.specs.declared.Plan.{Plan}
use Rattle.plan.specs.Order.{sized, tidy_projects, tidy_kinds, in_range, timed, budgets, project_of, kind_of}
use Rattle.plan.specs.Order.{sizes, unused, project_in_range, projects_in_range, kind_in_range, kind_in_range_at, kinds_in_range}
use Rattle.plan.specs.Order.{budgets_fit}
use Rattle.plan.specs.Open.{project_there, in_range_open, project_in_range_open, projects_in_range_open}

module _ (listed : List ℕ) (p : Plan) where
  pub sizes_numbers : among listed 2 ≡ true → Numbered listed (sizes p)
  unfolding sizes
  sizes_numbers e = refuse_numbered _ (not (sized p)) _ (bare_numbered _ 2 (λ z. omega arith) e)

  pub unused_numbers : among listed 3 ≡ true → Numbered listed (unused p)
  unfolding unused
  unused_numbers e = refuse_numbered _ (not (tidy_projects p && tidy_kinds p)) _ (bare_numbered _ 3 (λ z. omega arith) e)

  pub there_numbers : (j : ℕ) → among listed 27 ≡ true → Numbered listed (project_there p j)
  unfolding project_there
  there_numbers j e = refuse_numbered _ (not (ltb j p.projects)) _ (bare_numbered _ 27 (λ z. omega arith) e)

  pub projects_numbers : p.projects ≤ 8 → among listed 4 ≡ true → Numbered listed (projects_in_range p)
  unfolding projects_in_range among
  projects_numbers l e =
      each_numbered _ p.projects (project_in_range p)
      (λ j m. refuse_numbered _ (not (in_range p.cards p.frame (project_of p j))) _ (project_numbered _ 4 j refl e (omega arith)))

  pub projects_open_numbers : (j : ℕ) → p.projects ≤ 8 → among listed 4 ≡ true → Numbered listed (projects_in_range_open p j)
  unfolding projects_in_range_open among
  projects_open_numbers j l e =
      each_numbered _ p.projects (project_in_range_open p j)
      (λ i m. refuse_numbered _ (not (in_range_open p j i)) _ (project_numbered _ 4 i refl e (omega arith)))

  pub kinds_numbers : p.kinds ≤ 16 → among listed 5 ≡ true → among listed 6 ≡ true → Numbered listed (kinds_in_range p)
  unfolding kinds_in_range kind_in_range among
  kinds_numbers l e f = each_numbered _ p.kinds (kind_in_range_at p) kind
    where
      kind : (i : ℕ) → i < p.kinds → Numbered listed (kind_in_range_at p i)
      kind i m =
          and_then_numbered _ _ _
          (refuse_numbered _ (not (ltb (kind_of p i).project p.projects)) _ (kind_numbered _ 5 i refl e (omega arith)))
          (λ g. refuse_numbered _ (not (timed (kind_of p i))) _ (kind_numbered _ 6 i refl f (omega arith)))

  pub sum_numbers : among listed 7 ≡ true → Numbered listed (budgets_fit p)
  unfolding budgets_fit
  sum_numbers e = refuse_numbered _ (not (leb (budgets p) (p.cards * p.frame))) _ (bare_numbered _ 7 (λ z. omega arith) e)
