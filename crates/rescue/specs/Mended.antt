-- Document 02 (viii): the plan that is made of the one that stands in damaged bytes.
-- Assumes nothing.
use Rattle.std.specs.Prelude.{ℕ, zero, suc, ◌*◌, min, max, Bool, not, cond, ◌&&◌, List, ltb, leb, eqb, set, replicate}
use Rattle.laws.specs.Count.{count_to}
use Rattle.laws.specs.Written.{written}
use Rattle.plan.specs.declared.Project.{Project}
use Rattle.plan.specs.declared.Kind.{Kind}
use Rattle.plan.specs.declared.Plan.{Plan}
use Rattle.plan.specs.Record.{no_project, no_kind}
use Rattle.plan.specs.Order.{project_of, kind_of}
pub mod Properties

-- "raise .. of 0 to 1"
unfoldable pub raised : ℕ → ℕ
raised x = max x 1

-- "lower .. above .. to" it
unfoldable pub lowered : ℕ → ℕ → ℕ
lowered most x = min x most

-- "raise q of 0 to 1 and lower q above m to m, then raise B of 0 to 1 and lower B above qF", with the new q
unfoldable pub project_for : ℕ → ℕ → Project → Project
project_for m F v =
    let q = lowered m (raised v.ceiling) in
    record { ceiling = q; budget = lowered (q * F) (raised v.budget) }

-- "lower D above T to T"
unfoldable pub kind_for : Kind → Kind
kind_for v =
    record { project = v.project; separation = v.separation; deadline = lowered v.separation v.deadline; length = v.length }

-- "then drop the kind if its project is absent or C is 0 or above D", with the new D: it is kept if not
unfoldable pub kept : ℕ → Kind → Bool
kept projects v = ltb v.project projects && (not (eqb v.length 0) && leb v.length (kind_for v).deadline)

-- project j of the plan that is made
abbrev pub project_for_at : Plan → ℕ → Project
project_for_at p j = project_for p.cards p.frame (project_of p j)

-- kind i, if it is kept
abbrev pub kind_for_at : Plan → ℕ → Kind
kind_for_at p i = kind_for (kind_of p i)

-- whether kind i is kept
abbrev pub kept_at : Plan → ℕ → Bool
kept_at p i = kept p.projects (kind_of p i)

-- how many of the first n kinds are kept
abbrev pub kinds_kept : Plan → ℕ → ℕ
kinds_kept p n = count_to n (kept_at p)

-- those of the first n kinds that are kept, in their order from place 0 on; "places beyond .. n hold zeros"
unfoldable pub kept_to : Plan → ℕ → List Kind
kept_to p zero = replicate 16 no_kind
kept_to p (suc n) = cond (kept_at p n) (set (kept_to p n) (kinds_kept p n) (kind_for_at p n)) (kept_to p n)

-- the plan that is made: "by project ..; by kind .."
unfoldable pub plan_for : Plan → Plan
plan_for p =
    record {
      cards = p.cards;
      projects = p.projects;
      kinds = kinds_kept p p.kinds;
      frame = p.frame;
      project = written p.projects (project_for_at p) (replicate 8 no_project);
      kind = kept_to p p.kinds;
    }
