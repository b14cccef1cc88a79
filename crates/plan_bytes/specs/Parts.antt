-- Document 01, "Plan bytes", the table: the one layout from which both reading and writing are stated.
-- Assumes nothing.
use Rattle.std.specs.Prelude.{ℕ, ◌+◌, ◌*◌, List, [], ◌∷◌, ◌++◌, ◌≡◌, length, get_or, drop, replicate}
use Rattle.laws.specs.Written.{written}
use Rattle.plan.specs.declared.Project.{Project}
use Rattle.plan.specs.declared.Kind.{Kind}
use Rattle.plan.specs.declared.Plan.{Plan}
use Rattle.plan.specs.Record.{no_project, no_kind}
use Rattle.plan.specs.Order.{project_of, kind_of}
use Rattle.codec.specs.Pack.{pack, unpack}
use Rattle.codec.specs.Bytes.{number_to, bytes_of}
use Rattle.codec.specs.Places.{parts_to}
pub mod Properties

-- ---- "fields in order (bits)"

-- "header: m 4, p 4, n 5, F 7, spare 4"
abbrev pub header_widths : List ℕ
header_widths = 4 ∷ 4 ∷ 5 ∷ 7 ∷ 4 ∷ []

-- "each project: q 4, B 10, spare 2"
abbrev pub project_widths : List ℕ
project_widths = 4 ∷ 10 ∷ 2 ∷ []

-- "each unit kind: project from 0 (3), T 12, D 12, C 12, spare 1"
abbrev pub kind_widths : List ℕ
kind_widths = 3 ∷ 12 ∷ 12 ∷ 12 ∷ 1 ∷ []

-- ---- "bytes": 3, 2 and 5

-- "A plan takes 3 + 2p + 5n bytes"
unfoldable pub size : Plan → ℕ
size p = 3 + 2 * p.projects + 5 * p.kinds

-- the arrays of a plan as the language's type has them
pub record Shaped (p : Plan) : Type 0 where
  pub eight : length p.project ≡ 8
  pub sixteen : length p.kind ≡ 16

-- ---- the parts as bytes; "the spare bits, which are zero"

-- "header: m 4, p 4, n 5, F 7, spare 4"
unfoldable pub header_bytes : Plan → List ℕ
header_bytes p = bytes_of 3 (pack header_widths (p.cards ∷ p.projects ∷ p.kinds ∷ p.frame ∷ 0 ∷ []))

-- "each project: q 4, B 10, spare 2"
unfoldable pub project_bytes : Project → List ℕ
project_bytes v = bytes_of 2 (pack project_widths (v.ceiling ∷ v.budget ∷ 0 ∷ []))

-- "each unit kind: project from 0 (3), T 12, D 12, C 12, spare 1"
unfoldable pub kind_bytes : Kind → List ℕ
kind_bytes v = bytes_of 5 (pack kind_widths (v.project ∷ v.separation ∷ v.deadline ∷ v.length ∷ 0 ∷ []))

-- project j's bytes
abbrev pub project_bytes_at : Plan → ℕ → List ℕ
project_bytes_at p j = project_bytes (project_of p j)

-- unit kind i's bytes
abbrev pub kind_bytes_at : Plan → ℕ → List ℕ
kind_bytes_at p i = kind_bytes (kind_of p i)

-- the plan's bytes: the header, each project, each unit kind
unfoldable pub encoded : Plan → List ℕ
encoded p = header_bytes p ++ parts_to p.projects (project_bytes_at p) ++ parts_to p.kinds (kind_bytes_at p)

-- ---- the parts' fields, read from where each starts

-- the header's fields at the front of s
unfoldable pub header_fields : List ℕ → List ℕ
header_fields s = unpack header_widths (number_to 3 s)

-- the fields of a project at the front of s
unfoldable pub project_fields : List ℕ → List ℕ
project_fields s = unpack project_widths (number_to 2 s)

-- the fields of a unit kind at the front of s
unfoldable pub kind_fields : List ℕ → List ℕ
kind_fields s = unpack kind_widths (number_to 5 s)

-- the project whose fields stand at the front of s
unfoldable pub project_from : List ℕ → Project
project_from s = record { ceiling = get_or (project_fields s) 0 0; budget = get_or (project_fields s) 1 0 }

-- the unit kind whose fields stand at the front of s
unfoldable pub kind_from : List ℕ → Kind
kind_from s =
    record {
      project = get_or (kind_fields s) 0 0;
      separation = get_or (kind_fields s) 1 0;
      deadline = get_or (kind_fields s) 2 0;
      length =
          get_or (kind_fields s) 3 0;
    }

-- ---- where each part starts

-- project j, of bytes that start after the header
abbrev pub project_at : List ℕ → ℕ → List ℕ
project_at s j = drop (2 * j) s

-- unit kind i, of bytes that start after the projects
abbrev pub kind_at : List ℕ → ℕ → List ℕ
kind_at s i = drop (5 * i) s

-- the first n projects, "places beyond p .. hold zeros"
unfoldable pub projects_from : ℕ → List ℕ → List Project
projects_from n s = written n (λ j. project_from (project_at s j)) (replicate 8 no_project)

-- the first n unit kinds, "places beyond .. n hold zeros"
unfoldable pub kinds_from : ℕ → List ℕ → List Kind
kinds_from n s = written n (λ i. kind_from (kind_at s i)) (replicate 16 no_kind)

-- ---- the plan that the bytes say

-- the counts alone: "m 4, p 4, n 5, F 7"
unfoldable pub headed : List ℕ → Plan
headed s =
    record {
      cards = get_or (header_fields s) 0 0;
      projects = get_or (header_fields s) 1 0;
      kinds = get_or (header_fields s) 2 0;
      frame = get_or (header_fields s) 3 0;
      project = replicate 8 no_project;
      kind = replicate 16 no_kind;
    }

-- the bytes after the header
abbrev pub after_header : List ℕ → List ℕ
after_header s = drop 3 s

-- the bytes after the projects
abbrev pub after_projects : List ℕ → List ℕ
after_projects s = drop (3 + 2 * (headed s).projects) s

-- "In the record form, places beyond p or n hold zeros"
unfoldable pub decoded : List ℕ → Plan
decoded s =
    record {
      cards = (headed s).cards;
      projects = (headed s).projects;
      kinds = (headed s).kinds;
      frame = (headed s).frame;
      project = projects_from (headed s).projects (after_header s);
      kind = kinds_from (headed s).kinds (after_projects s);
    }
