-- Document 02 (viii), "Rescue a damaged plan file": the list of changes, the refusals 1, 2, 20 and 9, and what rescuing answers.
-- Assumes nothing.
use Rattle.std.specs.Prelude.{ℕ, ◌+◌, ◌*◌, Bool, cond, List, [], ◌∷◌, ◌++◌, ltb, eqb, length, drop}
use Rattle.answer.specs.declared.Answer.{Answer}
use Rattle.answer.specs.Answer.{bare, refuse, ◌and_then◌, if_good}
use Rattle.answer.specs.Outcome.{Leaves}
use Rattle.plan.specs.declared.Project.{Project}
use Rattle.plan.specs.declared.Kind.{Kind}
use Rattle.plan.specs.declared.Plan.{Plan}
use Rattle.plan.specs.Record.{no_plan}
use Rattle.plan.specs.Order.{project_of, kind_of}
use Rattle.plan_bytes.specs.Parts.{project_at, kind_at, after_header, decoded}
use Rattle.plan_bytes.specs.Reading.{header_spare, project_spare, kind_spare, counts_answer}
use Rattle.rescue.specs.declared.Rescued.{Rescued}
use Rattle.rescue.specs.Entry.{Entry, entry, listed, change, entries_to}
use Rattle.rescue.specs.Mended.{project_for_at, kind_for_at, kept_at, plan_for}
pub mod Properties

-- ---- the changes. "Fields are 1 to 3 for spare bits of header, project and kind, 4 q, 5 B, 6 D, 7 a dropped kind (values 0)"

-- the spare bits of project j
unfoldable pub project_spare_at : List ℕ → ℕ → ℕ
project_spare_at s j = project_spare (project_at (after_header s) j)

-- the spare bit of kind i, behind so many projects
unfoldable pub kind_spare_at : List ℕ → ℕ → ℕ → ℕ
kind_spare_at s projects i = kind_spare (kind_at (drop (3 + 2 * projects) s) i)

-- "2 .. for spare bits of .. project"
unfoldable pub project_spare_change : List ℕ → ℕ → List Entry
project_spare_change s j = change 2 j (project_spare_at s j) 0

-- "3 for spare bits of .. kind", of a kept one: "a dropped kind has only that entry", its 7
unfoldable pub spare_entries : Bool → ℕ → ℕ → List Entry
spare_entries kept i spare = cond kept (change 3 i spare 0) []

-- the same of kind i
unfoldable pub kind_spare_change : List ℕ → Plan → ℕ → List Entry
kind_spare_change s p i = spare_entries (kept_at p i) i (kind_spare_at s p.projects i)

-- "4 q, 5 B"
unfoldable pub project_entries : ℕ → Project → Project → List Entry
project_entries j old new = change 4 j old.ceiling new.ceiling ++ change 5 j old.budget new.budget

-- the same of project j
unfoldable pub project_changes : Plan → ℕ → List Entry
project_changes p j = project_entries j (project_of p j) (project_for_at p j)

-- "6 D, 7 a dropped kind (values 0)"
unfoldable pub kind_entries : Bool → ℕ → Kind → Kind → List Entry
kind_entries kept i old new = cond kept (change 6 i old.deadline new.deadline) (entry 7 i 0 0 ∷ [])

-- the same of kind i
unfoldable pub kind_changes : Plan → ℕ → List Entry
kind_changes p i = kind_entries (kept_at p i) i (kind_of p i) (kind_for_at p i)

-- "In this order: clear spare bits; by project ..; by kind ..", of bytes in which the plan p stands
unfoldable pub changes_in : List ℕ → Plan → List Entry
changes_in s p =
    change 1 0 (header_spare s) 0
    ++ entries_to p.projects (project_spare_change s) ++ entries_to p.kinds (kind_spare_change s p)
    ++ entries_to p.projects (project_changes p) ++ entries_to p.kinds (kind_changes p)

-- the changes of these bytes
abbrev pub changes : List ℕ → List Entry
changes s = changes_in s (decoded s)

-- the same as bytes
abbrev pub list_of : List ℕ → List ℕ
list_of s = listed (changes s)

-- the bytes that the list takes
abbrev pub list_size : List ℕ → ℕ
list_size s = 6 * length (changes s)

-- the plan that is made of these bytes
abbrev pub rescued_plan : List ℕ → Plan
rescued_plan s = plan_for (decoded s)

-- ---- the answer

-- "20 when no kind remains; 9 when the list's entries don't all fit"
unfoldable pub rest_answer : List ℕ → List ℕ → Answer
rest_answer s list = refuse (eqb (rescued_plan s).kinds 0) (bare 20) and_then refuse (ltb (length list) (list_size s)) (bare 9)

-- "Refusals: 1 and 2 as in reading; 20 ..; 9 .."
unfoldable pub rescue_answer : List ℕ → List ℕ → Answer
rescue_answer s list = counts_answer s and_then rest_answer s list

-- an answer with the plan and the count of the list's bytes beside it; "zero when refused"
abbrev pub rescued_with : Answer → Plan → ℕ → Rescued
rescued_with a p n = record { answer = a; plan = if_good a p no_plan; count = if_good a n 0 }

-- what rescuing answers
unfoldable pub rescue_of : List ℕ → List ℕ → Rescued
rescue_of s list = rescued_with (rescue_answer s list) (rescued_plan s) (list_size s)

-- what the lent buffer holds then: "Lent buffers keep every byte on a refusal. On success, bytes past those needed keep their value"
unfoldable pub list_over : List ℕ → List ℕ → List ℕ
list_over s list = if_good (rescue_answer s list) (list_of s ++ drop (list_size s) list) list

-- the contract of rescuing
abbrev pub Rescues : List ℕ → List ℕ → Rescued → List ℕ → Type 0
Rescues s list = Leaves (rescue_of s list) (list_over s list)
