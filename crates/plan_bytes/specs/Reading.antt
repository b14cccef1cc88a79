-- Document 01, "Plan bytes" and "Numbers given back when we say no": what reading plan bytes answers.
-- Assumes nothing.
use Rattle.std.specs.Prelude.{ℕ, Bool, not, ◌&&◌, List, ltb, eqb, length, get_or}
use Rattle.laws.specs.All.{all_to}
use Rattle.plan.specs.declared.Plan.{Plan}
use Rattle.answer.specs.declared.Answer.{Answer}
use Rattle.plan.specs.Record.{no_plan}
use Rattle.answer.specs.Answer.{bare, refuse, ◌and_then◌, if_good}
use Rattle.plan.specs.Order.{sizes, ranges}
use Rattle.plan_bytes.specs.declared.Reading.{Reading}
use Rattle.plan_bytes.specs.Parts.{header_fields, project_fields, kind_fields, project_at, kind_at, after_header, after_projects, headed}
use Rattle.plan_bytes.specs.Parts.{decoded, size}
pub mod Properties

-- ---- the spare bits, "which are zero"

-- the header's
unfoldable pub header_spare : List ℕ → ℕ
header_spare s = get_or (header_fields s) 4 0

-- a project's
unfoldable pub project_spare : List ℕ → ℕ
project_spare s = get_or (project_fields s) 2 0

-- a unit kind's
unfoldable pub kind_spare : List ℕ → ℕ
kind_spare s = get_or (kind_fields s) 4 0

-- every spare bit of the first n projects is zero
unfoldable pub projects_spare : ℕ → List ℕ → Bool
projects_spare n s = all_to n (λ j. eqb (project_spare (project_at s j)) 0)

-- every spare bit of the first n unit kinds is zero
unfoldable pub kinds_spare : ℕ → List ℕ → Bool
kinds_spare n s = all_to n (λ i. eqb (kind_spare (kind_at s i)) 0)

-- every spare bit after the header is zero
unfoldable pub places_spare : List ℕ → Bool
places_spare s = projects_spare (headed s).projects (after_header s) && kinds_spare (headed s).kinds (after_projects s)

-- every spare bit of the whole plan is zero
unfoldable pub spare_zero : List ℕ → Bool
spare_zero s = eqb (header_spare s) 0 && places_spare s

-- ---- the answer

-- ".. 1 for the total, 3, all projects for 4, then kind by kind 5 before 6, then 7"
unfoldable pub body_answer : List ℕ → Answer
body_answer s =
    refuse (ltb (length s) (size (headed s))) (bare 1) and_then (refuse (not (spare_zero s)) (bare 3) and_then ranges (decoded s))

-- "Bytes: 1 for the first three bytes, 2, .."
unfoldable pub read_answer : List ℕ → Answer
read_answer s = refuse (ltb (length s) 3) (bare 1) and_then (sizes (headed s) and_then body_answer s)

-- "A refused read gives an all-zero plan and 0 bytes taken"; a good one the plan and "how many bytes it took"
abbrev pub reading : Answer → Plan → ℕ → Reading
reading a p n = record { answer = a; plan = if_good a p no_plan; taken = if_good a n 0 }

-- what reading answers
unfoldable pub read_of : List ℕ → Reading
read_of s = reading (read_answer s) (decoded s) (size (headed s))

-- ---- what stands in bytes that pass 1 and 2, whatever else is wrong with them

-- "1 for the first three bytes, 2, 1 for the total" and nothing after it
unfoldable pub counts_answer : List ℕ → Answer
counts_answer s = refuse (ltb (length s) 3) (bare 1) and_then (sizes (headed s) and_then refuse (ltb (length s) (size (headed s))) (bare 1))

-- the plan that such bytes say, and how many bytes it takes
unfoldable pub standing_in : List ℕ → Reading
standing_in s = reading (counts_answer s) (decoded s) (size (headed s))
