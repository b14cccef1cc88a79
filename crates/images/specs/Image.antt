-- The images of a plan and of a state: rows of places of fixed widths, each number big-endian. Where a row starts follows from the widths.
-- Assumes nothing.
use Rattle.std.specs.Prelude.{ℕ, Bool, cond, List, [], ◌∷◌, ◌++◌, leb, eqb, get_or, take, drop, replicate}
use Rattle.laws.specs.All.{all_to}
use Rattle.laws.specs.Written.{written}
use Rattle.codec.specs.Place.{placed, fields_of}
use Rattle.codec.specs.Rows.{Row, row, rows_size, place_at, Values, rows_bytes}
use Rattle.plan.specs.declared.Project.{Project}
use Rattle.plan.specs.declared.Kind.{Kind}
use Rattle.plan.specs.declared.Plan.{Plan}
use Rattle.plan.specs.Record.{no_project, no_kind}
use Rattle.plan.specs.Order.{project_of, kind_of}
use Rattle.unit.specs.declared.Unit.{Unit}
use Rattle.rack.specs.declared.State.{State}
use Rattle.unit.specs.Unit.{no_unit}
use Rattle.rack.specs.State.{unit_of, sum_at}
pub mod Properties

-- ---- the widths of the fields of a place, in bits

-- cards u8, projects u8, kinds u8, frame u8
abbrev pub count_widths : List ℕ
count_widths = 8 ∷ 8 ∷ 8 ∷ 8 ∷ []

-- ceiling u8, budget u16
abbrev pub project_widths : List ℕ
project_widths = 8 ∷ 16 ∷ []

-- project u8, separation u16, deadline u16, length u16
abbrev pub kind_widths : List ℕ
kind_widths = 8 ∷ 16 ∷ 16 ∷ 16 ∷ []

-- slice u8
abbrev pub slice_widths : List ℕ
slice_widths = 8 ∷ []

-- released u8, slices gone u16, left u16
abbrev pub unit_widths : List ℕ
unit_widths = 8 ∷ 16 ∷ 16 ∷ []

-- document 02 (vii), a sum: u16
abbrev pub sum_widths : List ℕ
sum_widths = 16 ∷ []

-- ---- the rows

-- a plan's: its counts, 8 projects, 16 unit kinds
abbrev pub plan_rows : List Row
plan_rows = row 1 count_widths ∷ row 8 project_widths ∷ row 16 kind_widths ∷ []

-- a state's: its plan's, the slice, 16 units, 8 sums
abbrev pub state_rows : List Row
state_rows = plan_rows ++ (row 1 slice_widths ∷ row 16 unit_widths ∷ row 8 sum_widths ∷ [])

-- the bytes of a plan's image
abbrev pub plan_size : ℕ
plan_size = rows_size plan_rows

-- the bytes of a state's image
abbrev pub state_size : ℕ
state_size = rows_size state_rows

-- where project j starts
abbrev pub project_place : ℕ → ℕ
project_place j = place_at state_rows 1 j

-- where unit kind i starts
abbrev pub kind_place : ℕ → ℕ
kind_place i = place_at state_rows 2 i

-- where the slice starts
abbrev pub slice_place : ℕ
slice_place = place_at state_rows 3 0

-- where the unit of kind i starts
abbrev pub unit_place : ℕ → ℕ
unit_place i = place_at state_rows 4 i

-- where the sum of project j starts
abbrev pub sum_place : ℕ → ℕ
sum_place j = place_at state_rows 5 j

-- ---- what stands in an image

-- field k of a place of these widths at the front of s
abbrev pub field : List ℕ → List ℕ → ℕ → ℕ
field ws s k = get_or (fields_of ws s) k 0

-- the project at the front of s
unfoldable pub project_from : List ℕ → Project
project_from s = record { ceiling = field project_widths s 0; budget = field project_widths s 1 }

-- the unit kind at the front of s
unfoldable pub kind_from : List ℕ → Kind
kind_from s =
    record {
      project = field kind_widths s 0;
      separation = field kind_widths s 1;
      deadline = field kind_widths s 2;
      length = field kind_widths s 3;
    }

-- the slice at the front of s
unfoldable pub slice_from : List ℕ → ℕ
slice_from s = field slice_widths s 0

-- the unit at the front of s
unfoldable pub unit_from : List ℕ → Unit
unit_from s = record { released = eqb (field unit_widths s 0) 1; gone = field unit_widths s 1; left = field unit_widths s 2 }

-- the sum at the front of s
unfoldable pub sum_from : List ℕ → ℕ
sum_from s = field sum_widths s 0

-- the first n projects
abbrev pub projects_from : ℕ → List ℕ → List Project
projects_from n s = written n (λ j. project_from (drop (project_place j) s)) (replicate 8 no_project)

-- the first n unit kinds
abbrev pub kinds_from : ℕ → List ℕ → List Kind
kinds_from n s = written n (λ i. kind_from (drop (kind_place i) s)) (replicate 16 no_kind)

-- the first n units
abbrev pub units_from : ℕ → List ℕ → List Unit
units_from n s = written n (λ i. unit_from (drop (unit_place i) s)) (replicate 16 no_unit)

-- the first n sums
abbrev pub sums_from : ℕ → List ℕ → List ℕ
sums_from n s = written n (λ j. sum_from (drop (sum_place j) s)) (replicate 8 0)

-- the plan that an image says
unfoldable pub plan_from : List ℕ → Plan
plan_from s =
    record {
      cards = field count_widths s 0;
      projects = field count_widths s 1;
      kinds = field count_widths s 2;
      frame = field count_widths s 3;
      project = projects_from 8 s;
      kind = kinds_from 16 s;
    }

-- the state that an image says
unfoldable pub state_from : List ℕ → State
state_from s = record { plan = plan_from s; slice = slice_from (drop slice_place s); unit = units_from 16 s; sum = sums_from 8 s }

-- "what is no state is refused": a released byte is 0 or 1
abbrev pub released_at : List ℕ → ℕ → Bool
released_at s i = leb (field unit_widths (drop (unit_place i) s) 0) 1

-- every released byte is
unfoldable pub released_told : List ℕ → Bool
released_told s = all_to 16 (released_at s)

-- ---- the images

-- a plan's counts
abbrev pub count_fields : Plan → List ℕ
count_fields p = p.cards ∷ p.projects ∷ p.kinds ∷ p.frame ∷ []

-- a project's fields
abbrev pub project_fields : Project → List ℕ
project_fields v = v.ceiling ∷ v.budget ∷ []

-- a unit kind's fields
abbrev pub kind_fields : Kind → List ℕ
kind_fields v = v.project ∷ v.separation ∷ v.deadline ∷ v.length ∷ []

-- a unit's fields
abbrev pub unit_fields : Unit → List ℕ
unit_fields v = cond v.released 1 0 ∷ v.gone ∷ v.left ∷ []

-- project j's bytes
abbrev pub project_bytes_at : Plan → ℕ → List ℕ
project_bytes_at p j = placed project_widths (project_fields (project_of p j))

-- unit kind i's bytes
abbrev pub kind_bytes_at : Plan → ℕ → List ℕ
kind_bytes_at p i = placed kind_widths (kind_fields (kind_of p i))

-- the bytes of kind i's unit
abbrev pub unit_bytes_at : State → ℕ → List ℕ
unit_bytes_at s i = placed unit_widths (unit_fields (unit_of s i))

-- the bytes of project j's sum
abbrev pub sum_bytes_at : State → ℕ → List ℕ
sum_bytes_at s j = placed sum_widths (sum_at s j ∷ [])

-- the values of a plan's rows
abbrev pub plan_values : Plan → List Values
plan_values p = (λ i. count_fields p) ∷ (λ j. project_fields (project_of p j)) ∷ (λ i. kind_fields (kind_of p i)) ∷ []

-- the values of a state's rows
abbrev pub state_values : State → List Values
state_values s = plan_values s.plan ++ ((λ i. s.slice ∷ []) ∷ (λ i. unit_fields (unit_of s i)) ∷ (λ j. sum_at s j ∷ []) ∷ [])

-- a plan's image
unfoldable pub plan_image : Plan → List ℕ
plan_image p = rows_bytes plan_rows (plan_values p)

-- a state's image
unfoldable pub state_image : State → List ℕ
state_image s = rows_bytes state_rows (state_values s)

-- bytes in which what follows the plan's image is that of a state's image, and all else stays
abbrev pub running_over : State → List ℕ → List ℕ
running_over s out = take plan_size out ++ drop plan_size (state_image s) ++ drop state_size out
