-- Document 02 (viii), "the list applied to the original gives the result": what it is to apply a list of changes to plan bytes.
-- Assumes nothing.
use Rattle.std.specs.Prelude.{ℕ, ◌+◌, ◌*◌, Bool, true, false, not, cond, ◌&&◌, List, [], ◌∷◌, ◌++◌, eqb}
use Rattle.laws.specs.Count.{count_to}
use Rattle.codec.specs.Pack.{pack}
use Rattle.codec.specs.Bytes.{bytes_of}
use Rattle.codec.specs.Places.{parts_to}
use Rattle.plan.specs.declared.Plan.{Plan}
use Rattle.plan.specs.Order.{project_of, kind_of}
use Rattle.plan_bytes.specs.Parts.{header_widths, project_widths, kind_widths, decoded}
use Rattle.plan_bytes.specs.Reading.{header_spare}
use Rattle.rescue.specs.Entry.{Entry, entry}
use Rattle.rescue.specs.Rescue.{project_spare_at, kind_spare_at}
pub mod Properties

-- the list's bytes as entries: "six bytes: field, place in the original, old and new value in two bytes each, high byte first"
unfoldable pub entries_in : List ℕ → List Entry
entries_in [] = []
entries_in (f ∷ []) = []
entries_in (f ∷ j ∷ []) = []
entries_in (f ∷ j ∷ a ∷ []) = []
entries_in (f ∷ j ∷ a ∷ b ∷ []) = []
entries_in (f ∷ j ∷ a ∷ b ∷ c ∷ []) = []
entries_in (f ∷ j ∷ a ∷ b ∷ c ∷ d ∷ more) = entry f j (a * 256 + b) (c * 256 + d) ∷ entries_in more

-- whether an entry is for field f of place j
abbrev pub names : Entry → ℕ → ℕ → Bool
names e f j = eqb e.field f && eqb e.place j

-- the list's entries for field f of place j, in their order
unfoldable pub about : ℕ → ℕ → List Entry → List Entry
about f j [] = []
about f j (e ∷ es) = cond (names e f j) (e ∷ about f j es) (about f j es)

-- what stands in a field after these entries for it, one after the other, where v stood
unfoldable pub after : ℕ → List Entry → ℕ
after v [] = v
after v (e ∷ es) = after e.new es

-- whether there is an entry
unfoldable pub some : List Entry → Bool
some [] = false
some (e ∷ es) = true

-- a list of changes, of the plan p that stands in the bytes s
module _ (es : List Entry) (s : List ℕ) (p : Plan) where
  -- "7 a dropped kind"
  abbrev pub drops : ℕ → Bool
  drops i = some (about 7 i es)

  -- the header: its spare bits by field 1, and as many kinds as are not dropped
  abbrev pub header_after : List ℕ
  header_after = p.cards ∷ p.projects ∷ count_to p.kinds (λ i. not (drops i)) ∷ p.frame ∷ after (header_spare s) (about 1 0 es) ∷ []

  -- project j: "4 q, 5 B", and its spare bits by field 2
  abbrev pub project_after : ℕ → List ℕ
  project_after j =
      after (project_of p j).ceiling (about 4 j es) ∷ after (project_of p j).budget (about 5 j es)
      ∷ after (project_spare_at s j) (about 2 j es) ∷ []

  -- kind i: "6 D", and its spare bit by field 3
  abbrev pub kind_after : ℕ → List ℕ
  kind_after i =
      (kind_of p i).project ∷ (kind_of p i).separation ∷ after (kind_of p i).deadline (about 6 i es) ∷ (kind_of p i).length
      ∷ after (kind_spare_at s p.projects i) (about 3 i es) ∷ []

  -- the header, each project, and each kind that is not dropped, in the layout of plan bytes
  abbrev pub parts_after : List ℕ
  parts_after =
      bytes_of 3 (pack header_widths header_after)
      ++ parts_to p.projects (λ j. bytes_of 2 (pack project_widths (project_after j)))
      ++ parts_to p.kinds (λ i. cond (drops i) [] (bytes_of 5 (pack kind_widths (kind_after i))))

-- a list applied to plan bytes: each field holds what its entries leave there, and at the end the dropped kinds leave
unfoldable pub applied : List ℕ → List ℕ → List ℕ
applied s list = parts_after (entries_in list) s (decoded s)
