-- A chain of calls of the C interface on one state's image: each on the bytes that the last one left, with any arguments and any lent
-- row. A host sees of each call the number that it gives back and the lent row as it leaves it; beside an advance stands the row that
-- showing gives on the very bytes advanced, shown or not.
-- Assumes nothing.
use Rattle.std.specs.Prelude.{ℕ, ◌≡◌, List, [], ◌∷◌, replicate}
use Rattle.answer.specs.Word.{told}
use Rattle.rack.specs.declared.State.{State}
use Rattle.rack.specs.Show.{buffer_shown}
use Rattle.rack_calls.specs.Exports.{Releases, ShowsRow, Advances}
use Rattle.demands.specs.Run.{Call, show, advance, release, next_after}
pub mod Properties

-- what a call gives back, and the lent row as it leaves it (a release has none)
pub record Seen : Type 0 where
  pub word : ℕ
  pub row : List ℕ

-- a lent row that is long enough on every plan
abbrev pub lent : List ℕ
lent = replicate 8 0

-- a call on an image, as the contract of its function says it: what is seen, and the image after it; of an advance the row is that
-- which showing would leave on the same image
abbrev pub Called : List ℕ → Call → Seen → List ℕ → Type 0
Called image (show row) seen after = ShowsRow image row seen.word seen.row × (after ≡ image)
Called image advance seen after = Advances image seen.word after × ((word : ℕ) × ShowsRow image lent word seen.row)
Called image (release i e) seen after = Releases image i e seen.word after × (seen.row ≡ [])

-- the calls one after the other, what is seen of each, and the image after the last
abbrev pub Chain : List ℕ → List Call → List Seen → List ℕ → Type 0
Chain image [] [] end = end ≡ image
Chain image [] (seen ∷ seens) end = ⊥
Chain image (call ∷ calls) [] end = ⊥
Chain image (call ∷ calls) (seen ∷ seens) end = (next : List ℕ) × Called image call seen next × Chain next calls seens end

-- what the rack gives: the answer of a call as one number, and the row
abbrev pub seen_of : State → Call → Seen
seen_of s (show row) = record { word = told (next_after s (show row)).answer 0; row = buffer_shown s row }
seen_of s advance = record { word = told (next_after s advance).answer 0; row = buffer_shown s lent }
seen_of s (release i e) = record { word = told (next_after s (release i e)).answer 0; row = [] }

-- of each call of a run
unfoldable pub all_seen : State → List Call → List Seen
all_seen s [] = []
all_seen s (call ∷ calls) = seen_of s call ∷ all_seen (next_after s call).state calls
