-- Document 01, "Running": the bytes of the rows that name a kind, or the kinds of a project.
-- Assumes nothing.
use Rattle.std.specs.Prelude.{◌≡◌, ◌≢◌, ℕ, ◌+◌, ◌≤◌, ◌<◌, pred, Bool, true, not, ◌&&◌, List, [], ◌∷◌, eqb, length, get_or}
use Rattle.laws.specs.Count.{count_to}
use Rattle.plan.specs.declared.Plan.{Plan}
use Rattle.plan.specs.Order.{project_of, kind_of}
use Rattle.demands.specs.Run.{Accepted}
pub mod Properties

-- "kind number plus 1"
unfoldable pub names_kind : ℕ → ℕ → Bool
names_kind i byte = eqb byte (i + 1)

-- "kind number plus 1, or 0": the byte names a kind, and it is one of project j
unfoldable pub names_project : Plan → ℕ → ℕ → Bool
names_project p j byte = not (eqb byte 0) && eqb (kind_of p (pred byte)).project j

-- how many bytes of a row pass a test
unfoldable pub bytes_in : (ℕ → Bool) → List ℕ → ℕ
bytes_in test row = count_to (length row) (λ card. test (get_or row card 0))

-- how many bytes of the rows pass a test
unfoldable pub bytes_naming : (ℕ → Bool) → List Accepted → ℕ
bytes_naming test [] = 0
bytes_naming test (slice ∷ slices) = bytes_in test slice.row + bytes_naming test slices

-- ---- what a row owes the cards

-- of a row on plan p
pub record Orderly (p : Plan) (row : List ℕ) : Type 0 where
  -- "The row written has m bytes": one for each card
  pub cards : length row ≡ p.cards
  -- no card serves two units: its byte names one kind at most (that what is done is what the bytes say is `rows_serve`)
  pub one_unit : (card i k : ℕ) → names_kind i (get_or row card 0) ≡ true → names_kind k (get_or row card 0) ≡ true → i ≡ k
  -- no unit holds two cards
  pub one_card : (i : ℕ) → bytes_in (names_kind i) row ≤ 1
  -- no project exceeds its ceiling
  pub ceiling : (j : ℕ) → j < p.projects → bytes_in (names_project p j) row ≤ (project_of p j).ceiling

-- no card serves two units: kinds i and k stand on two
pub record Apart (i k : ℕ) (row : List ℕ) : Type 0 where
  pub card : ℕ
  pub other : ℕ
  pub two : card ≢ other
  pub first : (card < length row) × (names_kind i (get_or row card 0) ≡ true)
  pub second : (other < length row) × (names_kind k (get_or row other 0) ≡ true)
