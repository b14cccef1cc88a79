-- Document 02 (viii): "Each change is listed in that order in six bytes: field, place in the original, old and new value in two bytes
-- each, high byte first." An entry of the list, the list as bytes, and what writing some of it leaves in a buffer.
-- Assumes nothing.
use Rattle.std.specs.Prelude.{ℕ, zero, suc, ◌+◌, ◌*◌, ◌/◌, ◌%◌, ◌≡◌, cond, List, [], ◌∷◌, ◌++◌, eqb, length}
use Rattle.std.proofs.lemmas.List.Edits.{sets}
pub mod Properties

-- "field, place in the original, old and new value"
pub record Entry : Type 0 where
  pub field : ℕ
  pub place : ℕ
  pub old : ℕ
  pub new : ℕ

-- an entry, from its four numbers
abbrev pub entry : ℕ → ℕ → ℕ → ℕ → Entry
entry f j a b = record { field = f; place = j; old = a; new = b }

-- "in six bytes: field, place .., old and new value in two bytes each, high byte first"
unfoldable pub entry_bytes : Entry → List ℕ
entry_bytes e = e.field ∷ e.place ∷ e.old / 256 ∷ e.old % 256 ∷ e.new / 256 ∷ e.new % 256 ∷ []

-- the list, entry after entry
unfoldable pub listed : List Entry → List ℕ
listed [] = []
listed (e ∷ es) = entry_bytes e ++ listed es

-- "Each change is listed": nothing where the value stays
unfoldable pub change : ℕ → ℕ → ℕ → ℕ → List Entry
change f j a b = cond (eqb a b) [] (entry f j a b ∷ [])

-- the entries of places 0..n-1, place by place
unfoldable pub entries_to : ℕ → (ℕ → List Entry) → List Entry
entries_to zero f = []
entries_to (suc n) f = entries_to n f ++ f n

-- these entries written from index `at` on, over what was there, and r is the index behind them
pub record Noted (at : ℕ) (before : List ℕ) (es : List Entry) (r : ℕ) (after : List ℕ) : Type 0 where
  pub behind : r ≡ at + 6 * length es
  pub stored : after ≡ sets before at (listed es)
