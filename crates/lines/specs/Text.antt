-- Text as bytes: numbers in decimal, and text stored in a buffer.
-- Assumes nothing.
use Rattle.std.specs.Prelude.{ℕ, zero, suc, ◌+◌, ◌-◌, ◌*◌, ◌/◌, ◌%◌, ◌≤◌, ◌<◌, ◌≡◌, cond, List, [], ◌∷◌, ◌++◌, ltb, length}
use Rattle.std.proofs.lemmas.List.Edits.{sets}
use Rattle.lines.specs.declared.text.Text.{Text}
pub mod Properties

-- ---- numbers

-- the ASCII byte of a digit
abbrev pub digit : ℕ → ℕ
digit d = 48 + d

-- the digits of n, in as many steps as may be needed: below ten n itself; else the digits of its tenth, and then the last
unfoldable pub decimal_in : ℕ → ℕ → List ℕ
decimal_in zero n = []
decimal_in (suc steps) n = cond (ltb n 10) (digit n ∷ []) (decimal_in steps (n / 10) ++ (digit (n % 10) ∷ []))

-- n in decimal, with no leading zeros
unfoldable pub decimal : ℕ → List ℕ
decimal n = decimal_in (suc n) n

-- one of the ten digits' bytes
abbrev pub IsDigit : ℕ → Type 0
IsDigit byte = (48 ≤ byte) × (byte < 58)

-- the number that digits say, behind those that said m: each is one more place
unfoldable pub says_behind : ℕ → List ℕ → ℕ
says_behind m [] = m
says_behind m (d ∷ digits) = says_behind (m * 10 + (d - 48)) digits

-- the number that digits say
abbrev pub says : List ℕ → ℕ
says digits = says_behind 0 digits

-- ---- text in a buffer

-- text stored from index `at` on: the index after it, and what the buffer holds then
pub record Puts (out : List ℕ) (at : ℕ) (text : List ℕ) (next : ℕ) (after : List ℕ) : Type 0 where
  pub end : next ≡ at + length text
  pub buffer : after ≡ sets out at text

-- room for so many bytes behind a text
abbrev pub HasRoom : Text → ℕ → Type 0
HasRoom t bytes = t.at + bytes ≤ length t.out.now

-- a text, and one with more behind it, in the same buffer
pub record Adds (old : Text) (more : List ℕ) (new : Text) : Type 0 where
  pub lent : new.out.ghost_name ≡ old.out.ghost_name
  pub size : length new.out.now ≡ length old.out.now
  pub puts : Puts old.out.now old.at more new.at new.out.now
