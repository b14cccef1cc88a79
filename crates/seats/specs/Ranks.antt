-- How ranks are counted: a kind's whole standing (its project, the slices until it is due, its number) is one number, and its rank how
-- many lie from its project's least one up to its own.
-- Assumes nothing.
use Rattle.std.specs.Prelude.{ℕ, ◌+◌, ◌-◌, ◌*◌, ◌<◌, ◌≡◌, Bool, List, leb, length, get_or, replicate, Option, Some, None}
use Rattle.laws.specs.Count.{count_to}
use Rattle.laws.specs.Written.{written}
use Rattle.seats.specs.Seats.{at}
pub mod Properties

-- the least standing of those that work for a project: 20 bits are the rest's
unfoldable pub least_of : ℕ → ℕ
least_of works = works * 1048576

-- 8 bits of what a kind works for, 16 of the slices until it is due, 4 of its number: 28 in all
unfoldable pub standing_of : ℕ → ℕ → ℕ → ℕ
standing_of works until number = least_of works + (until * 16 + number)

-- whether kind k's is x or after it
unfoldable pub reaches : List ℕ → ℕ → ℕ → Bool
reaches standings x k = leb x (at standings k)

-- how many of the sixteen are x or after it
unfoldable pub at_or_after : List ℕ → ℕ → ℕ
at_or_after standings x = count_to 16 (reaches standings x)

-- a rank: how many are the project's least or after it, less how many are the kind's own or after it
unfoldable pub rank_among : List ℕ → ℕ → ℕ → ℕ
rank_among standings least own = at_or_after standings least - at_or_after standings own

-- none has more than 28 bits
abbrev pub Within28Bits : List ℕ → Type 0
Within28Bits standings = (k : ℕ) → at standings k < 268435456

-- ---- as the code fills them

-- one standing, of two numbers of 8 and 16 bits
pub record Standing (works until number r : ℕ) : Type 0 where
  pub value : r ≡ standing_of works until number
  pub works_small : works < 256
  pub until_small : until < 65536

-- those of the first n kinds
pub record Standings (works until : List ℕ) (n : ℕ) (r : List ℕ) : Type 0 where
  pub stored : r ≡ written n (λ k. standing_of (at works k) (at until k) k) (replicate 16 0)
  pub works_small : (k : ℕ) → k < n → at works k < 256
  pub until_small : (k : ℕ) → k < n → at until k < 65536

-- what is known of how many are a project's least or after it: the count, or nothing where nobody has counted yet
unfoldable pub Known : List ℕ → ℕ → Option ℕ → Type 0
Known standings least known = (x : ℕ) → known ≡ Some x → x ≡ at_or_after standings least

-- the same of each of eight projects
pub record Firsts (standings : List ℕ) (r : List (Option ℕ)) : Type 0 where
  pub size : length r ≡ 8
  pub known : (j : ℕ) → Known standings (least_of (j + 1)) (get_or r j None)
