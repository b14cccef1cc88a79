-- Outcomes: what an operation hands back and what it leaves in the buffers lent to it; and that a contract admits one of them.
-- Assumes nothing.
use Rattle.std.specs.Prelude.{ℕ, ◌≡◌, List}
pub mod Properties

-- one outcome meets a contract, and no other does
pub record One {A : Type 0} (contract : A → Type 0) : Type 0 where
  pub outcome : A
  pub meets : contract outcome
  pub only : (a : A) → contract a → a ≡ outcome

-- what an operation with a lent buffer hands back, and the buffer as it leaves it
pub record Lent (A : Type 0) : Type 0 where
  pub result : A
  pub buffer : List ℕ

-- the same with two lent buffers, in the order of the parameters
pub record LentTwo (A : Type 0) : Type 0 where
  pub result : A
  pub buffer : List ℕ
  pub second : List ℕ

-- the result r and the buffer after it are these
pub record Leaves {A : Type 0} (handed : A) (left : List ℕ) (r : A) (after : List ℕ) : Type 0 where
  pub result : r ≡ handed
  pub buffer : after ≡ left

-- the result r and the two buffers after it are these
pub record LeavesTwo {A : Type 0} (handed : A) (left other : List ℕ) (r : A) (after later : List ℕ) : Type 0 where
  pub result : r ≡ handed
  pub buffer : after ≡ left
  pub second : later ≡ other
