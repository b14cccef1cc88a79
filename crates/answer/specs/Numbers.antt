-- Document 01, "Numbers given back when we say no": what an answer's number says of the rest of it. One record of every call's answer.
-- Assumes nothing.
use Rattle.std.specs.Prelude.{ℕ, ◌<◌, ◌≡◌, ◌≢◌, ◌↔◌, Bool, true, false, ◌&&◌, ◌||◌, List, [], ◌∷◌, eqb, ltb}
use Rattle.answer.specs.declared.Answer.{Answer}
use Rattle.answer.specs.declared.Answer.TheVariants.{Good, No}
use Rattle.answer.specs.declared.Refusal.{Refusal}
use Rattle.answer.specs.Answer.{number, place, excess, slice}
pub mod Properties

-- whether a number is one of these
unfoldable pub among : List ℕ → ℕ → Bool
among [] n = false
among (m ∷ l) n = eqb n m || among l n

-- whether all of the second are among the first
unfoldable pub covers : List ℕ → List ℕ → Bool
covers l [] = true
covers l (m ∷ few) = among l m && covers l few

-- whether each fits eight bits
unfoldable pub small : List ℕ → Bool
small [] = true
small (m ∷ l) = ltb m 256 && small l

-- the column "place": the numbers that come with a project or a kind
abbrev pub placed : List ℕ
placed = 4 ∷ 5 ∷ 6 ∷ 8 ∷ []

-- an answer of a call that lists these numbers
pub record Numbered (listed : List ℕ) (a : Answer) : Type 0 where
  -- "A good answer has number .. 0", and nothing else has
  pub good : (number a ≡ 0) ↔ (a ≡ Good)
  -- a refusal's number is one that its call lists
  pub its_number : (w : Refusal) → a ≡ No w → among listed (number a) ≡ true
  -- the column "place": 0 where the number comes with none, else the number of a project or a kind
  pub its_place : among placed (number a) ≡ false → place a ≡ 0
  pub place_most : place a < 16
  -- "Excess is 0 except with 8"
  pub its_excess : number a ≢ 8 → excess a ≡ 0
  pub excess_most : excess a < 16777216
  -- and so is the slice beside it, which is one of the at most 64 of a frame
  pub its_slice : number a ≢ 8 → slice a ≡ 0
  pub slice_most : slice a < 64
