-- Document 01, "Numbers given back when we say no": an answer's number, place and excess with its slice, and refusals
-- in an order.
-- Assumes nothing.
use Rattle.std.specs.Prelude.{ℕ, zero, suc, Bool, true, false, Result, Ok, Err}
use Rattle.answer.specs.declared.Answer.{Answer}
use Rattle.answer.specs.declared.Answer.TheVariants.{Good, No}
use Rattle.answer.specs.declared.Refusal.{Refusal}
use Rattle.answer.specs.declared.Refusal.TheVariants.{Bare, ByProject, ByKind}
pub mod Properties

-- a refusal whose place is 0
abbrev pub bare : ℕ → Answer
bare n = No (Bare n)

-- a refusal whose place is a project: "first such project"
abbrev pub at_project : ℕ → ℕ → Answer
at_project n j = No (ByProject n j)

-- a refusal whose place is a kind: "that kind"
abbrev pub at_kind : ℕ → ℕ → Answer
at_kind n i = No (ByKind n i 0 0)

-- 8: "first kind with no k, with its excess"; "every .. excess should pass that slice on"
abbrev pub not_admitted : ℕ → ℕ → ℕ → Answer
not_admitted i x a = No (ByKind 8 i x a)

-- "A good answer has number and place 0"; else the number that the refusal carries
abbrev pub number : Answer → ℕ
number Good = 0
number (No (Bare n)) = n
number (No (ByProject n j)) = n
number (No (ByKind n i x a)) = n

-- the column "place": 0, the first such project, or that kind
abbrev pub place : Answer → ℕ
place Good = 0
place (No (Bare n)) = 0
place (No (ByProject n j)) = j
place (No (ByKind n i x a)) = i

-- "Excess is 0 except with 8"
abbrev pub excess : Answer → ℕ
excess Good = 0
excess (No (Bare n)) = 0
excess (No (ByProject n j)) = 0
excess (No (ByKind n i x a)) = x

-- the bad slice beside the excess, and like it "0 except with 8"
abbrev pub slice : Answer → ℕ
slice Good = 0
slice (No (Bare n)) = 0
slice (No (ByProject n j)) = 0
slice (No (ByKind n i x a)) = a

-- "given exactly when": this refusal where the test holds
abbrev pub refuse : Bool → Answer → Answer
refuse true a = a
refuse false a = Good

infixr 20 ◌and_then◌
-- the first refusal of two, in the listed order
abbrev pub ◌and_then◌ : Answer → Answer → Answer
Good and_then b = b
No r and_then b = No r

-- the first refusal among places 0..n-1
unfoldable pub each_to : ℕ → (ℕ → Answer) → Answer
each_to zero f = Good
each_to (suc n) f = each_to n f and_then f n

-- what comes with a good answer, or the refusal alone
abbrev pub with_value : {A : Type 0} → Answer → A → Result A Refusal
with_value Good x = Ok x
with_value (No r) x = Err r

-- what a good answer gives, and what a refusal does
abbrev pub if_good : {A : Type 0} → Answer → A → A → A
if_good Good x y = x
if_good (No r) x y = y
