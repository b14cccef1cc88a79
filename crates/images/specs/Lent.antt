-- A lent buffer: what is found in the image at its front, and what it holds once an image is stored there.
-- Assumes nothing.
use Rattle.std.specs.Prelude.{ℕ, cond, Result, List, ◌++◌, ltb, length, drop}
use Rattle.plan.specs.declared.Plan.{Plan}
use Rattle.answer.specs.declared.Answer.{Answer}
use Rattle.answer.specs.declared.Answer.TheVariants.{Good}
use Rattle.answer.specs.declared.Refusal.{Refusal}
use Rattle.answer.specs.Outcome.{Leaves}
use Rattle.answer.specs.Answer.{bare, refuse, ◌and_then◌, with_value, if_good}
use Rattle.plan.specs.Order.{checked}
use Rattle.rack.specs.declared.State.{State}
use Rattle.images.specs.Image.{plan_size, state_size, plan_from, state_from, released_told, plan_image, state_image}
use Rattle.images.specs.Image.{running_over}
pub mod Properties

-- "9: buffer shorter than needed"
abbrev pub room : List ℕ → ℕ → Answer
room s needed = refuse (ltb (length s) needed) (bare 9)

-- ---- found

-- the plan that an image says, or 9
unfoldable pub plan_found : List ℕ → Result Plan Refusal
plan_found s = with_value (room s plan_size) (plan_from s)

-- 9; and 10 where a released byte is neither 0 nor 1, after the plan's own refusals
unfoldable pub found_answer : List ℕ → Answer
found_answer s = room s state_size and_then cond (released_told s) Good (checked (plan_from s) and_then bare 10)

-- the state that an image says, or a refusal
unfoldable pub state_found : List ℕ → Result State Refusal
state_found s = with_value (found_answer s) (state_from s)

-- ---- stored

-- an image of that many bytes at the front of s, or 9: "Lent buffers keep every byte on a refusal. On success, bytes past those
-- needed keep their value"
abbrev pub Stores : List ℕ → ℕ → List ℕ → Answer → List ℕ → Type 0
Stores image needed s = Leaves (room s needed) (if_good (room s needed) (image ++ drop needed s) s)

-- a plan's image
abbrev pub StoresPlan : Plan → List ℕ → Answer → List ℕ → Type 0
StoresPlan p = Stores (plan_image p) plan_size

-- a state's image
abbrev pub StoresState : State → List ℕ → Answer → List ℕ → Type 0
StoresState v = Stores (state_image v) state_size

-- what follows the plan in a state's image, at its place, or 9: the plan's bytes too keep their value
abbrev pub StoresRunning : State → List ℕ → Answer → List ℕ → Type 0
StoresRunning v s = Leaves (room s state_size) (if_good (room s state_size) (running_over v s) s)
