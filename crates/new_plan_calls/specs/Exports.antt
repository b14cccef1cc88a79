-- What each exported function answers, and what the lent buffers hold then.
-- Assumes nothing.
use Rattle.std.specs.Prelude.{ℕ, ◌-◌, List, ◌++◌, drop}
use Rattle.answer.specs.declared.Answer.{Answer}
use Rattle.answer.specs.Word.{told}
use Rattle.answer.specs.Answer.{◌and_then◌, if_good}
use Rattle.answer.specs.Outcome.{LeavesTwo}
use Rattle.one_kind.specs.Built.{built_of}
use Rattle.rescue.specs.Rescue.{rescue_answer, rescued_plan, list_of, list_size}
use Rattle.images.specs.Image.{plan_size, plan_image}
use Rattle.images.specs.Lent.{room}
use Rattle.images.specs.Outcome.{Outcome}
pub mod Properties

-- `parchbeetle_build`: the order of building, then 9 for the lent image
unfoldable pub builds_answer : ℕ → List ℕ → List ℕ → Answer
builds_answer cards list plan = (built_of cards list).answer and_then room plan plan_size

-- the plan that was built, as an image
abbrev pub Builds : ℕ → List ℕ → List ℕ → ℕ → List ℕ → Type 0
Builds cards list plan r after =
    Outcome (builds_answer cards list plan) 0 (plan_image (built_of cards list).plan ++ drop plan_size plan) plan r after

-- `parchbeetle_rescue`: the order of rescuing, then 9 for the lent image
unfoldable pub rescues_answer : List ℕ → List ℕ → List ℕ → Answer
rescues_answer bytes plan list = rescue_answer bytes list and_then room plan plan_size

-- the rescued plan as an image, the list of changes, and the count of the list's bytes
abbrev pub RescuesPlan : List ℕ → List ℕ → List ℕ → ℕ → List ℕ → List ℕ → Type 0
RescuesPlan bytes plan list =
    let a = rescues_answer bytes plan list in
    LeavesTwo (told a (if_good a (list_size bytes) 0)) (if_good a (plan_image (rescued_plan bytes) ++ drop plan_size plan) plan)
    (if_good a (list_of bytes ++ drop (list_size bytes) list) list)
