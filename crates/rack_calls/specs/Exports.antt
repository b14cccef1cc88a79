-- What each exported function answers, and what the lent buffers hold then.
-- Assumes nothing.
use Rattle.std.specs.Prelude.{ℕ, ◌-◌, not, List, ◌++◌, length, drop}
use Rattle.answer.specs.declared.Answer.{Answer}
use Rattle.answer.specs.Answer.{bare, refuse, ◌and_then◌}
use Rattle.plan.specs.Order.{checked}
use Rattle.rack.specs.State.{fresh_of}
use Rattle.rack.specs.Start.{start_answer}
use Rattle.rack.specs.Release.{release_answer, released}
use Rattle.rack.specs.Row.{row_over}
use Rattle.rack.specs.Show.{show_answer}
use Rattle.rack.specs.Advance.{advanced, advance_answer}
use Rattle.images.specs.Image.{plan_size, state_size, plan_from, state_from, state_image, released_told}
use Rattle.images.specs.Lent.{room}
use Rattle.images.specs.Outcome.{Outcome}
pub mod Properties

-- `parchbeetle_fresh`: 9 for the plan's image, the record order, 8, then 9 for the lent image
unfoldable pub fresh_answer : List ℕ → List ℕ → Answer
fresh_answer plan state = room plan plan_size and_then (start_answer (plan_from plan) and_then room state state_size)

-- the fresh state of the plan
abbrev pub Starts : List ℕ → List ℕ → ℕ → List ℕ → Type 0
Starts plan state r after =
    Outcome (fresh_answer plan state) 0 (state_image (fresh_of (plan_from plan)) ++ drop state_size state) state r after

-- whether an image is a state's: 9, the record order, and 10 where a released byte is neither 0 nor 1
unfoldable pub state_answer : List ℕ → Answer
state_answer state = room state state_size and_then (checked (plan_from state) and_then refuse (not (released_told state)) (bare 10))

-- `parchbeetle_release`: the image, then as a release answers
unfoldable pub releases_answer : List ℕ → ℕ → ℕ → Answer
releases_answer state kind e = state_answer state and_then release_answer (state_from state) kind e

-- the state after the release
abbrev pub Releases : List ℕ → ℕ → ℕ → ℕ → List ℕ → Type 0
Releases state kind e r after =
    Outcome (releases_answer state kind e) 0 (state_image (released (state_from state) kind e) ++ drop state_size state) state r after

-- `parchbeetle_show`: the image, then as a showing answers
unfoldable pub shows_answer : List ℕ → List ℕ → Answer
shows_answer state row = state_answer state and_then show_answer (state_from state) (length row)

-- the row that the state shows (its image is not lent)
abbrev pub ShowsRow : List ℕ → List ℕ → ℕ → List ℕ → Type 0
ShowsRow state row r after = Outcome (shows_answer state row) 0 (row_over (state_from state) row) row r after

-- `parchbeetle_advance`: the image, then as an advance answers
unfoldable pub advances_answer : List ℕ → Answer
advances_answer state = state_answer state and_then advance_answer (state_from state)

-- the state that follows
abbrev pub Advances : List ℕ → ℕ → List ℕ → Type 0
Advances state r after =
    Outcome (advances_answer state) 0 (state_image (advanced (state_from state)) ++ drop state_size state) state r after
