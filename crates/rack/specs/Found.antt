-- What a check finds: what the seats go by, or the refusal.
-- Assumes nothing.
use Rattle.std.specs.Prelude.{ℕ, ◌≡◌, cond, List, eqb, replicate, Result, Ok, Err}
use Rattle.laws.specs.Written.{written}
use Rattle.answer.specs.declared.Answer.{Answer}
use Rattle.answer.specs.declared.Answer.TheVariants.{Good, No}
use Rattle.answer.specs.declared.Refusal.{Refusal}
use Rattle.rack.specs.declared.State.{State}
use Rattle.rack.specs.declared.form.Found.{Found}
use Rattle.rack.specs.State.{unit_of}
use Rattle.rack.specs.Form.{ready}
use Rattle.rack.specs.Rank.{until}
use Rattle.rack.specs.Seat.{works_of}

-- of a kind with slices left, the slices until it is due; else 0
unfoldable pub due_of : State → ℕ → ℕ
due_of s i = cond (eqb (unit_of s i).left 0) 0 (until s i)

-- what each kind below n works for, a number for each of the sixteen places
abbrev pub works_below : State → ℕ → List ℕ
works_below s n = written n (works_of s) (replicate 16 0)

-- and when it is due
abbrev pub due_below : State → ℕ → List ℕ
due_below s n = written n (due_of s) (replicate 16 0)

-- what the seats go by: the two of every place
pub record AtWork (s : State) (works due : List ℕ) : Type 0 where
  pub works_for : works ≡ works_below s 16
  pub due_in : due ≡ due_below s 16

-- what a check finds: of a state that is ready what the seats go by, and of another the refusal
abbrev pub Finds : State → Result Found Refusal → Type 0
Finds s (Ok r) = (ready s ≡ Good) × AtWork s r.works r.until
Finds s (Err why) = ready s ≡ No why

-- and what it answers
abbrev pub answered : Result Found Refusal → Answer
answered (Ok r) = Good
answered (Err why) = No why
