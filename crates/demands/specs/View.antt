-- A project's view of a plan and of a state: the quantities that the theory speaks of. They are counted from now: no clock is read, and
-- there is none.
-- Assumes nothing.
use Rattle.std.specs.Prelude.{ℕ, ◌+◌, ◌-◌, cond, eqb, get_or}
use Rattle.plan.specs.declared.Plan.{Plan}
use Rattle.plan.specs.Order.{budget_of, kind_of}
use Rattle.layout.specs.Cards.{held_from}
use Rattle.layout.specs.Layout.{first_cell}
use Rattle.supply.specs.Supply.{supply}
use Rattle.verdict.specs.Verdict.{judged}
use Rattle.rack.specs.declared.State.{State}
use Rattle.rack.specs.State.{unit_of, kind_at}
use Rattle.rack.specs.Rank.{until, view_of}
use Rattle.analysis.specs.Setup.{Setup}
use Rattle.analysis.specs.Moment.{Moment}
pub mod Properties
pub mod Ranks
pub mod Steps

-- project j of a plan: a run of B cells from its first; its units come as they are released, so their reach is the deadline
abbrev pub setup_of : Plan → ℕ → Setup
setup_of p j = record {
  kinds = p.kinds;
  mine = λ i. eqb (kind_of p i).project j;
  separation = λ i. (kind_of p i).separation;
  deadline = λ i. (kind_of p i).deadline;
  reach = λ i. (kind_of p i).deadline;
  length = λ i. (kind_of p i).length;
  width = λ i. get_or (judged p).width i 0;
  supply = supply p.frame (held_from (first_cell p j) (budget_of p j) p.frame);
}

-- the cards that project j holds x slices from now, by its own view
unfoldable pub cards_from : State → ℕ → ℕ → ℕ
cards_from s j x = let v = view_of s j in held_from v.first v.budget v.frame (v.slice + x)

-- the slices until a kind's next unit may be released
unfoldable pub wait_of : State → ℕ → ℕ
wait_of s i = cond (unit_of s i).released ((kind_at s i).separation - (unit_of s i).gone) 0

-- where project j stands in a state
abbrev pub moment_of : State → ℕ → Moment
moment_of s j = record { cards = cards_from s j; left = λ i. (unit_of s i).left; until = until s; wait = wait_of s }
