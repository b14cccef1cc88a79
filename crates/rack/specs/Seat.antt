-- How a slice finds its row: for each kind the card that it takes, plus 1, or 0 where it is not served. Row.antt says what the row is.
-- Assumes nothing.
use Rattle.std.specs.Prelude.{◌≡◌, ℕ, zero, suc, ◌+◌, ◌-◌, cond, List, eqb, set, replicate}
use Rattle.laws.specs.Written.{written}
use Rattle.plan.specs.declared.Plan.{Plan}
use Rattle.plan.specs.declared.Kind.{Kind}
use Rattle.plan.specs.Order.{budget_of}
use Rattle.layout.specs.Cards.{cards_below}
use Rattle.layout.specs.Layout.{first_cell}
use Rattle.unit.specs.declared.Unit.{Unit}
use Rattle.rack.specs.declared.State.{State}
use Rattle.rack.specs.State.{unit_of, kind_at, kind_places}
use Rattle.rack.specs.View.{lowest_card}
use Rattle.rack.specs.Rank.{own_view, rank, served}

-- ---- the seats

-- the card that kind i takes, plus 1, or 0
unfoldable pub seat_of : State → ℕ → ℕ
seat_of s i = cond (served s i) (lowest_card (own_view s i) + rank s i + 1) 0

-- each kind's
unfoldable pub seats_of : State → List ℕ
seats_of s = written (kind_places s) (seat_of s) (replicate 16 0)

-- ---- what they are found from

-- of a kind with slices left, its project plus 1; else 0
unfoldable pub works_for : Unit → Kind → ℕ
works_for v k = cond (eqb v.left 0) 0 (k.project + 1)

-- kind i's
abbrev pub works_of : State → ℕ → ℕ
works_of s i = works_for (unit_of s i) (kind_at s i)

-- project j's lowest card at a slice
unfoldable pub lowest_at : Plan → ℕ → ℕ → ℕ
lowest_at p slice j = cards_below p.frame (first_cell p j) slice

-- the card after its last
unfoldable pub end_at : Plan → ℕ → ℕ → ℕ
end_at p slice j = cards_below p.frame (first_cell p j + budget_of p j) slice

-- each project's
pub record ProjectCards (p : Plan) (slice : ℕ) (low end : List ℕ) : Type 0 where
  pub lowest : low ≡ written p.projects (lowest_at p slice) (replicate 8 0)
  pub past : end ≡ written p.projects (end_at p slice) (replicate 8 0)

-- ---- the row from the seats

-- every card idle
abbrev pub idle : ℕ → ℕ
idle card = 0

-- the bytes with each kind's number plus 1 stored at its card, for the kinds below n
unfoldable pub seated : (ℕ → ℕ) → ℕ → List ℕ → List ℕ
seated seat zero bytes = bytes
seated seat (suc i) bytes = cond (eqb (seat i) 0) (seated seat i bytes) (set (seated seat i bytes) (seat i - 1) (i + 1))
