-- What the steps of finding the least budget hand on. No statement to a caller cites these.
-- Assumes nothing.
use Rattle.std.specs.Prelude.{◌≡◌, ◌&&◌, ℕ, List, eqb, get_or, length, take, replicate}
use Rattle.laws.specs.Written.{written}
use Rattle.plan.specs.declared.Plan.{Plan}
use Rattle.answer.specs.declared.Answer.{Answer}
use Rattle.answer.specs.Answer.{not_admitted, refuse, each_to}
use Rattle.plan.specs.Order.{kind_of}
use Rattle.plan.specs.Open.{InOrderOpen}
use Rattle.layout.specs.Cards.{held_from}
use Rattle.supply.specs.declared.Fit.{Fit}
use Rattle.supply.specs.Fit.{fit_of}
use Rattle.workload.specs.Workload.{workload}
use Rattle.smallest_budget.specs.declared.Asked.{Asked}
use Rattle.smallest_budget.specs.Smallest.{width_with, excess_with, slice_with}
pub mod Properties

-- the cards that a budget from cell 0 on holds at each slice of the frame
unfoldable pub cards_with : ℕ → ℕ → List ℕ
cards_with budget frame = written frame (held_from 0 budget frame) (replicate 64 0)

-- what is asked of a kind: its project, its length, its deadline and its workload. Here of kind i
abbrev pub asked_at : Plan → ℕ → Asked
asked_at p i =
    record { project = (kind_of p i).project; length = (kind_of p i).length; deadline = (kind_of p i).deadline; workload = workload p i }

-- a place that holds no kind
abbrev pub nothing_asked : Asked
nothing_asked = record { project = 0; length = 0; deadline = 0; workload = 0 }

-- what is asked of each kind of the plan
unfoldable pub asked_of : Plan → List Asked
asked_of p = written p.kinds (asked_at p) (replicate 16 nothing_asked)

-- the k, the excess and the bad slice of kind i, by what is asked of each kind, with a budget of b from cell 0 on
abbrev pub fit_by : ℕ → ℕ → List Asked → ℕ → ℕ → Fit
fit_by frame ceiling asked b i =
    let kind = get_or asked i nothing_asked in fit_of frame (cards_with b frame) ceiling kind.length kind.workload kind.deadline

-- 8 for kind i, where it is one of project j's and has no k
abbrev pub fitted_by : ℕ → List Asked → (ℕ → Fit) → ℕ → Answer
fitted_by j asked fit i =
    refuse (eqb (get_or asked i nothing_asked).project j && eqb (fit i).width 0) (not_admitted i (fit i).excess (fit i).slice)

-- 8 at the first of the project's kinds that has no k
unfoldable pub served_by : ℕ → List Asked → (ℕ → Fit) → Answer
served_by j asked fit = each_to (length asked) (fitted_by j asked fit)

-- the k, the excess and the bad slice of kind i with a budget of b
abbrev pub fit_with : Plan → ℕ → ℕ → ℕ → Fit
fit_with p j b i = record { width = width_with p j b i; excess = excess_with p j b i; slice = slice_with p j b i }
