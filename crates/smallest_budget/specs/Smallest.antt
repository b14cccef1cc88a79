-- Document 02 (i), "Tell me the smallest budget": the least budget of a project at which all its unit kinds fit.
-- Assumes nothing.
use Rattle.std.specs.Prelude.{ℕ, ◌*◌, Bool, not, ◌&&◌, ◌||◌, eqb}
use Rattle.laws.specs.All.{all_to}
use Rattle.laws.specs.First.{first_to}
use Rattle.plan.specs.declared.Plan.{Plan}
use Rattle.answer.specs.declared.Answer.{Answer}
use Rattle.answer.specs.Answer.{not_admitted, refuse, ◌and_then◌, each_to, if_good}
use Rattle.plan.specs.Order.{project_of, kind_of, budgets_fit}
use Rattle.plan.specs.Open.{with_budget, checked_open}
use Rattle.layout.specs.Cards.{held_from}
use Rattle.layout.specs.Layout.{first_cell}
use Rattle.supply.specs.Fit.{least_width, least_excess, named_slice}
use Rattle.workload.specs.Workload.{workload}
use Rattle.smallest_budget.specs.declared.Smallest.{Smallest}
pub mod Properties

module _ (p : Plan) (j : ℕ) where
  -- "all its unit kinds .. others are not judged": whether kind i is one of project j's
  abbrev pub its : ℕ → Bool
  its i = eqb (kind_of p i).project j

  -- "the cards a project holds at slice s", with a budget of b cells from project j's first cell on
  abbrev pub held_with : ℕ → ℕ → ℕ
  held_with b = held_from (first_cell p j) b p.frame

  -- "the least such k", of 1..q, for kind i with a budget of b; 0 where there is none
  unfoldable pub width_with : ℕ → ℕ → ℕ
  width_with b i =
      least_width p.frame (held_with b) (kind_of p i).length (workload p i) (kind_of p i).deadline (project_of p j).ceiling

  -- its excess: "C minus the greatest C' of at least 0 with kC' + W <= S(k,D) for some k, or the whole C", with a budget of b
  unfoldable pub excess_with : ℕ → ℕ → ℕ
  excess_with b i =
      least_excess p.frame (held_with b) (kind_of p i).length (workload p i) (kind_of p i).deadline (project_of p j).ceiling

  -- "every .. excess should pass that slice on", of a budget of b laid from cell 0 on: at qF every first cell has the same cards
  unfoldable pub slice_with : ℕ → ℕ → ℕ
  slice_with b i =
      named_slice p.frame (held_from 0 b p.frame) (kind_of p i).length (workload p i) (kind_of p i).deadline (project_of p j).ceiling

  -- whether kind i has no k with a budget of b, and is one of project j's
  abbrev pub lacks : ℕ → ℕ → Bool
  lacks b i = its i && eqb (width_with b i) 0

  -- "at which all its unit kinds fit"
  unfoldable pub serves : ℕ → Bool
  serves b = all_to p.kinds (λ i. not (lacks b i))

  -- "qF"
  abbrev pub most_budget : ℕ
  most_budget = (project_of p j).ceiling * p.frame

  -- "the least B, from 1 to qF, at which all its unit kinds fit"; 0 where there is none
  unfoldable pub least_budget : ℕ
  least_budget = first_to most_budget serves

  -- 8 with a budget of b, for kind i
  abbrev pub fitted_with : ℕ → ℕ → Answer
  fitted_with b i = refuse (lacks b i) (not_admitted i (excess_with b i) (slice_with b i))

  -- 8 with a budget of b, at the first of the project's kinds that has no k, with its excess and slice
  unfoldable pub served_with : ℕ → Answer
  served_with b = each_to p.kinds (fitted_with b)

  -- "then 8 exactly when no B up to qF serves (place and excess at qF)"
  abbrev pub served_at_most : Answer
  served_at_most = served_with most_budget

  -- "then 7 when the least B makes the sum too large"
  abbrev pub sum_fits : Answer
  sum_fits = budgets_fit (with_budget p j least_budget)

  -- "2, 3, then 27 ..; the rest of the record order, ..; then 8 ..; then 7"
  unfoldable pub smallest_answer : Answer
  smallest_answer = checked_open p j and_then (served_at_most and_then sum_fits)

  -- an answer with the least budget beside it; 0 on a refusal
  abbrev pub smallest_with : Answer → Smallest
  smallest_with a = record { answer = a; budget = if_good a least_budget 0 }

  -- "Leave one project's budget open and give the least B"
  unfoldable pub smallest_of : Smallest
  smallest_of = smallest_with smallest_answer
