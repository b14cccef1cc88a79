-- What is worked out from the workload, with any number for each kind in the place of W: the verdict, the fresh start and the smallest
-- budget. Each line is that of `verdict/specs/Verdict.antt`, `rack/specs/Start.antt` or `smallest_budget/specs/Smallest.antt`.
-- Assumes nothing.
use Rattle.std.specs.Prelude.{ℕ, Bool, not, ◌&&◌, eqb, replicate}
use Rattle.laws.specs.All.{all_to}
use Rattle.laws.specs.First.{first_to}
use Rattle.laws.specs.Written.{written}
use Rattle.answer.specs.declared.Answer.{Answer}
use Rattle.answer.specs.Answer.{not_admitted, refuse, ◌and_then◌, each_to, if_good}
use Rattle.plan.specs.declared.Plan.{Plan}
use Rattle.plan.specs.Order.{project_of, kind_of, budgets_fit, checked}
use Rattle.plan.specs.Open.{with_budget, checked_open}
use Rattle.layout.specs.Cards.{held_from}
use Rattle.supply.specs.Fit.{least_width, least_excess, named_slice}
use Rattle.verdict.specs.declared.Verdict.{Verdict}
use Rattle.verdict.specs.Verdict.{ceiling_on, held_on}
use Rattle.rack.specs.declared.Next.{Next}
use Rattle.rack.specs.State.{fresh_of, no_state, next_of}
use Rattle.smallest_budget.specs.declared.Smallest.{Smallest}
use Rattle.smallest_budget.specs.Smallest.{its, held_with, most_budget}

module _ (p : Plan) (W : ℕ → ℕ) where
  -- ---- the verdict and the fresh start

  -- "the least such k"
  abbrev pub width_by : ℕ → ℕ
  width_by i = least_width p.frame (held_on p i) (kind_of p i).length (W i) (kind_of p i).deadline (ceiling_on p i)

  -- "C minus the greatest C' of at least 0 with kC' + W <= S(k,D) for some k, or the whole C where there is none"
  abbrev pub excess_by : ℕ → ℕ
  excess_by i = least_excess p.frame (held_on p i) (kind_of p i).length (W i) (kind_of p i).deadline (ceiling_on p i)

  -- "every verdict and excess should pass that slice on for the k it names"
  abbrev pub slice_by : ℕ → ℕ
  slice_by i = named_slice p.frame (held_on p i) (kind_of p i).length (W i) (kind_of p i).deadline (ceiling_on p i)

  -- "8: not admitted", at the "first kind with no k, with its excess"
  abbrev pub admitted_by : Answer
  admitted_by = each_to p.kinds (λ i. refuse (eqb (width_by i) 0) (not_admitted i (excess_by i) (slice_by i)))

  -- "Starting fresh and the verdict add 8" to the record order
  abbrev pub judged_answer : Answer
  judged_answer = checked p and_then admitted_by

  abbrev pub judged_by : Verdict
  judged_by = record {
    answer = judged_answer;
    width = if_good judged_answer (written p.kinds width_by (replicate 16 0)) (replicate 16 0);
    slice = if_good judged_answer (written p.kinds slice_by (replicate 16 0)) (replicate 16 0);
  }

  abbrev pub start_by : Next
  start_by = next_of judged_answer (fresh_of p) no_state

  -- ---- the smallest budget of project j

  module _ (j : ℕ) where
    -- "the least such k" with a budget of b
    abbrev pub width_at : ℕ → ℕ → ℕ
    width_at b i = least_width p.frame (held_with p j b) (kind_of p i).length (W i) (kind_of p i).deadline (project_of p j).ceiling

    -- "its excess" with a budget of b
    abbrev pub excess_at : ℕ → ℕ → ℕ
    excess_at b i = least_excess p.frame (held_with p j b) (kind_of p i).length (W i) (kind_of p i).deadline (project_of p j).ceiling

    -- its slice, laid from cell 0 on
    abbrev pub slice_at : ℕ → ℕ → ℕ
    slice_at b i = named_slice p.frame (held_from 0 b p.frame) (kind_of p i).length (W i) (kind_of p i).deadline (project_of p j).ceiling

    -- whether kind i is one of project j's, and has no k with a budget of b
    abbrev pub lacks_at : ℕ → ℕ → Bool
    lacks_at b i = its p j i && eqb (width_at b i) 0

    -- "the least B, from 1 to qF, at which all its unit kinds fit"
    abbrev pub least_at : ℕ
    least_at = first_to (most_budget p j) (λ b. all_to p.kinds (λ i. not (lacks_at b i)))

    -- "then 8 exactly when no B up to qF serves (place and excess at qF)"
    abbrev pub served_at : Answer
    served_at =
        let most = most_budget p j in
        each_to p.kinds (λ i. refuse (lacks_at most i) (not_admitted i (excess_at most i) (slice_at most i)))

    -- "then 7 when the least B makes the sum too large"
    abbrev pub smallest_answer_by : Answer
    smallest_answer_by = checked_open p j and_then (served_at and_then budgets_fit (with_budget p j least_at))

    abbrev pub smallest_by : Smallest
    smallest_by = record { answer = smallest_answer_by; budget = if_good smallest_answer_by least_at 0 }
