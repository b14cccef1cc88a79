-- Document 02 (v), "Let the workload rule be read from the clustering paper": the workload is by document 000's equation 3, and
-- document 001's equation 5 gives the same, and with it the same verdicts, fresh starts and smallest budgets.
-- Assumes nothing.
use Rattle.std.specs.Prelude.{◌≡◌, refl, Bool, true, false, cond, ℕ, ◌+◌, ◌*◌, ◌/◌, ◌%◌, ◌<◌, min}
use Rattle.std.proofs.Common.{ap, ◌∙◌}
use Rattle.std.proofs.Math.Path.{fun_ext}
use Rattle.laws.specs.Sum.{sum_to}
use Rattle.laws.specs.Sum.Properties.{sum_cong}
use Rattle.answer.specs.declared.Answer.{Answer}
use Rattle.answer.specs.declared.Answer.TheVariants.{Good, No}
use Rattle.plan.specs.declared.Plan.{Plan}
use Rattle.plan.specs.Order.{kind_of, KindInRange, InOrder, checked}
use Rattle.plan.specs.Order.Properties.{in_order}
use Rattle.plan.specs.Open.{checked_open}
use Rattle.plan.specs.Open.Properties.{open_order_law}
use Rattle.supply.specs.Workload.Properties.{part_by_five_law}
use Rattle.workload.specs.Workload.{besides, part_in, part_of, workload}
use Rattle.verdict.specs.Verdict.{width_of, excess_of, bad_slice_of, fitted, admitted, judged}
use Rattle.rack.specs.Start.{start_answer, start_of}
use Rattle.smallest_budget.specs.Smallest.{width_with, excess_with, slice_with, serves, least_budget, served_with, smallest_answer}
use Rattle.smallest_budget.specs.Smallest.{smallest_of}
use Rattle.demands.specs.AnyWorkload.{judged_by, start_by, smallest_by}

-- "floor(Di/Tj)Cj + min(Cj, Di mod Tj)"
unfoldable pub part_by_five : Plan → ℕ → ℕ → ℕ
part_by_five p i j =
    (kind_of p i).deadline / (kind_of p j).separation * (kind_of p j).length
    + min (kind_of p j).length ((kind_of p i).deadline % (kind_of p j).separation)

-- "For unit kind i let W be the sum over every other kind j of the same project" of that
unfoldable pub workload_by_five : Plan → ℕ → ℕ
workload_by_five p i = sum_to p.kinds (λ j. cond (besides p i j) (part_by_five p i j) 0)

-- ---- 1. "For C <= D <= T the value is the same"

same : (p : Plan) → ((j : ℕ) → j < p.kinds → KindInRange p (kind_of p j)) → (i : ℕ) → workload p i ≡ workload_by_five p i
unfolding workload part_of workload_by_five part_by_five
same p at i = sum_cong p.kinds (part_of p i) (λ j. cond (besides p i j) (part_by_five p i j) 0) (λ j l. go j (at j l) (besides p i j))
  where
    go : (j : ℕ) → KindInRange p (kind_of p j) → (b : Bool) →
        cond b (part_in (kind_of p j) (kind_of p i).deadline) 0 ≡ cond b (part_by_five p i j) 0
    go j k true = part_by_five_law (kind_of p j).separation (kind_of p j).deadline (kind_of p j).length (kind_of p i).deadline k.length_most
    go j k false = refl

-- of a plan in order, for every kind
pub workload_by_five_law : (p : Plan) → InOrder p → (i : ℕ) → workload p i ≡ workload_by_five p i
workload_by_five_law p order = same p order.kind_at_law

-- ---- 2. The verdict, with all of its answer and each k and slice: of any record, since one out of order is refused before W is read

-- the verdict is what is worked out from its own workload
pub judged_by_its_own : (p : Plan) → judged p ≡ judged_by p (workload p)
unfolding judged admitted fitted width_of excess_of bad_slice_of
judged_by_its_own p = refl

-- and from that by equation 5
pub judged_by_five : (p : Plan) → judged p ≡ judged_by p (workload_by_five p)
judged_by_five p = judged_by_its_own p ∙ go (checked p) refl
  where
    go : (a : Answer) → checked p ≡ a → judged_by p (workload p) ≡ judged_by p (workload_by_five p)
    go Good e = ap (judged_by p) (fun_ext (workload_by_five_law p (in_order p e)))
    go (No r) e = rw e

-- ---- 3. The fresh start

pub start_by_its_own : (p : Plan) → start_of p ≡ start_by p (workload p)
unfolding start_of start_answer admitted fitted width_of excess_of bad_slice_of
start_by_its_own p = refl

pub start_by_five : (p : Plan) → start_of p ≡ start_by p (workload_by_five p)
start_by_five p = start_by_its_own p ∙ go (checked p) refl
  where
    go : (a : Answer) → checked p ≡ a → start_by p (workload p) ≡ start_by p (workload_by_five p)
    go Good e = ap (start_by p) (fun_ext (workload_by_five_law p (in_order p e)))
    go (No r) e = rw e

-- ---- 4. The smallest budget of any project

pub smallest_by_its_own : (p : Plan) (j : ℕ) → smallest_of p j ≡ smallest_by p (workload p) j
unfolding smallest_of smallest_answer served_with least_budget serves width_with excess_with slice_with
smallest_by_its_own p j = refl

pub smallest_by_five : (p : Plan) (j : ℕ) → smallest_of p j ≡ smallest_by p (workload_by_five p) j
smallest_by_five p j = smallest_by_its_own p j ∙ go (checked_open p j) refl
  where
    go : (a : Answer) → checked_open p j ≡ a → smallest_by p (workload p) j ≡ smallest_by p (workload_by_five p) j
    go Good e = ap (λ (W : ℕ → ℕ). smallest_by p W j) (fun_ext (same p (open_order_law p j e).kind_at_law))
    go (No r) e = rw e
