-- Document 01, "Supply and verdict": the workload W of a plan's kinds. Its parts are by document 000's equation 3.
-- Assumes nothing.
use Rattle.std.specs.Prelude.{ℕ, Bool, cond, not, ◌&&◌, eqb}
use Rattle.laws.specs.Sum.{sum_to}
use Rattle.plan.specs.declared.Kind.{Kind}
use Rattle.plan.specs.declared.Plan.{Plan}
use Rattle.plan.specs.Order.{kind_of}
use Rattle.supply.specs.Workload.{workload_part}
pub mod Properties

-- "every other kind j of the same project"
unfoldable pub besides : Plan → ℕ → ℕ → Bool
besides p i j = not (eqb j i) && eqb (kind_of p j).project (kind_of p i).project

-- "each kind's part of W by that equation"
abbrev pub part_in : Kind → ℕ → ℕ
part_in other t = workload_part other.separation other.deadline other.length t

-- ", with t the judged kind's deadline", where j is such a kind
unfoldable pub part_of : Plan → ℕ → ℕ → ℕ
part_of p i j = cond (besides p i j) (part_in (kind_of p j) (kind_of p i).deadline) 0

-- "For unit kind i let W be the sum over every other kind j of the same project of .."
unfoldable pub workload : Plan → ℕ → ℕ
workload p i = sum_to p.kinds (part_of p i)
