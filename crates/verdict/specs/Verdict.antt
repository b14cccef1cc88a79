-- Document 01, "Supply and verdict" and refusal 8: the verdict on a plan.
-- Assumes nothing.
use Rattle.std.specs.Prelude.{ℕ, List, eqb, replicate}
use Rattle.laws.specs.Written.{written}
use Rattle.plan.specs.declared.Plan.{Plan}
use Rattle.answer.specs.declared.Answer.{Answer}
use Rattle.answer.specs.Answer.{not_admitted, refuse, ◌and_then◌, each_to, if_good}
use Rattle.plan.specs.Order.{project_of, kind_of, checked}
use Rattle.layout.specs.Layout.{held}
use Rattle.supply.specs.Supply.{supply}
use Rattle.supply.specs.Fit.{least_width, least_excess, named_slice}
use Rattle.workload.specs.Workload.{workload}
use Rattle.verdict.specs.declared.Verdict.{Verdict}

-- kind i's project
abbrev pub project_on : Plan → ℕ → ℕ
project_on p i = (kind_of p i).project

-- its ceiling q
abbrev pub ceiling_on : Plan → ℕ → ℕ
ceiling_on p i = (project_of p (project_on p i)).ceiling

-- "Let h(s) be the cards a project holds at slice s": of kind i's project
abbrev pub held_on : Plan → ℕ → ℕ → ℕ
held_on p i = held p (project_on p i)

-- its "supply S(k,t), for k in 1..q and length t"
abbrev pub supply_on : Plan → ℕ → ℕ → ℕ → ℕ
supply_on p i = supply p.frame (held_on p i)

-- "The verdict gives for each kind the least such k": of those at which kCi + W <= S(k,Di); 0 where there is none
unfoldable pub width_of : Plan → ℕ → ℕ
width_of p i = least_width p.frame (held_on p i) (kind_of p i).length (workload p i) (kind_of p i).deadline (ceiling_on p i)

-- its excess: "C minus the greatest C' of at least 0 with kC' + W <= S(k,D) for some k, or the whole C where there is none"
unfoldable pub excess_of : Plan → ℕ → ℕ
excess_of p i = least_excess p.frame (held_on p i) (kind_of p i).length (workload p i) (kind_of p i).deadline (ceiling_on p i)

-- "every verdict and excess should pass that slice on for the k it names": the bad slice of kind i
unfoldable pub bad_slice_of : Plan → ℕ → ℕ
bad_slice_of p i = named_slice p.frame (held_on p i) (kind_of p i).length (workload p i) (kind_of p i).deadline (ceiling_on p i)

-- "If a kind has none, the plan is not admitted": 8 for a kind with no k, with its excess and the slice of it
unfoldable pub fitted : Plan → ℕ → Answer
fitted p i = refuse (eqb (width_of p i) 0) (not_admitted i (excess_of p i) (bad_slice_of p i))

-- "8: not admitted", at the "first kind with no k"
unfoldable pub admitted : Plan → Answer
admitted p = each_to p.kinds (fitted p)

-- "A good answer has .. k 0 beyond n", "A refused verdict gives k 0 for every kind"
abbrev pub widths : Plan → Answer → List ℕ
widths p a = if_good a (written p.kinds (width_of p) (replicate 16 0)) (replicate 16 0)

-- the slice of each k, "0 .. beside a k of 0"
abbrev pub slices : Plan → Answer → List ℕ
slices p a = if_good a (written p.kinds (bad_slice_of p) (replicate 16 0)) (replicate 16 0)

-- an answer with the k of each kind beside it, and the slice of each k
abbrev pub verdict_of : Plan → Answer → Verdict
verdict_of p a = record { answer = a; width = widths p a; slice = slices p a }

-- "Starting fresh and the verdict add 8" to the record order
unfoldable pub judged : Plan → Verdict
judged p = verdict_of p (checked p and_then admitted p)
