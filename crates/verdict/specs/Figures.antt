-- The figures of one kind: the W, the k and the S(k,D) of document 01, "Supply and verdict", that its comparison is made of, with the bad
-- slices of document 02's (ii). They are given for every plan in order, admitted or not.
-- Assumes nothing.
use Rattle.std.specs.Prelude.{ℕ, ◌+◌, leb, replicate, List}
use Rattle.laws.specs.Written.{written}
use Rattle.answer.specs.declared.Answer.{Answer}
use Rattle.answer.specs.Answer.{bare, refuse, ◌and_then◌, if_good}
use Rattle.plan.specs.declared.Plan.{Plan}
use Rattle.plan.specs.Order.{kind_of, checked}
use Rattle.supply.specs.Supply.{bad_slice}
use Rattle.workload.specs.Workload.{workload}
use Rattle.verdict.specs.declared.figures.Figures.{Figures}
use Rattle.verdict.specs.Verdict.{ceiling_on, held_on}
use Rattle.verdict.specs.Admission.{given}
pub mod Properties

-- "12: kind not below n", after the record order
unfoldable pub figures_answer : Plan → ℕ → Answer
figures_answer p i = checked p and_then refuse (leb p.kinds i) (bare 12)

-- "S(k,Di)", where k is below + 1
unfoldable pub supply_at : Plan → ℕ → ℕ → ℕ
supply_at p i below = given p i (below + 1)

-- "The supply figure should come with the earliest starting slice that attains it": the bad slice of S(k,Di), for the same k
unfoldable pub bad_slice_at : Plan → ℕ → ℕ → ℕ
bad_slice_at p i below = bad_slice p.frame (held_on p i) (below + 1) (kind_of p i).deadline

-- those of each k of 1..q, the first at place 0; 0 beyond
abbrev pub supplies : Plan → ℕ → List ℕ
supplies p i = written (ceiling_on p i) (supply_at p i) (replicate 8 0)

-- and their bad slices, in the same places
abbrev pub bad_slices : Plan → ℕ → List ℕ
bad_slices p i = written (ceiling_on p i) (bad_slice_at p i) (replicate 8 0)

-- a refusal comes with none
abbrev pub no_figures : Answer → Figures
no_figures a = record { answer = a; widths = 0; workload = 0; supply = replicate 8 0; slice = replicate 8 0 }

-- an answer with the figures of kind i beside it: q, W, each S(k,Di) and its bad slice
abbrev pub figures_with : Plan → ℕ → Answer → Figures
figures_with p i a =
    record {
      answer = a;
      widths = if_good a (ceiling_on p i) 0;
      workload = if_good a (workload p i) 0;
      supply = if_good a (supplies p i) (replicate 8 0);
      slice = if_good a (bad_slices p i) (replicate 8 0);
    }

-- the figures of kind i
unfoldable pub figures_of : Plan → ℕ → Figures
figures_of p i = figures_with p i (figures_answer p i)
