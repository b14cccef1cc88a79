-- What each exported function answers, and what the lent buffers hold then.
-- Assumes nothing.
use Rattle.std.specs.Prelude.{ℕ, ◌-◌, cond, List, ◌++◌, ltb, drop, get_or}
use Rattle.laws.specs.Written.{written}
use Rattle.answer.specs.declared.Answer.{Answer}
use Rattle.answer.specs.Word.{told}
use Rattle.answer.specs.Answer.{◌and_then◌, if_good}
use Rattle.verdict.specs.Verdict.{judged}
use Rattle.verdict.specs.Figures.{figures_of}
use Rattle.smallest_budget.specs.Smallest.{smallest_of}
use Rattle.images.specs.Image.{plan_size, plan_from}
use Rattle.images.specs.Lent.{room}
use Rattle.images.specs.FiguresImage.{figures_size, figures_image}
use Rattle.images.specs.Outcome.{Outcome}
pub mod Properties

-- `parchbeetle_verdict`: 9 for the image, the record order, 8, then 9 for the lent buffer
unfoldable pub verdict_answer : List ℕ → List ℕ → Answer
verdict_answer plan k = room plan plan_size and_then ((judged (plan_from plan)).answer and_then room k 32)

-- a verdict's bytes: the k of each kind, and then the slice of each k
abbrev pub verdict_byte : List ℕ → List ℕ → ℕ → ℕ
verdict_byte width slice at = cond (ltb at 16) (get_or width at 0) (get_or slice (at - 16) 0)

-- each kind's k and slice, a byte each
abbrev pub Judges : List ℕ → List ℕ → ℕ → List ℕ → Type 0
Judges plan k r after =
    let v = judged (plan_from plan) in
    Outcome (verdict_answer plan k) 0 (written 32 (verdict_byte v.width v.slice) k) k r after

-- `parchbeetle_figures`: 9 for the image, the record order, 12, then 9 for the lent buffer
unfoldable pub kind_figures_answer : List ℕ → ℕ → List ℕ → Answer
kind_figures_answer plan kind out = room plan plan_size and_then ((figures_of (plan_from plan) kind).answer and_then room out figures_size)

-- the figures of the kind, and how many k there are
abbrev pub WritesFigures : List ℕ → ℕ → List ℕ → ℕ → List ℕ → Type 0
WritesFigures plan kind out r after =
    let f = figures_of (plan_from plan) kind in
    Outcome (kind_figures_answer plan kind out) f.widths (figures_image f ++ drop figures_size out) out r after

-- `parchbeetle_smallest_budget`: 9 for the image, then as the smallest budget answers
unfoldable pub budget_answer : List ℕ → ℕ → Answer
budget_answer plan project = room plan plan_size and_then (smallest_of (plan_from plan) project).answer

-- the answer, with the least budget in the bits of a count; 0 on a refusal
abbrev pub budget_told : List ℕ → ℕ → ℕ
budget_told plan project =
    let a = budget_answer plan project in told a (if_good a (smallest_of (plan_from plan) project).budget 0)
