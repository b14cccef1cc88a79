-- Document 02 (vi), "A simple form for one-kind projects", after document 000's VC-IDT scheme: the plan that is built from m and a list
-- of (T, C), and the refusals 17, 18, 6, 19, 7.
-- Assumes nothing.
use Rattle.std.specs.Prelude.{ℕ, ◌+◌, ◌-◌, ◌*◌, ◌/◌, ◌≤◌, ◌<◌, Bool, not, ◌&&◌, List, eqb, leb, replicate}
use Rattle.laws.specs.Sum.{sum_to}
use Rattle.laws.specs.Written.{written}
use Rattle.answer.specs.declared.Answer.{Answer}
use Rattle.answer.specs.Answer.{bare, at_kind, refuse, ◌and_then◌, each_to, if_good}
use Rattle.plan.specs.declared.Project.{Project}
use Rattle.plan.specs.declared.Kind.{Kind}
use Rattle.plan.specs.declared.Plan.{Plan}
use Rattle.plan.specs.Record.{no_project, no_kind, no_plan}
use Rattle.plan.specs.Order.{within, budgets_fit}
use Rattle.one_kind.specs.declared.Built.{Built}
use Rattle.one_kind.specs.Divisor.{divisor_to}
use Rattle.one_kind.specs.Wanted.{kinds_in, separation_in, length_in}
pub mod Properties

-- "FC/T rounded up"
unfoldable pub rounded_up : ℕ → ℕ → ℕ → ℕ
rounded_up F T C = (F * C + (T - 1)) / T

-- "m out of range or an empty list" is not the case
unfoldable pub offered : ℕ → ℕ → Bool
offered m n = within 8 m && not (eqb n 0)

-- "17 for m out of range or an empty list; 18 for more than eight kinds"
unfoldable pub counts : ℕ → ℕ → Answer
counts m n = refuse (not (offered m n)) (bare 17) and_then refuse (not (leb n 8)) (bare 18)

-- "F is the greatest common divisor of all separations", of n kinds with separation T i
abbrev pub frame_for : ℕ → (ℕ → ℕ) → ℕ
frame_for n T = divisor_to n T

-- "19 when the divisor exceeds 64"
unfoldable pub frame_fits : ℕ → (ℕ → ℕ) → Answer
frame_fits n T = refuse (not (leb (frame_for n T) 64)) (bare 19)

-- "1 <= C <= D <= T <= 4095", where D = T
unfoldable pub timed_alone : ℕ → ℕ → Bool
timed_alone T C = not (eqb C 0) && (leb C T && leb T 4095)

-- kinds with separation T i and length C i
module _ (T C : ℕ → ℕ) where
  -- "one unit kind with D = T": kind i, of its own project
  abbrev pub kind_for : ℕ → Kind
  kind_for i = record { project = i; separation = T i; deadline = T i; length = C i }

  -- "6 by kind", of kind i
  abbrev pub kind_timed : ℕ → Answer
  kind_timed i = refuse (not (timed_alone (T i) (C i))) (at_kind 6 i)

  -- "6 by kind", of n kinds
  unfoldable pub kinds_timed : ℕ → Answer
  kinds_timed n = each_to n kind_timed

-- n kinds with separation T i and length C i
module _ (n : ℕ) (T C : ℕ → ℕ) where
  -- "B is FC/T rounded up", of kind i
  abbrev pub budget_for : ℕ → ℕ
  budget_for i = rounded_up (frame_for n T) (T i) (C i)

  -- "Each kind becomes its own project with q 1": project i
  abbrev pub project_for : ℕ → Project
  project_for i = record { ceiling = 1; budget = budget_for i }

-- m cards, and n kinds with separation T i and length C i
module _ (m n : ℕ) (T C : ℕ → ℕ) where
  -- "a finished plan"
  abbrev pub plan_for : Plan
  plan_for =
      record {
        cards = m;
        projects = n;
        kinds = n;
        frame = frame_for n T;
        project = written n (project_for n T C) (replicate 8 no_project);
        kind = written n (kind_for T C) (replicate 16 no_kind);
      }

  -- "19 when the divisor exceeds 64; 7"
  abbrev pub finished_answer : Answer
  finished_answer = frame_fits n T and_then budgets_fit plan_for

  -- "Refusals, in order: 17 ..; 18 ..; 6 by kind; 19 ..; 7"
  unfoldable pub answer_for : Answer
  answer_for = counts m n and_then (kinds_timed T C n and_then finished_answer)

  -- an answer with the plan beside it; all zero on a refusal
  abbrev pub built_with : Answer → Built
  built_with a = record { answer = a; plan = if_good a plan_for no_plan }

-- "From m and a list of (T, C) they want a finished plan"
unfoldable pub built_of : ℕ → List ℕ → Built
built_of m list =
    let n = kinds_in list in
    let T = separation_in list in
    let C = length_in list in
    built_with m n T C (answer_for m n T C)

-- ---- what the answers say, field by field

-- "17 for m out of range or an empty list" does not apply
pub record Offer (m n : ℕ) : Type 0 where
  pub some_card : 0 < m
  pub cards_most : m ≤ 8
  pub some_kind : 0 < n

-- "1 <= C <= D <= T <= 4095", where D = T
pub record Timed (T C : ℕ) : Type 0 where
  pub some_length : 0 < C
  pub length_most : C ≤ T
  pub separation_most : T ≤ 4095

-- "6 by kind": kind i is the first that is not so
pub record Untimed (T C : ℕ → ℕ) (i : ℕ) : Type 0 where
  pub first : (j : ℕ) → j < i → Timed (T j) (C j)
  pub not_timed : Timed (T i) (C i) → ⊥

-- what 17, 18 and 6 leave: m in range, one to eight kinds, and 1 <= C <= T <= 4095
pub record InLimits (m n : ℕ) (T C : ℕ → ℕ) : Type 0 where
  pub some_card : 0 < m
  pub cards_most : m ≤ 8
  pub some_kind : 0 < n
  pub kinds_most : n ≤ 8
  pub kind_at_law : (i : ℕ) → i < n → Timed (T i) (C i)

-- what 19 and 7 leave too: the divisor is at most 64, and the sum of the rounded budgets at most mF
pub record Buildable (m n : ℕ) (T C : ℕ → ℕ) : Type 0 where
  pub limits : InLimits m n T C
  pub frame_most : frame_for n T ≤ 64
  pub cells : sum_to n (budget_for n T C) ≤ m * frame_for n T
