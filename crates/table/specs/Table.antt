-- Document 01, "Plan A, plan B and the numbers they give": the table P1 to P11 as one claim, with document 02's bad slices beside them;
-- document 02 (i) on the same plans, S1 to S8; document 02 (vi), K1 to K8; and document 02 (viii), R1 to R5.
-- Assumes nothing.
use Rattle.std.specs.Prelude.{◌≡◌, List, [], ◌∷◌, ◌++◌, map, ℕ, replicate}
use Rattle.plan.specs.declared.Project.{Project}
use Rattle.plan.specs.declared.Plan.{Plan}
use Rattle.plan.specs.Open.{with_budget}
use Rattle.plan.specs.Example.{kind, like_a, plan_a, plan_b, opening, bytes_a}
use Rattle.answer.specs.Answer.{number, place, excess, slice}
use Rattle.layout.specs.Cards.{held_from}
use Rattle.layout.specs.Layout.{held}
use Rattle.layout.specs.Table.{Tabled}
use Rattle.supply.specs.Supply.{supply, bad_slice}
use Rattle.plan_bytes.specs.Parts.{encoded}
use Rattle.plan_bytes.specs.Reading.{read_of}
use Rattle.verdict.specs.declared.Verdict.{Verdict}
use Rattle.verdict.specs.Verdict.{judged}
use Rattle.verdict.specs.Advice.{with_length}
use Rattle.smallest_budget.specs.declared.Smallest.{Smallest}
use Rattle.smallest_budget.specs.Smallest.{smallest_of}
use Rattle.one_kind.specs.declared.Built.{Built}
use Rattle.rescue.specs.declared.Rescued.{Rescued}
use Rattle.rescue.specs.Rescue.{rescue_of, list_over}
use Rattle.one_kind.specs.Built.{built_of}
use Rattle.answer.specs.declared.Answer.TheVariants.{Good}
pub mod Properties

-- ---- what is said of them

-- a verdict's number, place, excess and the sixteen k
abbrev pub figures : Verdict → List ℕ
figures v = number v.answer ∷ place v.answer ∷ excess v.answer ∷ v.width

-- "admitted with k ..", for three kinds
abbrev pub admitted_with : ℕ → ℕ → ℕ → List ℕ
admitted_with a b c = 0 ∷ 0 ∷ 0 ∷ a ∷ b ∷ c ∷ replicate 13 0

-- "8, place .., excess ..", and 4 and 7 likewise: k 0 for every kind
abbrev pub refused_with : ℕ → ℕ → ℕ → List ℕ
refused_with n at x = n ∷ at ∷ x ∷ replicate 16 0

-- the slice beside the answer's excess, and the sixteen beside the k
abbrev pub bad_slices : Verdict → List ℕ
bad_slices v = slice v.answer ∷ v.slice

-- beside the k of three kinds, and beside an excess
abbrev pub beside_each : ℕ → ℕ → ℕ → List ℕ
beside_each a b c = 0 ∷ a ∷ b ∷ c ∷ replicate 13 0

abbrev pub beside_excess : ℕ → List ℕ
beside_excess a = a ∷ replicate 16 0

-- a smallest budget's number, place, excess and the budget
abbrev pub least : Smallest → List ℕ
least s = number s.answer ∷ place s.answer ∷ excess s.answer ∷ s.budget ∷ []

-- "give the least B"
abbrev pub found : ℕ → List ℕ
found b = 0 ∷ 0 ∷ 0 ∷ b ∷ []

-- 27, 8 with "place and excess at qF", 7: budget 0
abbrev pub unfound : ℕ → ℕ → ℕ → List ℕ
unfound n at x = n ∷ at ∷ x ∷ 0 ∷ []

-- the folding project is project 1 of plan A, and B its coordinator's guess
abbrev pub guessed : ℕ → Plan
guessed B = like_a 3 B (kind 0 8 8 6)

-- what was built: number, place, the frame and the eight budgets
abbrev pub alone : Built → List ℕ
alone b = number b.answer ∷ place b.answer ∷ b.plan.frame ∷ map (λ (v : Project). v.budget) b.plan.project

-- a frame and three budgets
abbrev pub framed : ℕ → ℕ → ℕ → ℕ → List ℕ
framed F a b c = 0 ∷ 0 ∷ F ∷ a ∷ b ∷ c ∷ replicate 5 0

-- refused: frame and budgets 0
abbrev pub unbuilt : ℕ → ℕ → List ℕ
unbuilt n at = n ∷ at ∷ 0 ∷ replicate 8 0

-- a list of one, two and three (T, C), each below 256
abbrev pub one_of : ℕ → ℕ → List ℕ
one_of T C = 0 ∷ T ∷ 0 ∷ C ∷ []

abbrev pub two_of : ℕ → ℕ → ℕ → ℕ → List ℕ
two_of T C U E = 0 ∷ T ∷ 0 ∷ C ∷ one_of U E

abbrev pub three_of : ℕ → ℕ → ℕ → ℕ → ℕ → ℕ → List ℕ
three_of T C U E X G = 0 ∷ T ∷ 0 ∷ C ∷ two_of U E X G

-- what was rescued: number, place, the count of the list's bytes, n and the eight budgets
abbrev pub rescued : Rescued → List ℕ
rescued r = number r.answer ∷ place r.answer ∷ r.count ∷ r.plan.kinds ∷ map (λ (v : Project). v.budget) r.plan.project

-- so many bytes of the list, so many kinds, and two budgets
abbrev pub given : ℕ → ℕ → ℕ → ℕ → List ℕ
given count n a b = 0 ∷ 0 ∷ count ∷ n ∷ a ∷ b ∷ replicate 6 0

-- refused: all zero
abbrev pub unrescued : ℕ → List ℕ
unrescued n = n ∷ 0 ∷ 0 ∷ 0 ∷ replicate 8 0

-- plan A's bytes with header spare 2, q 0 for project 1, and project 2 for kind 0; and with these bytes for its kinds
abbrev pub damaged_head : List ℕ
damaged_head = 0x22 ∷ 0x18 ∷ 0x42 ∷ 0x10 ∷ 0x0c ∷ 0x00 ∷ 0x14 ∷ []

abbrev pub first_damaged : List ℕ
first_damaged = damaged_head ++ 0x40 ∷ 0x10 ∷ 0x01 ∷ 0x00 ∷ 0x0c ∷ 0x20 ∷ 0x08 ∷ 0x00 ∷ 0x80 ∷ 0x04 ∷ 0x20 ∷ 0x10 ∷ 0x01 ∷ 0x00 ∷ 0x04 ∷ []

-- a change of each of the seven fields
abbrev pub second_damaged : List ℕ
second_damaged =
    0x22 ∷ 0x18 ∷ 0x41
    ∷ 0x00 ∷ 0x0c ∷ 0xff ∷ 0xfe
    ∷ 0x00 ∷ 0x10 ∷ 0x01 ∷ 0x80 ∷ 0x0d
    ∷ 0xa0 ∷ 0x08 ∷ 0x00 ∷ 0x80 ∷ 0x05
    ∷ 0x20 ∷ 0x10 ∷ 0x01 ∷ 0x20 ∷ 0x12
    ∷ []

-- ---- the table

-- "The proved table is P1 to P11.", S1 to S8, K1 to K8, and R1 to R5
pub record Table : Type 0 where
  -- "P1 A is .., read and written."
  pub P1-read : read_of bytes_a ≡ record { answer = Good; plan = plan_a; taken = 22 }
  pub P1-written : encoded plan_a ≡ bytes_a
  -- "P2 A's slot table: card 0 is 1 1 1 2, card 1 is 2 2 2 2."
  pub P2 : Tabled plan_a (replicate 8 0) (record { answer = Good; count = 8 }) (1 ∷ 1 ∷ 1 ∷ 2 ∷ 2 ∷ 2 ∷ 2 ∷ 2 ∷ [])
  -- "P3 A, project 0: S(1,t) for t = 0, 1, 3, 4, 8 is 0, 0, 2, 3, 6."
  pub P3 : map (supply 4 (held plan_a 0) 1) (0 ∷ 1 ∷ 3 ∷ 4 ∷ 8 ∷ []) ≡ 0 ∷ 0 ∷ 2 ∷ 3 ∷ 6 ∷ []
  pub P3-slices : map (bad_slice 4 (held plan_a 0) 1) (0 ∷ 1 ∷ 3 ∷ 4 ∷ 8 ∷ []) ≡ 0 ∷ 3 ∷ 1 ∷ 0 ∷ 0 ∷ []
  -- a project's first cell that moves by one leaves the supply, and may change the slice
  pub P3-moved : map (supply 4 (held_from 1 3 4) 1) (0 ∷ 1 ∷ 3 ∷ 4 ∷ 8 ∷ []) ≡ 0 ∷ 0 ∷ 2 ∷ 3 ∷ 6 ∷ []
  pub P3-moved-slices : map (bad_slice 4 (held_from 1 3 4) 1) (0 ∷ 1 ∷ 3 ∷ 4 ∷ 8 ∷ []) ≡ 0 ∷ 0 ∷ 0 ∷ 0 ∷ 0 ∷ []
  -- "P4 A, project 1: S(1,4) = 4, S(2,4) = 5, S(2,1) = 1, S(2,3) = 3."
  pub P4-one : map (supply 4 (held plan_a 1) 1) (4 ∷ []) ≡ 4 ∷ []
  pub P4-two : map (supply 4 (held plan_a 1) 2) (4 ∷ 1 ∷ 3 ∷ []) ≡ 5 ∷ 1 ∷ 3 ∷ []
  -- "P5 A is admitted with k 1, 1, 1."
  pub P5 : figures (judged plan_a) ≡ admitted_with 1 1 1
  pub P5-slices : bad_slices (judged plan_a) ≡ beside_each 0 0 0
  -- "P6 With C = 7 for kind 0: 8, place 0, excess 1."
  pub P6 : figures (judged (like_a 3 5 (kind 0 8 8 7))) ≡ refused_with 8 0 1
  pub P6-slice : bad_slices (judged (like_a 3 5 (kind 0 8 8 7))) ≡ beside_excess 0
  -- "P7 Kind 0 of A as (0,4,3,2): admitted; as (0,4,3,3): 8, place 0, excess 1."
  pub P7-shorter : figures (judged (like_a 3 5 (kind 0 4 3 2))) ≡ admitted_with 1 1 1
  pub P7-longer : figures (judged (like_a 3 5 (kind 0 4 3 3))) ≡ refused_with 8 0 1
  pub P7-shorter-slices : bad_slices (judged (like_a 3 5 (kind 0 4 3 2))) ≡ beside_each 1 0 0
  pub P7-longer-slice : bad_slices (judged (like_a 3 5 (kind 0 4 3 3))) ≡ beside_excess 1
  -- "P8 B is admitted with k 2, 1, 1."
  pub P8 : figures (judged plan_b) ≡ admitted_with 2 1 1
  pub P8-slices : bad_slices (judged plan_b) ≡ beside_each 0 0 0
  -- "Give plan B's kind 0 length 3. We report an excess of 3, yet length 1 fits, so the unit was 2 too long."
  pub P8-longer : figures (judged (with_length plan_b 0 3)) ≡ refused_with 8 0 2
  pub P8-longer-slice : bad_slices (judged (with_length plan_b 0 3)) ≡ beside_excess 0
  -- "P9 .. from 000's opening example: 8, place 0", and "P9 becomes 2"
  pub P9 : figures (judged opening) ≡ refused_with 8 0 2
  pub P9-slice : bad_slices (judged opening) ≡ beside_excess 0
  -- "P10 A with budgets 3 and 6: 7."
  pub P10 : figures (judged (like_a 3 6 (kind 0 8 8 6))) ≡ refused_with 7 0 0
  -- "P11 A with budgets 5 and 5: 4, place 0, though the sum is too large as well."
  pub P11 : figures (judged (like_a 5 5 (kind 0 8 8 6))) ≡ refused_with 4 0 0
  -- Document 02 (i). S1 A, project 0: its budget is the least.
  pub S1 : least (smallest_of plan_a 0) ≡ found 3
  -- S2 A, project 1: one cell less would do.
  pub S2 : least (smallest_of plan_a 1) ≡ found 4
  -- S3 The folding coordinator guesses 6, too large: 7. Told 4, and with 4 written in the plan is admitted.
  pub S3-guessed : figures (judged (guessed 6)) ≡ refused_with 7 0 0
  pub S3 : least (smallest_of (guessed 6) 1) ≡ found 4
  pub S3-written : figures (judged (with_budget (guessed 6) 1 4)) ≡ admitted_with 1 1 1
  -- S4 The folding coordinator guesses 3, too small: 8 at kind 1, excess 1. Told 4.
  pub S4-guessed : figures (judged (guessed 3)) ≡ refused_with 8 1 1
  pub S4 : least (smallest_of (guessed 3) 1) ≡ found 4
  -- S5 A has no project 2: 27.
  pub S5 : least (smallest_of plan_a 2) ≡ unfound 27 0 0
  -- S6 000's opening example does not fit even with both cards at every slice: 8, place 0, excess 2.
  pub S6 : least (smallest_of opening 0) ≡ unfound 8 0 2
  -- S7 A with kind 0 as (1,8,8,1) and budget 2 for project 0: project 1 needs 7 of 8 cells, so 7.
  pub S7 : least (smallest_of (like_a 2 5 (kind 1 8 8 1)) 1) ≡ unfound 7 0 0
  -- S8 Project 0 then has no kinds: 1.
  pub S8 : least (smallest_of (like_a 2 5 (kind 1 8 8 1)) 0) ≡ found 1
  -- Document 02 (vi). K1 000's opening kinds, each its own project: F is 3, and three budgets of 2 fill both cards.
  pub K1 : alone (built_of 2 (three_of 3 2 6 4 6 3)) ≡ framed 3 2 2 2
  pub K1-judged : figures (judged (built_of 2 (three_of 3 2 6 4 6 3)).plan) ≡ admitted_with 1 1 1
  -- K2 The smallest budget of the last of them is that very B.
  pub K2 : least (smallest_of (built_of 2 (three_of 3 2 6 4 6 3)).plan 2) ≡ found 2
  -- K3 3/4, 3/4 and 4/8 are exactly two cards; with 6/8 they are more: 7.
  pub K3 : alone (built_of 2 (three_of 4 3 4 3 8 4)) ≡ framed 4 3 3 2
  pub K3-more : alone (built_of 2 (three_of 4 3 4 3 8 6)) ≡ unbuilt 7 0
  -- K4 1/2 and 1/3 are within one card, F is 1, and each is rounded up: 7.
  pub K4 : alone (built_of 1 (two_of 2 1 3 1)) ≡ unbuilt 7 0
  -- K5 The divisor is 64, and 65: 19, though the sum is too large as well.
  pub K5 : alone (built_of 1 (one_of 64 1)) ≡ framed 64 1 0 0
  pub K5-more : alone (built_of 1 (two_of 65 65 65 65)) ≡ unbuilt 19 0
  -- K6 A unit longer than its separation: 6, place 1.
  pub K6 : alone (built_of 1 (two_of 2 1 2 3)) ≡ unbuilt 6 1
  -- K7 No cards, nine cards, and bytes that are no list: 17.
  pub K7-none : alone (built_of 0 (one_of 2 1)) ≡ unbuilt 17 0
  pub K7-nine : alone (built_of 9 (one_of 2 1)) ≡ unbuilt 17 0
  pub K7-list : alone (built_of 1 (0 ∷ one_of 2 1)) ≡ unbuilt 17 0
  -- K8 Nine kinds: 18.
  pub K8 : alone (built_of 8 (replicate 36 1)) ≡ unbuilt 18 0
  -- Document 02 (viii). R1 A damaged in three places: four changes, and kinds 1 and 2 move up. Two bytes of 26 are kept.
  pub R1 : rescued (rescue_of first_damaged (replicate 26 0)) ≡ given 24 2 3 4
  pub R1-list : list_over first_damaged (replicate 26 0) ≡
      1 ∷ 0 ∷ 0 ∷ 2 ∷ 0 ∷ 0 ∷ 4 ∷ 1 ∷ 0 ∷ 0 ∷ 0 ∷ 1 ∷ 5 ∷ 1 ∷ 0 ∷ 5 ∷ 0 ∷ 4 ∷ 7 ∷ 0 ∷ 0 ∷ 0 ∷ 0 ∷ 0 ∷ 0 ∷ 0 ∷ []
  -- R2 All seven fields: B by the new q, C against the new D, no spare bit of a dropped kind.
  pub R2 : rescued (rescue_of second_damaged (replicate 54 0)) ≡ given 54 1 3 8
  pub R2-list : list_over second_damaged (replicate 54 0) ≡
      1 ∷ 0 ∷ 0 ∷ 1 ∷ 0 ∷ 0 ∷ 2 ∷ 1 ∷ 0 ∷ 2 ∷ 0 ∷ 0 ∷ 3 ∷ 0 ∷ 0 ∷ 1 ∷ 0 ∷ 0 ∷ 4 ∷ 0 ∷ 0 ∷ 0 ∷ 0 ∷ 1 ∷ 4 ∷ 1 ∷ 0 ∷ 15 ∷ 0 ∷ 2
      ∷ 5 ∷ 1 ∷ 3 ∷ 255 ∷ 0 ∷ 8 ∷ 6 ∷ 0 ∷ 0 ∷ 12 ∷ 0 ∷ 8 ∷ 7 ∷ 1 ∷ 0 ∷ 0 ∷ 0 ∷ 0 ∷ 7 ∷ 2 ∷ 0 ∷ 0 ∷ 0 ∷ 0 ∷ []
  pub R2-seven : number (judged (rescue_of second_damaged (replicate 54 0)).plan).answer ≡ 7
  -- R3 A, and A with budgets 3 and 6: nothing is listed.
  pub R3 : rescued (rescue_of bytes_a []) ≡ given 0 3 3 5
  pub R3-seven : rescued (rescue_of (encoded (like_a 3 6 (kind 0 8 8 6))) []) ≡ given 0 3 3 6
  -- R4 A byte too few for R1's list: 9, and none is written.
  pub R4 : rescued (rescue_of first_damaged (replicate 23 0)) ≡ unrescued 9
  pub R4-list : list_over first_damaged (replicate 23 0) ≡ replicate 23 0
  -- R5 No kind remains: 20, though nothing was lent.
  pub R5 : rescued (rescue_of (damaged_head ++ replicate 15 0) []) ≡ unrescued 20
