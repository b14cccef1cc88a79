-- Document 01, "Plan A, plan B and the numbers they give": the plans, and plan A's bytes.
-- Assumes nothing.
use Rattle.std.specs.Prelude.{List, [], ◌∷◌, ℕ, replicate}
use Rattle.plan.specs.declared.Project.{Project}
use Rattle.plan.specs.declared.Kind.{Kind}
use Rattle.plan.specs.declared.Plan.{Plan}
use Rattle.plan.specs.Record.{no_project, no_kind}

-- a project of ceiling q and budget B
abbrev pub project : ℕ → ℕ → Project
project q B = record { ceiling = q; budget = B }

-- a kind (project,T,D,C)
abbrev pub kind : ℕ → ℕ → ℕ → ℕ → Kind
kind j T D C = record { project = j; separation = T; deadline = D; length = C }

-- plan A with other budgets or another kind 0
abbrev pub like_a : ℕ → ℕ → Kind → Plan
like_a B₀ B₁ first = record {
  cards = 2;
  projects = 2;
  kinds = 3;
  frame = 4;
  project = project 1 B₀ ∷ project 2 B₁ ∷ replicate 6 no_project;
  kind = first ∷ kind 1 4 4 2 ∷ kind 1 8 8 2 ∷ replicate 13 no_kind;
}

-- "Plan A: 2 cards, frame 4; project 0 q 1, B 3; project 1 q 2, B 5; kinds (project,T,D,C): (0,8,8,6), (1,4,4,2), (1,8,8,2)"
abbrev pub plan_a : Plan
plan_a = like_a 3 5 (kind 0 8 8 6)

-- two cards and one project q 2, with this frame and budget and these three kinds
abbrev one_project : ℕ → ℕ → Kind → Kind → Kind → Plan
one_project F B first second third = record {
  cards = 2;
  projects = 1;
  kinds = 3;
  frame = F;
  project = project 2 B ∷ replicate 7 no_project;
  kind = first ∷ second ∷ third ∷ replicate 13 no_kind;
}

-- "Plan B: 2 cards, frame 4; one project q 2, B 8; kinds (0,4,4,1), (0,8,8,3), (0,8,8,2)"
abbrev pub plan_b : Plan
plan_b = one_project 4 8 (kind 0 4 4 1) (kind 0 8 8 3) (kind 0 8 8 2)

-- "Two cards, frame 1, one project q 2, B 2, kinds (0,3,3,2), (0,6,6,4), (0,6,6,3), from 000's opening example"
abbrev pub opening : Plan
opening = one_project 1 2 (kind 0 3 3 2) (kind 0 6 6 4) (kind 0 6 6 3)

-- "`22 18 40 10 0C 20 14 00 10 01 00 0C 20 08 00 80 04 20 10 01 00 04`"
abbrev pub bytes_a : List ℕ
bytes_a =
    0x22 ∷ 0x18 ∷ 0x40
    ∷ 0x10 ∷ 0x0c ∷ 0x20 ∷ 0x14
    ∷ 0x00 ∷ 0x10 ∷ 0x01 ∷ 0x00 ∷ 0x0c
    ∷ 0x20 ∷ 0x08 ∷ 0x00 ∷ 0x80 ∷ 0x04
    ∷ 0x20 ∷ 0x10 ∷ 0x01 ∷ 0x00 ∷ 0x04
    ∷ []
