-- A project over F slices in a row: each row names as many of its kinds as it holds cards, or all that have slices left.
-- Assumes nothing.
use Rattle.std.specs.Prelude.{◌≡◌, List, ℕ, ◌+◌, ◌≤◌, ◌<◌, min, length, get_or, take, drop}
use Rattle.std.proofs.Common.{ap, ◌∙◌, arith, length-drop, length-take-le, get_or-take, get_or-drop}
use Rattle.laws.specs.Sum.{sum_to}
use Rattle.laws.specs.Sum.Properties.{sum_cong, sum_le}
use Rattle.plan.specs.Order.{budget_of, InOrder}
use Rattle.layout.specs.Layout.{held}
use Rattle.rack.specs.declared.State.{State}
use Rattle.rack.specs.Rank.{active_kinds}
use Rattle.demands.specs.Run.{Call, Accepted, no_slice, slices_of}
use Rattle.demands.specs.Run.Properties.{At, at_held, slices_at}
use Rattle.demands.specs.View.{cards_from}
use Rattle.demands.specs.View.Properties.{cards_frame}
use Rattle.demands.specs.Named.{names_project, bytes_in, bytes_naming}
use Rattle.demands.specs.Named.Properties.{project_named, bytes_sum}

module _ (s : State) (order : InOrder s.plan) (calls : List Call) (x j : ℕ) (project : j < s.plan.projects)
    (enough : x + s.plan.frame ≤ length (slices_of s calls)) where
  -- the y-th of F slices in a row, from the x-th on
  abbrev slice_at : ℕ → Accepted
  slice_at y = get_or (slices_of s calls) (x + y) no_slice

  abbrev in_a_row : List Accepted
  in_a_row = take s.plan.frame (drop x (slices_of s calls))

  row_count : length in_a_row ≡ s.plan.frame
  row_count = length-take-le s.plan.frame (drop x (slices_of s calls)) (omega (arith, length-drop x (slices_of s calls)))

  -- the cards that the project holds then
  abbrev cards_at : ℕ → ℕ
  cards_at y = cards_from s j (x + y)

  at : (y : ℕ) → y < s.plan.frame → At s.plan (λ j. cards_from s j (x + y)) (slice_at y)
  at y l = slices_at no_slice calls s (x + y) (omega arith)

  -- what each of the rows names of the project
  abbrev named_at : ℕ → ℕ
  named_at y = min (cards_at y) (active_kinds (slice_at y).before j)

  row_named : (y : ℕ) → y < s.plan.frame → bytes_in (names_project s.plan j) (get_or in_a_row y no_slice).row ≡ named_at y
  row_named y l =
      rw (get_or-take s.plan.frame (drop x (slices_of s calls)) y no_slice l, get_or-drop x (slices_of s calls) y no_slice)
      (project_named s.plan (λ j. cards_from s j (x + y)) (slice_at y) (at y l) j project)

  named_sum : bytes_naming (names_project s.plan j) in_a_row ≡ sum_to s.plan.frame named_at
  named_sum =
      bytes_sum (names_project s.plan j) no_slice in_a_row
      ∙ ap (λ (n : ℕ). sum_to n (λ y. bytes_in (names_project s.plan j) (get_or in_a_row y no_slice).row)) row_count
      ∙ sum_cong s.plan.frame (λ y. bytes_in (names_project s.plan j) (get_or in_a_row y no_slice).row) named_at row_named

  -- in all it holds B
  cards_all : sum_to s.plan.frame cards_at ≡ budget_of s.plan j
  cards_all = cards_frame s j order.counts.some_slice x

  pub named_most : bytes_naming (names_project s.plan j) in_a_row ≤ budget_of s.plan j
  named_most = omega (arith, named_sum, cards_all, sum_le s.plan.frame named_at cards_at (λ y l. omega arith))

  -- where as many of its kinds have slices left at each of them
  pub named_all : ((y : ℕ) → y < s.plan.frame → held s.plan j (slice_at y).before.slice ≤ active_kinds (slice_at y).before j) →
      bytes_naming (names_project s.plan j) in_a_row ≡ budget_of s.plan j
  named_all h = named_sum ∙ sum_cong s.plan.frame named_at cards_at (λ y l. all y (h y l) (at y l)) ∙ cards_all
    where
      all : (y : ℕ) → held s.plan j (slice_at y).before.slice ≤ active_kinds (slice_at y).before j →
          At s.plan (λ j. cards_from s j (x + y)) (slice_at y) → named_at y ≡ cards_at y
      all y enough a = omega (arith, at_held a j project)
