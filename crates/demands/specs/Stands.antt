-- Who stands on a card: the three things that it takes, and that with cards enough all work has them.
-- Assumes nothing.
use Rattle.std.specs.Prelude.{◌≡◌, true, ◌&&◌, ℕ, suc, ◌≤◌, ◌<◌}
use Rattle.std.proofs.Math.Path.{refl, sym}
use Rattle.std.proofs.Common.{◌∙◌, arith}
use Rattle.std.proofs.Math.Dec.{eqb}
use borrow.Author.Tests.{eq-eqb, eqb-true}
use Rattle.laws.specs.Tests.{and_right, and_both}
use Rattle.laws.specs.Count.{count_to}
use Rattle.laws.specs.Count.Properties.{count_cong}
use Rattle.layout.specs.Layout.{held}
use Rattle.rack.specs.declared.State.{State}
use Rattle.rack.specs.State.{unit_of, kind_at, InUse}
use Rattle.rack.specs.Form.{Ready}
use Rattle.rack.specs.View.{View, has_card, active_in, rank_of, takes_card}
use Rattle.rack.proofs.Laws.View.{chosen_of, rank_most}
use Rattle.rack.specs.Rank.{active_kinds, view_of, rank, served}
use Rattle.rack.proofs.Laws.Rank.{working_left, working_of, active_of, ranked, view_held}
use Rattle.rack.specs.Row.{holds, takes, row_byte}
use Rattle.rack.proofs.Laws.Row.{holds_has, takes_working, takes_holds, row_takes, row_below, row_is, served_stands}

module _ (s : State) (i : ℕ) where
  abbrev j : ℕ
  j = (kind_at s i).project

  abbrev view : View
  view = view_of s j

  is_active : 0 < (unit_of s i).left → view.active i ≡ true
  unfolding view_of
  is_active w = active_of s j i refl (working_of s i w)

  module _ (card : ℕ) where
    -- the card's place among the project's: how many lower ones it holds
    abbrev place : ℕ
    place = count_to card (holds s.plan j s.slice)

    place_is : count_to card (has_card view) ≡ place
    place_is = count_cong card (has_card view) (holds s.plan j s.slice) (λ c l. sym (holds_has s j c))

    abbrev Stands : Type 0
    Stands = (InUse s i) × (0 < (unit_of s i).left) × (holds s.plan j s.slice card ≡ true) × (rank s i ≡ place)

    takes_rank : takes s i card ≡ true → rank s i ≡ place
    unfolding takes_card rank
    takes_rank t =
        let ranked-there = eqb (rank_of view i) (count_to card (has_card view)) in
        let its_card = and_right (view.active i) (has_card view card && ranked-there) t in
        eqb-true (rank_of view i) (count_to card (has_card view)) (and_right (has_card view card) ranked-there its_card) ∙ place_is

    takes_of : 0 < (unit_of s i).left → holds s.plan j s.slice card ≡ true → rank s i ≡ place → takes s i card ≡ true
    unfolding takes_card rank
    takes_of w h r =
        let ranked-there = eqb (rank_of view i) (count_to card (has_card view)) in
        let at-its-rank = eq-eqb (rank_of view i) (count_to card (has_card view)) (r ∙ sym place_is) in
        let its_card = and_both (has_card view card) ranked-there (sym (holds_has s j card) ∙ h) at-its-rank in
        and_both (view.active i) (has_card view card && ranked-there) (is_active w) its_card

    pub stands_says : row_byte s card ≡ suc i → Stands
    stands_says e =
        let t = row_takes s card i e in
        (row_below s card i e, working_left s i (takes_working s i card t), takes_holds s i card t, takes_rank t)

    pub stands_of : Ready s → Stands → row_byte s card ≡ suc i
    stands_of ready t = row_is s ready card i t.0 (takes_of t.1 t.2 t.3)

  -- all of a project's kinds with slices left are among the first h, where they are no more than h
  pub enough_served : Ready s → InUse s i → 0 < (unit_of s i).left → active_kinds s j ≤ held s.plan j s.slice →
      served s i ≡ true
  unfolding view_of served active_kinds active_in
  enough_served ready l w enough =
      let below = rank_most view (ranked s) i l (is_active w) in
      let cards = view_held s ready j (ready.order.kind_at_law i l).its_project in
      chosen_of view i (is_active w) (omega (arith, below, cards))

  pub enough_stand : Ready s → InUse s i → 0 < (unit_of s i).left → active_kinds s j ≤ held s.plan j s.slice →
      (card : ℕ) × (card < s.plan.cards) × (row_byte s card ≡ suc i)
  enough_stand ready l w enough = served_stands s ready i l (enough_served ready l w enough)
