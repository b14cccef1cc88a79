-- The ranking, as a project sees it: whom a slice serves, and for whom the others wait.
-- Assumes nothing.
use Rattle.std.specs.Prelude.{◌≡◌, Bool, true, false, ◌&&◌, ℕ, ◌≤◌, ◌<◌}
use Rattle.std.proofs.Common.{sym, ◌∙◌, arith, eq-eqb}
use Rattle.std.proofs.Math.Path.{ap}
use Rattle.std.proofs.lemmas.Bool.{false≢true}
use Rattle.laws.specs.Tests.{and_left, and_right, and_both}
use Rattle.laws.specs.Count.{count_to}
use Rattle.laws.specs.Count.Properties.{count_le_count}
use Rattle.rack.specs.declared.State.{State}
use Rattle.rack.specs.State.{unit_of, kind_at, kind_places, InUse}
use Rattle.rack.specs.View.{cards_held, rank_of, chosen}
use Rattle.rack.proofs.Laws.View.{chosen_active, chosen_above}
use Rattle.rack.specs.Rank.{outranks, view_of, rank, served}
use Rattle.rack.proofs.Laws.Rank.{working_left, working_of, active_of, active_project}
use Rattle.rack.proofs.Laws.Rank.{ranked, outranks_until, served_working, unserved_rank}
use Rattle.analysis.specs.Setup.{Own}
use Rattle.analysis.specs.Setup.Properties.{other_of}
use Rattle.analysis.specs.Step.{Serves}
use Rattle.analysis.specs.EarliestFirst.{no_later}
use Rattle.analysis.proofs.Laws.Ahead.{later_of}
use Rattle.demands.specs.View.{setup_of, cards_from, moment_of}
use Rattle.demands.specs.View.Properties.{own_project, cards_now}

module _ (s : State) (j : ℕ) where
  abbrev prior : ℕ → ℕ → Bool
  prior = no_later (setup_of s.plan j) (moment_of s j)

  chosen_project : (k : ℕ) → chosen (view_of s j) k ≡ true → (kind_at s k).project ≡ j
  unfolding view_of
  chosen_project k e = active_project s j k (chosen_active (view_of s j) k e)

  chosen_served : (k : ℕ) → chosen (view_of s j) k ≡ true → served s k ≡ true
  unfolding served
  chosen_served k e = ap (λ (x : ℕ). chosen (view_of s x) k) (chosen_project k e) ∙ e

  -- whom the project chooses is due no later than one that is outranked
  chosen_prior : (i k : ℕ) → InUse s k → chosen (view_of s j) k ≡ true → outranks s k i ≡ true → prior k i ≡ true
  chosen_prior i k l e a =
      let own : Own (setup_of s.plan j) k = record { below = l; mine = eq-eqb (kind_at s k).project j (chosen_project k e) } in
      let other = other_of (setup_of s.plan j) i k own (λ x. false≢true (sym ((ranked s).never_itself i) ∙ (rw x at a))) in
      later_of (setup_of s.plan j) (moment_of s j) i k other (omega (arith, outranks_until s k i a))

  -- one that has slices left and is not served waits for as many of them as the project holds cards
  module _ (i : ℕ) (own : Own (setup_of s.plan j) i) (some : 0 < (unit_of s i).left) (unserved : served s i ≡ false) where
    mine : (kind_at s i).project ≡ j
    mine = own_project s.plan i j own

    last : cards_held (view_of s j) ≤ rank_of (view_of s j) i
    unfolding rank
    last = rw mine at (unserved_rank s i (working_of s i some) unserved)

    chosen_above_it : count_to (kind_places s) (λ k. chosen (view_of s j) k && outranks s k i) ≡ cards_held (view_of s j)
    unfolding view_of
    chosen_above_it = chosen_above (view_of s j) (ranked s) i own.below (active_of s j i mine (working_of s i some)) last

    waiting : cards_from s j 0 ≤ count_to (kind_places s) (λ k. served s k && prior k i)
    waiting = omega (arith, chosen_above_it, cards_now s j, count_le_count (kind_places s) above behind one)
      where
        above : ℕ → Bool
        above k = chosen (view_of s j) k && outranks s k i

        behind : ℕ → Bool
        behind k = served s k && prior k i

        one : (k : ℕ) → InUse s k → above k ≡ true → behind k ≡ true
        one k l t =
            let a = and_left (chosen (view_of s j) k) (outranks s k i) t in
            let b = and_right (chosen (view_of s j) k) (outranks s k i) t in
            and_both (served s k) (prior k i) (chosen_served k a) (chosen_prior i k l a b)

  pub view_serves : Serves (setup_of s.plan j) (no_later (setup_of s.plan j)) (moment_of s j) (served s)
  view_serves = record { some_left = λ i o e. working_left s i (served_working s i e); waits = waiting }
