-- Laws of ranks: who has work, that ranks are an order's, and that the served are the first by deadline.
-- Assumes nothing.
use Rattle.std.specs.Prelude.{◌≡◌, Bool, ◌&&◌, ℕ, ◌+◌, ◌≤◌, ◌<◌, eqb}
use Rattle.std.proofs.Math.Path.{refl, sym, ap}
use Rattle.std.proofs.Common.{◌∙◌, mod-eq_of_lt}
use Rattle.std.proofs.Math.Bool.{true, false}
use Rattle.std.proofs.lemmas.Bool.{false≢true}
use native.Mathlib.Omega.{arith}
use borrow.Author.Tests.{eq-eqb, ne_eqb, eqb-true, eqb-false, not-true, not-false}
use Rattle.laws.specs.Tests.{and_left, and_right, and_both}
use Rattle.laws.specs.Ranking.{Order, sooner}
use Rattle.laws.specs.Ranking.Properties.{sooner_le, sooner_tie, sooner_order}
use Rattle.layout.specs.Layout.{held}
use Rattle.layout.proofs.Laws.Layout.{first_next, below_cards, held_from_law}
use Rattle.rack.specs.declared.State.{State}
use Rattle.rack.specs.State.{unit_of, kind_at, InUse, ProjectInUse}
use Rattle.rack.specs.Form.{Ready}
use Rattle.rack.specs.View.{cards_held, end_card, rank_of, chosen}
use Rattle.rack.proofs.Laws.View.{chosen_active, chosen_rank, not_chosen, chosen_first, rank_above}
use Rattle.rack.specs.Rank.{until, working, active, outranks, view_of, own_view, rank, served}

-- the order sees only the two keys
pub sooner_agree : (f g : ℕ → ℕ) (k i : ℕ) → f k ≡ g k → f i ≡ g i → sooner f k i ≡ sooner g k i
unfolding sooner
sooner_agree f g k i p q = rw (p, q)

module _ (s : State) where
  -- ---- a kind with slices left

  pub working_left : (i : ℕ) → working s i ≡ true → 0 < (unit_of s i).left
  unfolding working
  working_left i e = let z = eqb-false (unit_of s i).left 0 (not-true (eqb (unit_of s i).left 0) e) in omega arith

  pub working_of : (i : ℕ) → 0 < (unit_of s i).left → working s i ≡ true
  unfolding working
  working_of i l = rw (ne_eqb (unit_of s i).left 0 (λ e. omega arith))

  pub idle_left : (i : ℕ) → working s i ≡ false → (unit_of s i).left ≡ 0
  unfolding working
  idle_left i e = eqb-true (unit_of s i).left 0 (not-false (eqb (unit_of s i).left 0) e)

  pub active_of : (j i : ℕ) → (kind_at s i).project ≡ j → working s i ≡ true → active s j i ≡ true
  unfolding active
  active_of j i p w = and_both (eqb (kind_at s i).project j) (working s i) (eq-eqb (kind_at s i).project j p) w

  pub active_project : (j i : ℕ) → active s j i ≡ true → (kind_at s i).project ≡ j
  unfolding active
  active_project j i e = eqb-true (kind_at s i).project j (and_left (eqb (kind_at s i).project j) (working s i) e)

  pub active_working : (j i : ℕ) → active s j i ≡ true → working s i ≡ true
  unfolding active
  active_working j i e = and_right (eqb (kind_at s i).project j) (working s i) e

  pub active_is : (j i : ℕ) → working s i ≡ true → active s j i ≡ eqb (kind_at s i).project j
  unfolding active
  active_is j i w = rw w (last (eqb (kind_at s i).project j))
    where
      last : (b : Bool) → (b && true) ≡ b
      last true = refl
      last false = refl

  pub active_idle : (j i : ℕ) → working s i ≡ false → active s j i ≡ false
  unfolding active
  active_idle j i w = rw w (last (eqb (kind_at s i).project j))
    where
      last : (b : Bool) → (b && false) ≡ false
      last true = refl
      last false = refl

  -- ---- the order

  pub ranked : Order (outranks s)
  unfolding outranks
  ranked = sooner_order (until s)

  -- who outranks another is due no later, and if not sooner has the lower number
  pub outranks_until : (k i : ℕ) → outranks s k i ≡ true → until s k ≤ until s i
  unfolding outranks
  outranks_until k i e = sooner_le (until s) k i e

  pub outranks_tie : (k i : ℕ) → outranks s k i ≡ true → until s i ≤ until s k → k < i
  unfolding outranks
  outranks_tie k i e = sooner_tie (until s) k i e

  -- ---- who is served

  pub served_active : (i : ℕ) → served s i ≡ true → active s (kind_at s i).project i ≡ true
  unfolding served view_of
  served_active i e = chosen_active (own_view s i) i e

  pub served_working : (i : ℕ) → served s i ≡ true → working s i ≡ true
  served_working i e = active_working (kind_at s i).project i (served_active i e)

  pub served_rank : (i : ℕ) → served s i ≡ true → rank s i < cards_held (own_view s i)
  unfolding served rank
  served_rank i e = chosen_rank (own_view s i) i e

  pub unserved_rank : (i : ℕ) → working s i ≡ true → served s i ≡ false → cards_held (own_view s i) ≤ rank s i
  unfolding served rank view_of
  unserved_rank i w e = not_chosen (own_view s i) i (active_of (kind_at s i).project i refl w) e

  pub idle_unserved : (i : ℕ) → working s i ≡ false → served s i ≡ false
  idle_unserved i w = go (served s i) refl
    where
      go : (b : Bool) → served s i ≡ b → served s i ≡ false
      go true e = absurd (false≢true (sym w ∙ served_working i e))
      go false e = e

  -- ---- earliest deadline first

  -- the lower rank of two kinds of a project outranks the other
  pub outranks_of_rank : (i k : ℕ) → InUse s k → (kind_at s i).project ≡ (kind_at s k).project → working s k ≡ true →
      rank s i < rank s k → outranks s i k ≡ true
  unfolding rank view_of
  outranks_of_rank i k l e w h =
      let same = ap (λ (j : ℕ). rank_of (view_of s j) k) e in
      rank_above (own_view s i) ranked i k l (active_of (kind_at s i).project k (sym e) w) (omega (arith, h, same))

  -- one that is served outranks every one of its project that has slices left and is not
  pub served_first : (i k : ℕ) → InUse s k → (kind_at s i).project ≡ (kind_at s k).project → served s i ≡ true →
      working s k ≡ true → served s k ≡ false → outranks s i k ≡ true
  unfolding served view_of
  served_first i k l e p w u =
      chosen_first (own_view s i) ranked i k l p (active_of (kind_at s i).project k (sym e) w)
      (ap (λ (j : ℕ). chosen (view_of s j) k) e ∙ u)

-- ---- of a state that is not refused

module _ (s : State) (r : Ready s) (j : ℕ) where
  -- the slice is one of the frame
  pub in_frame : (view_of s j).slice < (view_of s j).frame
  unfolding view_of
  in_frame = r.form.slice_below

  -- "Let h(s) be the cards a project holds at slice s, taken modulo F"
  pub view_held : ProjectInUse s j → cards_held (view_of s j) ≡ held s.plan j s.slice
  unfolding cards_held view_of
  view_held l = sym (held_from_law s.plan r.order j l s.slice)

  -- its cards are cards of the rack
  pub end_most : ProjectInUse s j → end_card (view_of s j) ≤ s.plan.cards
  unfolding end_card view_of
  end_most l =
      rw (mod-eq_of_lt r.form.slice_below, first_next s.plan j) at
      (below_cards s.plan r.order s.slice (j + 1) (omega arith))
