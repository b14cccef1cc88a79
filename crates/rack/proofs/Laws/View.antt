-- Laws of a project's view: one kind to a card and one card to a kind, the first by rank on the lowest; and that views which say the
-- same decide the same.
-- Assumes nothing.
use Rattle.std.specs.Prelude.{◌≡◌, ◌&&◌, leb}
use Rattle.std.proofs.Math.Path.{refl, ap}
use Rattle.std.proofs.Common.{sym, ◌∙◌, mod-eq_of_lt, arith}
use Rattle.std.proofs.Math.Bool.{Bool, true, false}
use Rattle.std.proofs.lemmas.Bool.{false≢true}
use Prim.Native.Nat.{ℕ, zero, suc, pred, ◌+◌, ◌≤◌, ◌<◌, min}
use Rattle.std.proofs.Math.Decide.{dec_lt}
use Rattle.std.proofs.Math.Dec.{ltb, eqb}
use borrow.Author.Tests.{eq-eqb, eqb-true}
use Rattle.laws.specs.Tests.{and_left, and_right}
use Rattle.laws.specs.Count.{count_to}
use Rattle.laws.specs.Count.Properties.{count_cong, between_yes, between_low, between_high, count_between}
use Rattle.laws.specs.First.Properties.{first_le, first_holds, first_some, first_cong}
use Rattle.laws.specs.Ranking.{Order, first_in}
use Rattle.laws.specs.Ranking.Properties.{first_of, first_member, first_rank, not_first, first_count, first_above}
use Rattle.laws.specs.Ranking.Properties.{rank_cong, rank_distinct, rank_at, rank_lt_members, above_of_rank}
use Rattle.layout.specs.Cards.Properties.{run_card, run_closed, below_grows}
use Rattle.rack.specs.View.{View, Same, has_card, cards_held, lowest_card, end_card, active_in, rank_of, chosen, takes_card, byte_on}

module _ (v : View) where
  -- ---- whom it chooses

  pub chosen_of : (i : ℕ) → v.active i ≡ true → rank_of v i < cards_held v → chosen v i ≡ true
  unfolding chosen rank_of
  chosen_of i a l = first_of v.places v.active v.above (cards_held v) i a l

  pub chosen_active : (i : ℕ) → chosen v i ≡ true → v.active i ≡ true
  unfolding chosen
  chosen_active i e = first_member v.places v.active v.above (cards_held v) i e

  pub chosen_rank : (i : ℕ) → chosen v i ≡ true → rank_of v i < cards_held v
  unfolding chosen rank_of
  chosen_rank i e = first_rank v.places v.active v.above (cards_held v) i e

  pub not_chosen : (i : ℕ) → v.active i ≡ true → chosen v i ≡ false → cards_held v ≤ rank_of v i
  unfolding chosen rank_of
  not_chosen i a e = not_first v.places v.active v.above (cards_held v) i a e

  -- ---- who takes a card

  abbrev lower : ℕ → ℕ
  lower card = count_to card (has_card v)

  pub takes_active : (i card : ℕ) → takes_card v i card ≡ true → v.active i ≡ true
  unfolding takes_card
  takes_active i card e = and_left (v.active i) _ e

  pub takes_has : (i card : ℕ) → takes_card v i card ≡ true → has_card v card ≡ true
  unfolding takes_card
  takes_has i card e = and_left (has_card v card) _ (and_right (v.active i) _ e)

  takes_rank : (i card : ℕ) → takes_card v i card ≡ true → rank_of v i ≡ lower card
  unfolding takes_card
  takes_rank i card e = eqb-true (rank_of v i) (lower card) (and_right (has_card v card) _ (and_right (v.active i) _ e))

  takes_of : (i card : ℕ) → v.active i ≡ true → has_card v card ≡ true → rank_of v i ≡ lower card → takes_card v i card ≡ true
  unfolding takes_card
  takes_of i card a h e = rw (a, h) (eq-eqb (rank_of v i) (lower card) e)

  -- ---- its byte on a card: it names the kind that takes it, and is 0 where none does

  pub byte_takes : (card i : ℕ) → byte_on v card ≡ suc i → takes_card v i card ≡ true
  unfolding byte_on
  byte_takes card i e =
      let f : ℕ → Bool = λ number. takes_card v (pred number) card in
      ap f (sym e) ∙ first_holds v.places f (omega arith)

  pub byte_below : (card i : ℕ) → byte_on v card ≡ suc i → i < v.places
  unfolding byte_on
  byte_below card i e = omega (arith, first_le v.places (λ number. takes_card v (pred number) card))

  byte_some : (card i : ℕ) → i < v.places → takes_card v i card ≡ true → 0 < byte_on v card
  unfolding byte_on
  byte_some card i l e = first_some v.places (λ number. takes_card v (pred number) card) (suc i) (omega arith) l e

  -- ---- ranked by an order

  module _ (order : Order v.above) where
    -- no two kinds share a rank
    pub ranks_distinct : (i k : ℕ) → i < v.places → k < v.places → v.active i ≡ true → v.active k ≡ true →
        rank_of v i ≡ rank_of v k → i ≡ k
    unfolding rank_of
    ranks_distinct i k l m a b e = rank_distinct v.places v.active v.above order i k l m a b e

    -- and each number below their count is one's
    pub rank_taken : (r : ℕ) → r < active_in v → (i : ℕ) × (i < v.places) × (v.active i ≡ true) × (rank_of v i ≡ r)
    unfolding active_in rank_of
    rank_taken r l = rank_at v.places v.active v.above order r l

    pub rank_most : (i : ℕ) → i < v.places → v.active i ≡ true → rank_of v i < active_in v
    unfolding active_in rank_of
    rank_most i l a = rank_lt_members v.places v.active v.above order i l a

    -- the lower rank of two goes before the other
    pub rank_above : (i k : ℕ) → k < v.places → v.active k ≡ true → rank_of v i < rank_of v k → v.above i k ≡ true
    unfolding rank_of
    rank_above i k l a h = above_of_rank v.places v.active v.above order i k l a h

    -- one that is chosen goes before every one that has slices left and is not
    pub chosen_first : (i k : ℕ) → k < v.places → chosen v i ≡ true → v.active k ≡ true → chosen v k ≡ false → v.above i k ≡ true
    chosen_first i k l p a u = rank_above i k l a (omega (arith, chosen_rank i p, not_chosen k a u))

    -- as many are chosen as it holds cards, or all that have slices left
    pub chosen_count : count_to v.places (chosen v) ≡ min (cards_held v) (active_in v)
    unfolding active_in chosen
    chosen_count = first_count v.places v.active v.above order (cards_held v)

    -- one that is not has them all before it
    pub chosen_above : (i : ℕ) → i < v.places → v.active i ≡ true → cards_held v ≤ rank_of v i →
        count_to v.places (λ k. chosen v k && v.above k i) ≡ cards_held v
    unfolding chosen rank_of
    chosen_above i l a h = first_above v.places v.active v.above order (cards_held v) i l a h

    -- no card has two kinds
    pub one_kind : (i k card : ℕ) → i < v.places → k < v.places → takes_card v i card ≡ true → takes_card v k card ≡ true → i ≡ k
    one_kind i k card l m p q =
        ranks_distinct i k l m (takes_active i card p) (takes_active k card q) (takes_rank i card p ∙ sym (takes_rank k card q))

    -- "kind number plus 1"
    pub byte_is : (card i : ℕ) → i < v.places → takes_card v i card ≡ true → byte_on v card ≡ suc i
    byte_is card i l e = go (byte_on v card) refl
      where
        go : (b : ℕ) → byte_on v card ≡ b → byte_on v card ≡ suc i
        go zero q = absurd (omega (arith, byte_some card i l e))
        go (suc k) q = q ∙ ap suc (one_kind k i card (byte_below card k q) l (byte_takes card k q) e)

    -- a card that it holds is used while there is work for it
    pub card_used : (card : ℕ) → has_card v card ≡ true → count_to card (has_card v) < active_in v → 0 < byte_on v card
    card_used card h l =
        let t = rank_taken (count_to card (has_card v)) l in
        byte_some card t.0 t.1 (takes_of t.0 card t.2 h t.3)

  -- ---- its cards are those from its lowest on, and below its end

  module _ (in_frame : v.slice < v.frame) where
    has_between : (card : ℕ) → has_card v card ≡ (leb (lowest_card v) card && ltb card (end_card v))
    unfolding has_card lowest_card end_card
    has_between card = run_card v.frame v.slice in_frame v.first v.budget card

    pub has_of : (card : ℕ) → lowest_card v ≤ card → card < end_card v → has_card v card ≡ true
    has_of card a b = has_between card ∙ between_yes (lowest_card v) (end_card v) card a b

    pub has_from : (card : ℕ) → has_card v card ≡ true → lowest_card v ≤ card
    has_from card e =
        elim (dec_lt card (lowest_card v)) [
          | yes q ↦ absurd (false≢true (sym (between_low (lowest_card v) (end_card v) card q) ∙ sym (has_between card) ∙ e))
          | no q ↦ omega arith
        ]

    pub has_to : (card : ℕ) → has_card v card ≡ true → card < end_card v
    has_to card e =
        elim (dec_lt card (end_card v)) [
          | yes q ↦ q
          | no q ↦ absurd (false≢true (sym (between_high (lowest_card v) (end_card v) card (omega arith)) ∙ sym (has_between card) ∙ e))
        ]

    -- the lower ones of a card that it holds are those from its lowest on
    pub cards_before : (card : ℕ) → has_card v card ≡ true → lowest_card v + count_to card (has_card v) ≡ card
    cards_before card e =
        let from = has_from card e in
        let to = has_to card e in
        let same = count_cong card (has_card v) (λ c. leb (lowest_card v) c && ltb c (end_card v)) (λ c l. has_between c) in
        omega (arith, same, count_between card (lowest_card v) (end_card v) (omega arith))

    -- they are `cards_held` in number
    pub lowest_held : lowest_card v + cards_held v ≡ end_card v
    unfolding lowest_card cards_held end_card
    lowest_held =
        let closed = rw (mod-eq_of_lt in_frame) at (run_closed v.first v.budget v.frame v.slice (omega arith)) in
        omega (arith, closed, below_grows v.frame v.slice in_frame v.first (v.first + v.budget) (omega arith))

    -- a kind's card is the project's card of its rank
    pub takes_card_law : (i card : ℕ) → takes_card v i card ≡ true → lowest_card v + rank_of v i ≡ card
    takes_card_law i card e = omega (arith, cards_before card (takes_has i card e), takes_rank i card e)

    pub card_takes : (i card : ℕ) → chosen v i ≡ true → lowest_card v + rank_of v i ≡ card → takes_card v i card ≡ true
    card_takes i card e q =
        let h = has_of card (omega arith) (omega (arith, lowest_held, chosen_rank i e)) in
        takes_of i card (chosen_active i e) h (omega (arith, cards_before card h))

    -- the chosen are those who take a card
    pub takes_chosen : (i card : ℕ) → takes_card v i card ≡ true → chosen v i ≡ true
    takes_chosen i card e =
        chosen_of i (takes_active i card e) (omega (arith, takes_card_law i card e, has_to card (takes_has i card e), lowest_held))

    -- the cards used are the first of its own, as many as it holds or has kinds with slices left
    module _ (order : Order v.above) where
      pub used_first : (card : ℕ) → 0 < byte_on v card → (lowest_card v ≤ card) × (card < lowest_card v + min (cards_held v) (active_in v))
      used_first card l = go (byte_on v card) refl l
        where
          go : (b : ℕ) → byte_on v card ≡ b → 0 < b → (lowest_card v ≤ card) × (card < lowest_card v + min (cards_held v) (active_in v))
          go zero e p = absurd (omega arith)
          go (suc i) e p =
              let t = byte_takes card i e in
              let c = takes_card_law i card t in
              let r = chosen_rank i (takes_chosen i card t) in
              let m = rank_most order i (byte_below card i e) (takes_active i card t) in
              (omega arith, omega arith)

      pub first_used : (card : ℕ) → lowest_card v ≤ card → card < lowest_card v + min (cards_held v) (active_in v) → 0 < byte_on v card
      first_used card a b =
          let h = has_of card a (omega (arith, lowest_held)) in
          card_used order card h (omega (arith, cards_before card h))

-- ---- views that say the same decide the same

module _ (v w : View) (same : Same v w) where
  pub same_has : (card : ℕ) → has_card v card ≡ has_card w card
  unfolding has_card
  same_has card = rw (same.first, same.budget, same.frame, same.slice)

  same_held : cards_held v ≡ cards_held w
  unfolding cards_held
  same_held = rw (same.first, same.budget, same.frame, same.slice)

  pub same_rank : (i : ℕ) → i < v.places → v.active i ≡ true → rank_of v i ≡ rank_of w i
  unfolding rank_of
  same_rank i l a =
      rank_cong v.places v.active w.active v.above w.above i same.active (λ k m b. same.above k i m l b a)
      ∙ rw same.places

  pub same_takes : (i card : ℕ) → i < v.places → takes_card v i card ≡ takes_card w i card
  unfolding takes_card
  same_takes i card l = go (v.active i) refl
    where
      by_rank : View → Bool
      by_rank u = has_card u card && eqb (rank_of u i) (count_to card (has_card u))

      go : (b : Bool) → v.active i ≡ b → (v.active i && by_rank v) ≡ (w.active i && by_rank w)
      go true e = rw (same.active i l, same_has card, same_rank i l e, count_cong card (has_card v) (has_card w) (λ c q. same_has c))
      go false e = rw (← same.active i l, e)

  pub same_byte : (card : ℕ) → byte_on v card ≡ byte_on w card
  unfolding byte_on
  same_byte card =
      first_cong v.places (λ number. takes_card v (pred number) card) (λ number. takes_card w (pred number) card) each ∙ rw same.places
    where
      each : (number : ℕ) → 0 < number → number ≤ v.places → takes_card v (pred number) card ≡ takes_card w (pred number) card
      each zero p q = absurd (omega arith)
      each (suc i) p q = same_takes i card q

  pub same_chosen : (i : ℕ) → i < v.places → chosen v i ≡ chosen w i
  unfolding chosen first_in rank_of
  same_chosen i l = go (v.active i) refl
    where
      go : (b : Bool) → v.active i ≡ b → (v.active i && ltb (rank_of v i) (cards_held v)) ≡ (w.active i && ltb (rank_of w i) (cards_held w))
      go true e = rw (same.active i l, same_rank i l e, same_held)
      go false e = rw (← same.active i l, e)
