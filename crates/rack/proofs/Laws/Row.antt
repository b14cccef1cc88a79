-- Laws of the row: every served kind has one card, every card one kind at most, of the project that holds it, the first by deadline on
-- the lowest card.
-- Assumes nothing.
use Rattle.std.specs.Prelude.{◌≡◌, false, not, ◌&&◌, eqb, take, drop, replicate}
use Rattle.std.proofs.Math.Path.{refl, ap}
use Rattle.std.proofs.Common.{sym, ◌∙◌, true≢false, length-append, length-drop}
use Rattle.std.proofs.Math.Bool.{Bool, true}
use Rattle.std.proofs.lemmas.Bool.{false≢true}
use mathlib.Core.List.{List}
use Prim.Native.Nat.{ℕ, zero, suc, pred, ◌+◌, ◌-◌, ◌≤◌, ◌<◌, min}
use Rattle.std.proofs.Math.Decide.{dec_lt}
use native.Mathlib.Omega.{arith}
use Rattle.std.proofs.Math.Dec.{leb, ltb}
use Rattle.std.proofs.Math.ListN.{length, get_or, length-replicate, get_or-append}
use Rattle.std.proofs.Math.Seq.{get_or-append-add, get_or-drop, ext_get_or, take_at}
use borrow.Author.Tests.{eq-eqb, ne_eqb, eqb-true, eqb-false, not-true}
use Rattle.laws.specs.Tests.{and_left, and_right}
use Rattle.laws.specs.Count.Properties.{count_cong, between_yes, between_low, between_high, count_between}
use Rattle.laws.specs.First.{first_to}
use Rattle.laws.specs.First.Properties.{first_le, first_holds, first_zero}
use Rattle.laws.specs.Written.{written}
use Rattle.laws.specs.Written.Properties.{written_at, written_kept, written_length, stored_at}
use Rattle.layout.specs.Layout.{cell_at, owns, slot_of, held}
use Rattle.layout.proofs.Laws.Layout.{slot_owned}
use Rattle.rack.specs.declared.State.{State}
use Rattle.rack.specs.State.{kind_at, kind_places, InUse, ProjectInUse}
use Rattle.rack.specs.Form.{Ready}
use Rattle.rack.specs.View.{has_card, cards_held, lowest_card, active_in, takes_card, byte_on}
use Rattle.rack.proofs.Laws.View.{takes_active, takes_has, takes_card_law, card_takes, takes_chosen, byte_takes, byte_below, byte_is}
use Rattle.rack.proofs.Laws.View.{has_of, has_from, has_to, lowest_held, used_first, first_used}
use Rattle.rack.specs.Rank.{working, active_kinds, outranks, view_of, own_view, rank, served}
use Rattle.rack.proofs.Laws.Rank.{active_project, active_working, ranked, served_first, outranks_of_rank}
use Rattle.rack.proofs.Laws.Rank.{in_frame, view_held, end_most}
use Rattle.rack.specs.Row.{holds, takes, byte_by, row_byte, row_of, row_over, of_project, cards_taken}

-- ---- who takes a card

module _ (s : State) where
  abbrev cell : ℕ → ℕ
  cell card = cell_at s.plan.frame card s.slice

  abbrev project : ℕ → ℕ
  project i = (kind_at s i).project

  -- a card is held as the project's view says
  pub holds_has : (j card : ℕ) → holds s.plan j s.slice card ≡ has_card (view_of s j) card
  unfolding holds has_card view_of owns
  holds_has j card = refl

  pub takes_working : (i card : ℕ) → takes s i card ≡ true → working s i ≡ true
  unfolding view_of
  takes_working i card e = active_working s (project i) i (takes_active (own_view s i) i card e)

  -- a card goes to a kind of the project that holds it, and to nobody else
  pub takes_holds : (i card : ℕ) → takes s i card ≡ true → holds s.plan (kind_at s i).project s.slice card ≡ true
  takes_holds i card e = holds_has (project i) card ∙ takes_has (own_view s i) i card e

  -- who takes a card by a project's view is the project's
  view_takes : (j i card : ℕ) → takes_card (view_of s j) i card ≡ true → (project i ≡ j) × (takes s i card ≡ true)
  unfolding view_of
  view_takes j i card e =
      let p = active_project s j i (takes_active (view_of s j) i card e) in
      (p, ap (λ (x : ℕ). takes_card (view_of s x) i card) p ∙ e)

  -- the byte of a card names the kind that takes it
  byte_says : (card i n : ℕ) → byte_by s n card ≡ suc i → (takes s i card ≡ true) × (InUse s i)
  unfolding byte_by view_of
  byte_says card i zero e = absurd (omega arith)
  byte_says card i (suc j) e = ((view_takes j i card (byte_takes (view_of s j) card i e)).1, byte_below (view_of s j) card i e)

  pub row_takes : (card i : ℕ) → row_byte s card ≡ suc i → takes s i card ≡ true
  unfolding row_byte
  row_takes card i e = (byte_says card i (slot_of s.plan (cell card)) e).0

  pub row_below : (card i : ℕ) → row_byte s card ≡ suc i → InUse s i
  unfolding row_byte
  row_below card i e = (byte_says card i (slot_of s.plan (cell card)) e).1

  -- on a card that a project holds the row has what its view says
  pub row_own : (j card : ℕ) → ProjectInUse s j → has_card (view_of s j) card ≡ true → row_byte s card ≡ byte_on (view_of s j) card
  unfolding row_byte byte_by holds
  row_own j card l h = rw (slot_owned s.plan j (cell card) l (holds_has j card ∙ h))

-- ---- the row in a lent row

module _ (s : State) where
  pub row_size : length (row_of s) ≡ s.plan.cards
  unfolding row_of
  row_size = written_length s.plan.cards (row_byte s) (replicate s.plan.cards 0) ∙ length-replicate {A = ℕ} s.plan.cards 0

  pub row_shows : (card : ℕ) → card < s.plan.cards → get_or (row_of s) card 0 ≡ row_byte s card
  unfolding row_of
  row_shows card l = stored_at s.plan.cards s.plan.cards (row_byte s) card l (omega arith)

  module _ (bytes : List ℕ) where
    pub over_at : (card : ℕ) → card < s.plan.cards → get_or (row_over s bytes) card 0 ≡ row_byte s card
    unfolding row_over
    over_at card l = get_or-append (row_of s) (drop s.plan.cards bytes) 0 card (omega (arith, row_size)) ∙ row_shows card l

    -- "bytes past those needed keep their value"
    pub over_kept : (x : ℕ) → s.plan.cards ≤ x → get_or (row_over s bytes) x 0 ≡ get_or bytes x 0
    unfolding row_over
    over_kept x l =
        let past : x ≡ length (row_of s) + (x - s.plan.cards) = omega (arith, row_size) in
        let same : s.plan.cards + (x - s.plan.cards) ≡ x = omega arith in
        ap (λ (y : ℕ). get_or (row_over s bytes) y 0) past
        ∙ get_or-append-add (row_of s) (drop s.plan.cards bytes) (x - s.plan.cards) 0
        ∙ get_or-drop s.plan.cards bytes (x - s.plan.cards) 0
        ∙ ap (λ (y : ℕ). get_or bytes y 0) same

    -- its bytes stored card by card
    pub over_written : s.plan.cards ≤ length bytes → written s.plan.cards (row_byte s) bytes ≡ row_over s bytes
    unfolding row_over
    over_written l = ext_get_or 0 stored (row_over s bytes) same_length at
      where
        stored : List ℕ
        stored = written s.plan.cards (row_byte s) bytes

        same_length : length stored ≡ length (row_over s bytes)
        same_length =
            let all = written_length s.plan.cards (row_byte s) bytes in
            let rest = length-drop s.plan.cards bytes in
            omega (arith, all, length-append (row_of s) (drop s.plan.cards bytes), row_size, rest)

        at : (i : ℕ) → i < length stored → get_or stored i 0 ≡ get_or (row_over s bytes) i 0
        at i q =
            elim (dec_lt i s.plan.cards) [
              | yes t ↦ written_at s.plan.cards (row_byte s) bytes 0 i t l ∙ sym (over_at i t)
              | no t ↦ written_kept s.plan.cards (row_byte s) bytes 0 i (omega arith) ∙ sym (over_kept i (omega arith))
            ]

    -- the first m bytes are the row
    pub over_take : take s.plan.cards (row_over s bytes) ≡ row_of s
    unfolding row_over
    over_take = take_at (row_of s) (drop s.plan.cards bytes) s.plan.cards row_size

-- ---- the row of a state that is not refused

module _ (s : State) (r : Ready s) where
  abbrev of : ℕ → ℕ
  of i = (kind_at s i).project

  its_project : (i : ℕ) → InUse s i → ProjectInUse s (of i)
  its_project i l = (r.order.kind_at_law i l).its_project

  -- "kind number plus 1"
  pub row_is : (card i : ℕ) → InUse s i → takes s i card ≡ true → row_byte s card ≡ suc i
  unfolding view_of
  row_is card i l e =
      row_own s (of i) card (its_project i l) (takes_has (own_view s i) i card e) ∙ byte_is (own_view s i) (ranked s) card i l e

  pub row_nobody : (card i : ℕ) → row_byte s card ≡ 0 → InUse s i → takes s i card ≡ false
  row_nobody card i e l = go (takes s i card) refl
    where
      go : (b : Bool) → takes s i card ≡ b → takes s i card ≡ false
      go true t = absurd (omega (arith, row_is card i l t))
      go false t = t

  -- of all the kinds, the first that takes the card
  pub row_first : (card : ℕ) → row_byte s card ≡ first_to (kind_places s) (λ number. takes s (pred number) card)
  row_first card = go (first_to (kind_places s) (λ number. takes s (pred number) card)) refl
    where
      f : ℕ → Bool
      f number = takes s (pred number) card

      nobody : first_to (kind_places s) f ≡ 0 → (n : ℕ) → row_byte s card ≡ n → row_byte s card ≡ 0
      nobody e zero q = q
      nobody e (suc i) q =
          let none = first_zero (kind_places s) f (sym e) (suc i) (omega arith) (row_below s card i q) in
          absurd (true≢false (sym (row_takes s card i q) ∙ none))

      go : (n : ℕ) → first_to (kind_places s) f ≡ n → row_byte s card ≡ n
      go zero e = nobody e (row_byte s card) refl
      go (suc i) e = row_is card i (omega (arith, first_le (kind_places s) f)) (ap f (sym e) ∙ first_holds (kind_places s) f (omega arith))

  -- no card has two kinds
  pub card_kind : (i k card : ℕ) → InUse s i → InUse s k → takes s i card ≡ true → takes s k card ≡ true → i ≡ k
  card_kind i k card l m p q = omega (arith, row_is card i l p, row_is card k m q)

  -- the served are those who take a card, and it is the project's card of their rank
  pub row_card : (i card : ℕ) → takes s i card ≡ true → lowest_card (own_view s i) + rank s i ≡ card
  unfolding rank
  row_card i card e = takes_card_law (own_view s i) (in_frame s r (of i)) i card e

  pub served_takes : (i card : ℕ) → served s i ≡ true → lowest_card (own_view s i) + rank s i ≡ card → takes s i card ≡ true
  unfolding served rank
  served_takes i card e q = card_takes (own_view s i) (in_frame s r (of i)) i card e q

  pub takes_served : (i card : ℕ) → takes s i card ≡ true → served s i ≡ true
  unfolding served
  takes_served i card e = takes_chosen (own_view s i) (in_frame s r (of i)) i card e

  -- and the card is one of the rack's
  pub takes_below : (i card : ℕ) → InUse s i → takes s i card ≡ true → card < s.plan.cards
  takes_below i card l e =
      let below = has_to (own_view s i) (in_frame s r (of i)) card (takes_has (own_view s i) i card e) in
      omega (arith, below, end_most s r (of i) (its_project i l))

  -- a served kind stands in the row
  pub served_stands : (i : ℕ) → InUse s i → served s i ≡ true → (card : ℕ) × (card < s.plan.cards) × (row_byte s card ≡ suc i)
  served_stands i l e =
      let card = lowest_card (own_view s i) + rank s i in
      let t = served_takes i card e refl in
      (card, takes_below i card l t, row_is card i l t)

  -- a kind that stands in the row is served, on a card of its project
  pub stands_served : (card i : ℕ) → row_byte s card ≡ suc i → served s i ≡ true
  stands_served card i e = takes_served i card (row_takes s card i e)

  pub stands_held : (card i : ℕ) → row_byte s card ≡ suc i → holds s.plan (of i) s.slice card ≡ true
  stands_held card i e = takes_holds s i card (row_takes s card i e)

  -- no kind stands twice
  pub stands_once : (c d i : ℕ) → row_byte s c ≡ suc i → row_byte s d ≡ suc i → c ≡ d
  stands_once c d i p q = omega (arith, row_card i c (row_takes s c i p), row_card i d (row_takes s d i q))

  -- ---- earliest deadline first

  -- who stands in the row outranks every kind of the project that has slices left and does not
  pub stands_first : (card i k : ℕ) → row_byte s card ≡ suc i → InUse s k → of i ≡ of k → working s k ≡ true →
      ((d : ℕ) → d < s.plan.cards → row_byte s d ≡ suc k → ⊥) → outranks s i k ≡ true
  stands_first card i k e l q w no_card = go (served s k) refl
    where
      go : (b : Bool) → served s k ≡ b → outranks s i k ≡ true
      go true t = let h = served_stands k l t in absurd (no_card h.0 h.1 h.2)
      go false t = served_first s i k l q (stands_served card i e) w t

  -- "in ascending card order"
  pub stands_ascending : (c d i k : ℕ) → row_byte s c ≡ suc i → row_byte s d ≡ suc k → of i ≡ of k → c < d → outranks s i k ≡ true
  stands_ascending c d i k p q e l =
      let lower = row_card i c (row_takes s c i p) in
      let higher = row_card k d (row_takes s d k q) in
      let same = ap (λ (j : ℕ). lowest_card (view_of s j)) e in
      outranks_of_rank s i k (row_below s d k q) e (takes_working s k d (row_takes s d k q)) (omega (arith, lower, higher, same))

  -- ---- how many cards a project has

  module _ (j : ℕ) (l : ProjectInUse s j) where
    abbrev low : ℕ
    low = lowest_card (view_of s j)

    abbrev most : ℕ
    most = min (cards_held (view_of s j)) (active_in (view_of s j))

    most_is : most ≡ min (held s.plan j s.slice) (active_kinds s j)
    unfolding active_in active_kinds view_of
    most_is = ap (λ (n : ℕ). min n (active_kinds s j)) (view_held s r j l)

    -- its cards of the row are the first of its own
    used_here : (card : ℕ) → low ≤ card → card < low + most → 0 < row_byte s card
    unfolding view_of
    used_here card a b =
        let h = has_of (view_of s j) (in_frame s r j) card a (omega (arith, lowest_held (view_of s j) (in_frame s r j))) in
        omega (arith, row_own s j card l h, first_used (view_of s j) (in_frame s r j) (ranked s) card a b)

    -- a byte of a kind of project j, in two parts
    project_says : (number : ℕ) → of_project s j number ≡ true → (0 < number) × (of (pred number) ≡ j)
    unfolding of_project
    project_says number e =
        let z = eqb-false number 0 (not-true (eqb number 0) (and_left (not (eqb number 0)) (eqb (of (pred number)) j) e)) in
        (omega arith, eqb-true (of (pred number)) j (and_right (not (eqb number 0)) (eqb (of (pred number)) j) e))

    project_of_law : (i : ℕ) → of i ≡ j → of_project s j (suc i) ≡ true
    unfolding of_project
    project_of_law i e = rw (ne_eqb (suc i) 0 (λ z. omega arith)) (eq-eqb (of i) j e)

    -- a card that it holds and that is used is used by one of its kinds
    used_own : (card n : ℕ) → has_card (view_of s j) card ≡ true → row_byte s card ≡ n → 0 < n → of_project s j n ≡ true
    used_own card zero h q p = absurd (omega arith)
    used_own card (suc i) h q p =
        project_of_law i (view_takes s j i card (byte_takes (view_of s j) card i (sym (row_own s j card l h) ∙ q))).0

    own_used : (card i : ℕ) → row_byte s card ≡ suc i → of i ≡ j → (low ≤ card) × (card < low + most)
    unfolding view_of
    own_used card i q e =
        let has = takes_has (own_view s i) i card (row_takes s card i q) in
        let h : has_card (view_of s j) card ≡ true = ap (λ (x : ℕ). has_card (view_of s x) card) (sym e) ∙ has in
        used_first (view_of s j) (in_frame s r j) (ranked s) card (omega (arith, row_own s j card l h))

    taken_between : (card : ℕ) → of_project s j (row_byte s card) ≡ (leb low card && ltb card (low + most))
    taken_between card = go (of_project s j (row_byte s card)) refl
      where
        named : (n : ℕ) → row_byte s card ≡ n → (0 < n) × (of (pred n) ≡ j) → (leb low card && ltb card (low + most)) ≡ true
        named zero q t = absurd (omega arith)
        named (suc i) q t = let u = own_used card i q t.1 in between_yes low (low + most) card u.0 u.1

        inside : low ≤ card → card < low + most → of_project s j (row_byte s card) ≡ true
        inside a b =
            let has = has_of (view_of s j) (in_frame s r j) card a (omega (arith, lowest_held (view_of s j) (in_frame s r j))) in
            used_own card (row_byte s card) has refl (used_here card a b)

        go : (b : Bool) → of_project s j (row_byte s card) ≡ b → of_project s j (row_byte s card) ≡ (leb low card && ltb card (low + most))
        go true e = e ∙ sym (named (row_byte s card) refl (project_says (row_byte s card) e))
        go false e =
            elim (dec_lt card low) [
              | yes q ↦ e ∙ sym (between_low low (low + most) card q)
              | no q ↦ elim (dec_lt card (low + most)) [
                | yes t ↦ absurd (false≢true (sym e ∙ inside (omega arith) t))
                | no t ↦ e ∙ sym (between_high low (low + most) card (omega arith))
              ]
            ]

  -- every card of a project with enough work is used
  pub cards_used : (j card : ℕ) → ProjectInUse s j → holds s.plan j s.slice card ≡ true →
      held s.plan j s.slice ≤ active_kinds s j → 0 < row_byte s card
  cards_used j card l h q =
      let v = view_of s j in
      let has : has_card v card ≡ true = sym (holds_has s j card) ∙ h in
      let below = has_to v (in_frame s r j) card has in
      let all = lowest_held v (in_frame s r j) in
      used_here j l card (has_from v (in_frame s r j) card has) (omega (arith, below, all, most_is j l, view_held s r j l))

  -- a project has as many cards of the row as it holds, or as it has kinds with slices left
  pub taken_cards : (j : ℕ) → ProjectInUse s j → cards_taken s j ≡ min (held s.plan j s.slice) (active_kinds s j)
  unfolding cards_taken
  taken_cards j l =
      let mine : ℕ → Bool = λ card. of_project s j (row_byte s card) in
      let first : ℕ → Bool = λ card. leb (low j l) card && ltb card (low j l + most j l) in
      let same = count_cong s.plan.cards mine first (λ card q. taken_between j l card) in
      let count = count_between s.plan.cards (low j l) (low j l + most j l) (omega arith) in
      omega (arith, same, count, lowest_held (view_of s j) (in_frame s r j), end_most s r j l, most_is j l)
