-- Laws of seats: what the code counts is the rank, and what it stores is the row.
-- Assumes nothing.
use Rattle.std.specs.Prelude.{◌≡◌, cond, ltb, ◌++◌, take, drop, replicate}
use Rattle.std.proofs.lemmas.List.{length-take-le}
use Rattle.std.proofs.lemmas.List.Edits.{fill_none, fill_more}
use Rattle.std.proofs.Math.Path.{refl, sym, ap}
use Rattle.std.proofs.Common.{◌∙◌, true≢false, mod-eq_of_lt, add-one}
use Rattle.std.proofs.Math.Bool.{Bool, true, false}
use mathlib.Core.List.{List}
use Prim.Native.Nat.{ℕ, zero, suc, pred, ◌+◌, ◌-◌, ◌≤◌, ◌<◌}
use Rattle.std.proofs.Math.Decide.{dec_lt}
use native.Mathlib.Omega.{arith}
use Rattle.std.proofs.Math.Dec.{eqb}
use Rattle.std.proofs.Math.ListN.{length, set}
use borrow.Author.Tests.{lt-ltb, le-ltb, eq-eqb, ne_eqb, eqb-true, eqb-false}
use Rattle.laws.specs.First.{first_to}
use Rattle.laws.specs.First.Properties.{first_none, first_cong, first_skip, first_new}
use Rattle.laws.specs.Ranking.{sooner}
use Rattle.laws.specs.Ranking.Properties.{rank_cong}
use Rattle.laws.specs.Written.{written}
use Rattle.laws.specs.Written.Properties.{written_cong, written_length, written_set, stored_at, stored_most}
use Rattle.plan.specs.declared.Plan.{Plan}
use Rattle.plan.specs.declared.Kind.{Kind}
use Rattle.plan.specs.Order.{budget_of, InOrder}
use Rattle.layout.specs.Cards.{cards_below}
use Rattle.layout.specs.Cards.Properties.{below_start}
use Rattle.layout.specs.Layout.{first_cell}
use Rattle.layout.proofs.Laws.Layout.{first_start, first_next, last_most, cells_most, below_cards}
use Rattle.unit.specs.declared.Unit.{Unit}
use Rattle.seats.specs.Seats.{at, rank_by, seat_at, seat_by, seats_by}
use Rattle.seats.specs.Seats.Properties.{seats_found}
use Rattle.rack.specs.declared.State.{State}
use Rattle.rack.specs.State.{unit_of, kind_at, kind_places, project_places, InUse, ProjectInUse}
use Rattle.rack.specs.Form.{Ready}
use Rattle.rack.specs.View.{cards_held, lowest_card, end_card, rank_of}
use Rattle.rack.proofs.Laws.View.{lowest_held}
use Rattle.rack.specs.Rank.{until, working, active, outranks, view_of, own_view, rank, served}
use Rattle.rack.proofs.Laws.Rank.{sooner_agree, working_left, idle_left, active_working, active_is, active_idle}
use Rattle.rack.proofs.Laws.Rank.{served_rank, idle_unserved, unserved_rank, in_frame}
use Rattle.rack.specs.Row.{takes, row_byte, row_over}
use Rattle.rack.proofs.Laws.Row.{row_card, row_first, served_takes, takes_served, takes_below, card_kind, over_written}
use Rattle.rack.specs.Seat.{idle, seated, works_for, works_of, lowest_at, end_at, seats_of, seat_of}

-- ---- the walk over the projects of a plan in order: cell is the first cell of project j, and r how many cards stand below its end

module _ (p : Plan) (o : InOrder p) (slice : ℕ) (in_frame : slice < p.frame) where
  -- the first project's cards go on from card 0
  pub cards_start : 0 ≡ lowest_at p slice 0
  unfolding lowest_at
  cards_start = sym (rw (first_start p) (below_start p.frame slice in_frame))

  module _ (cell j : ℕ) (is : cell ≡ first_cell p j) where
    pub cell_next : cell + budget_of p j ≡ first_cell p (j + 1)
    cell_next = omega (arith, first_next p j)

    pub cell_small : j < p.projects → cell + budget_of p j < 65536
    cell_small l = omega (arith, last_most p o j l, cells_most p o)

    module _ (r : ℕ) (below : r ≡ cards_below p.frame (cell + budget_of p j) slice) where
      pub card_ends : r ≡ end_at p slice j
      unfolding end_at
      card_ends = below ∙ ap (λ (x : ℕ). cards_below p.frame (x + budget_of p j) slice) is

      -- the next project's cards go on from there
      pub card_next : r ≡ lowest_at p slice (j + 1)
      unfolding lowest_at
      card_next = below ∙ ap (λ (x : ℕ). cards_below p.frame x slice) cell_next

      pub card_small : j < p.projects → r < 256
      unfolding lowest_at
      card_small l =
          let most = rw (mod-eq_of_lt in_frame) at (below_cards p o slice (j + 1) (omega arith)) in
          omega (arith, card_next, most, o.counts.cards_most)

-- they are those of the projects' views

lowest_view : (s : State) (j : ℕ) → lowest_at s.plan s.slice j ≡ lowest_card (view_of s j)
unfolding lowest_at lowest_card view_of
lowest_view s j = refl

end_view : (s : State) (j : ℕ) → end_at s.plan s.slice j ≡ end_card (view_of s j)
unfolding end_at end_card view_of
end_view s j = refl

-- ---- a kind's seat is its project's card of its rank

pub seat_served : (s : State) (i : ℕ) → served s i ≡ true → seat_of s i ≡ lowest_card (own_view s i) + rank s i + 1
unfolding seat_of
seat_served s i e = rw e

pub seat_unserved : (s : State) (i : ℕ) → served s i ≡ false → seat_of s i ≡ 0
unfolding seat_of
seat_unserved s i e = rw e

pub works_nothing : (v : Unit) (k : Kind) → v.left ≡ 0 → works_for v k ≡ 0
unfolding works_for
works_nothing v k e = rw (eq-eqb v.left 0 e)

pub works_something : (v : Unit) (k : Kind) → (v.left ≡ 0 → ⊥) → works_for v k ≡ k.project + 1
unfolding works_for
works_something v k h = rw (ne_eqb v.left 0 h)

-- ---- small facts of the below

plus_one : (a b : ℕ) → eqb (a + 1) (b + 1) ≡ eqb a b
plus_one a b = go (eqb a b) refl
  where
    go : (t : Bool) → eqb a b ≡ t → eqb (a + 1) (b + 1) ≡ eqb a b
    go true e = eq-eqb (a + 1) (b + 1) (ap (λ (x : ℕ). x + 1) (eqb-true a b e)) ∙ sym e
    go false e = ne_eqb (a + 1) (b + 1) (λ h. eqb-false a b e (omega arith)) ∙ sym e

less_one : (a : ℕ) → a + 1 - 1 ≡ a
less_one a = omega arith

-- the card of a kind's rank is below the end of its project's exactly when the kind is served
seat_is : (s : State) → Ready s → (i : ℕ) → working s i ≡ true →
    seat_at (lowest_card (own_view s i) + rank s i) (end_card (own_view s i)) ≡ seat_of s i
unfolding seat_at
seat_is s r i w = go (served s i) refl
  where
    card : ℕ
    card = lowest_card (own_view s i) + rank s i

    end : ℕ
    end = end_card (own_view s i)

    held : lowest_card (own_view s i) + cards_held (own_view s i) ≡ end
    held = lowest_held (own_view s i) (in_frame s r (kind_at s i).project)

    go : (b : Bool) → served s i ≡ b → cond (ltb card end) (card + 1) 0 ≡ seat_of s i
    go true p = rw (lt-ltb card end (omega (arith, held, served_rank s i p))) (sym (seat_served s i p))
    go false p = rw (le-ltb card end (omega (arith, held, unserved_rank s i w p))) (sym (seat_unserved s i p))

module _ (s : State) (r : Ready s) where
  abbrev kinds : ℕ
  kinds = kind_places s

  abbrev project : ℕ → ℕ
  project i = (kind_at s i).project

  its_project : (i : ℕ) → InUse s i → ProjectInUse s (project i)
  its_project i l = (r.order.kind_at_law i l).its_project

  -- the arrays hold what the state says
  module _ (works untils low end : List ℕ)
      (ew : (k : ℕ) → k < kinds → at works k ≡ works_of s k)
      (ed : (k : ℕ) → k < kinds → working s k ≡ true → at untils k ≡ until s k)
      (el : (j : ℕ) → j < project_places s → at low j ≡ lowest_card (view_of s j))
      (ee : (j : ℕ) → j < project_places s → at end j ≡ end_card (view_of s j)) where
    works_working : (k : ℕ) → k < kinds → working s k ≡ true → at works k ≡ project k + 1
    works_working k l w = ew k l ∙ works_something (unit_of s k) (kind_at s k) (λ e. omega (arith, working_left s k w))

    works_idle : (k : ℕ) → k < kinds → working s k ≡ false → at works k ≡ 0
    works_idle k l w = ew k l ∙ works_nothing (unit_of s k) (kind_at s k) (idle_left s k w)

    -- the same project, with slices left
    same_project : (i k : ℕ) → i < kinds → k < kinds → working s i ≡ true → eqb (at works k) (at works i) ≡ active s (project i) k
    same_project i k l m w = go (working s k) refl
      where
        go : (b : Bool) → working s k ≡ b → eqb (at works k) (at works i) ≡ active s (project i) k
        go true e = rw (works_working k m e, works_working i l w) (plus_one (project k) (project i) ∙ sym (active_is s (project i) k e))
        go false e =
            rw (works_idle k m e, works_working i l w) (ne_eqb 0 (project i + 1) (λ z. omega arith) ∙ sym (active_idle s (project i) k e))

    ranks_agree : (i : ℕ) → i < kinds → working s i ≡ true → rank_by works untils kinds i ≡ rank s i
    unfolding rank_by rank rank_of view_of outranks
    ranks_agree i l w =
        let mine : ℕ → Bool = λ k. eqb (at works k) (at works i) in
        rank_cong kinds mine (active s (project i)) (sooner (at untils)) (sooner (until s)) i
        (λ k m. same_project i k l m w)
        (λ k m e. sooner_agree (at untils) (until s) k i
        (ed k m (active_working s (project i) k (sym (same_project i k l m w) ∙ e))) (ed i l w))

    seat_found : (i : ℕ) → i < kinds → seat_by works untils low end kinds i ≡ seat_of s i
    unfolding seat_by
    seat_found i l = go (working s i) refl
      where
        go : (b : Bool) → working s i ≡ b → seat_by works untils low end kinds i ≡ seat_of s i
        go true w =
            let p = its_project i l in
            let some = ne_eqb (project i + 1) 0 (λ z. omega arith) in
            let most = le-ltb 8 (project i + 1) (omega (arith, r.order.counts.projects_most)) in
            rw (works_working i l w, some, most, ranks_agree i l w, less_one (project i), el (project i) p, ee (project i) p)
            (seat_is s r i w)
        go false w = rw (works_idle i l w) (sym (seat_unserved s i (idle_unserved s i w)))

  pub slice_in_frame : s.slice < s.plan.frame
  slice_in_frame = r.form.slice_below

  -- ---- the arrays as the code fills them: of kinds with nothing left untils may say anything

  pub seats_are : (works untils low end seats : List ℕ) (n : ℕ) → n ≡ kinds →
      ((k : ℕ) → k < kinds → at works k ≡ works_of s k) → ((k : ℕ) → k < kinds → working s k ≡ true → at untils k ≡ until s k) →
      low ≡ written (project_places s) (lowest_at s.plan s.slice) (replicate 8 0) →
      end ≡ written (project_places s) (end_at s.plan s.slice) (replicate 8 0) →
      seats ≡ seats_by works untils low end n → seats ≡ seats_of s
  unfolding seats_of
  seats_are works untils low end seats n en ew ed el ee es =
      seats_found works untils low end kinds seats r.order.counts.kinds_most (es ∙ ap (seats_by works untils low end) en)
      ∙ written_cong kinds (seat_by works untils low end kinds) (seat_of s) (replicate 16 0) each
    where
      found : (l : List ℕ) (f : ℕ → ℕ) → l ≡ written (project_places s) f (replicate 8 0) → (j : ℕ) → j < project_places s → at l j ≡ f j
      found l f e j q = ap (λ (x : List ℕ). at x j) e ∙ stored_at (project_places s) 8 f j q r.order.counts.projects_most

      each : (i : ℕ) → i < kinds → seat_by works untils low end kinds i ≡ seat_of s i
      each =
          seat_found works untils low end ew ed
          (λ j l. found low (lowest_at s.plan s.slice) el j l ∙ lowest_view s j)
          (λ j l. found end (end_at s.plan s.slice) ee j l ∙ end_view s j)

  pub seats_at : (i : ℕ) → InUse s i → at (seats_of s) i ≡ seat_of s i
  unfolding seats_of
  seats_at i l = stored_at kinds 16 (seat_of s) i l r.order.counts.kinds_most

  -- ---- the row from the seats

  -- a kind takes a card exactly when its seat is that card's number plus 1
  pub takes_seat : (i card : ℕ) → InUse s i → takes s i card ≡ eqb (seat_of s i) (card + 1)
  takes_seat i card l = go (takes s i card) refl
    where
      seat : (b : Bool) → served s i ≡ b → seat_of s i ≡ card + 1 → takes s i card ≡ true
      seat true e q = served_takes s r i card e (omega (arith, seat_served s i e))
      seat false e q = absurd (omega (arith, seat_unserved s i e))

      go : (b : Bool) → takes s i card ≡ b → takes s i card ≡ eqb (seat_of s i) (card + 1)
      go true e =
          let sits = seat_served s i (takes_served s r i card e) in
          e ∙ sym (eq-eqb (seat_of s i) (card + 1) (omega (arith, sits, row_card s r i card e)))
      go false e = e ∙ sym (ne_eqb (seat_of s i) (card + 1) (λ q. true≢false (sym (seat (served s i) refl q) ∙ e)))

  -- a seat is one of the rack's cards
  pub seat_most : (i : ℕ) → InUse s i → seat_of s i ≤ s.plan.cards
  seat_most i l = go (served s i) refl
    where
      go : (b : Bool) → served s i ≡ b → seat_of s i ≤ s.plan.cards
      go true e =
          let card = lowest_card (own_view s i) + rank s i in
          omega (arith, seat_served s i e, takes_below s r i card l (served_takes s r i card e refl))
      go false e = omega (arith, seat_unserved s i e)

  -- and no two kinds have one
  seat_one : (i k card : ℕ) → InUse s i → InUse s k → seat_of s i ≡ card + 1 → seat_of s k ≡ card + 1 → i ≡ k
  seat_one i k card l m p q =
      let one = takes_seat i card l ∙ eq-eqb (seat_of s i) (card + 1) p in
      let other = takes_seat k card m ∙ eq-eqb (seat_of s k) (card + 1) q in
      card_kind s r i k card l m one other

  module _ (seat : ℕ → ℕ) (es : (k : ℕ) → k < kinds → seat k ≡ seat_of s k) (bytes : List ℕ) (room : s.plan.cards ≤ length bytes) where
    -- the byte of a card once the kinds below i are seated
    filled : ℕ → ℕ → ℕ
    filled i card = first_to i (λ number. eqb (seat (pred number)) (card + 1))

    filled_other : (i card : ℕ) → (seat i ≡ card + 1 → ⊥) → filled (suc i) card ≡ filled i card
    unfolding filled
    filled_other i card h = first_skip i (λ number. eqb (seat (pred number)) (card + 1)) (ne_eqb (seat i) (card + 1) h)

    filled_here : (i card : ℕ) → i < kinds → seat i ≡ card + 1 → filled (suc i) card ≡ suc i
    unfolding filled
    filled_here i card l e = first_new i (λ number. eqb (seat (pred number)) (card + 1)) (eq-eqb (seat i) (card + 1) e) earlier
      where
        earlier : (k : ℕ) → 0 < k → k ≤ i → eqb (seat (pred k)) (card + 1) ≡ true → ⊥
        earlier zero p q t = omega arith
        earlier (suc k) p q t =
            omega (arith, seat_one i k card l (omega arith) (sym (es i l) ∙ e) (sym (es k (omega arith)) ∙ eqb-true (seat k) (card + 1) t))

    -- the row once the kinds below i are seated
    abbrev up_to : ℕ → List ℕ
    up_to i = written s.plan.cards (filled i) bytes

    abbrev So : ℕ → Type 0
    So i = seated seat i (written s.plan.cards idle bytes) ≡ up_to i

    seated_filled : (i : ℕ) → i ≤ kinds → So i
    unfolding seated filled
    seated_filled zero l =
        written_cong s.plan.cards idle (filled 0) bytes (λ card q. first_none (λ number. eqb (seat (pred number)) (card + 1)))
    seated_filled (suc i) l =
        elim (dec_lt 0 (seat i)) [
          | yes p ↦ sits p (seated_filled i (omega arith))
          | no p ↦ stands (omega arith) (seated_filled i (omega arith))
        ]
      where
        stands : seat i ≡ 0 → So i → So (suc i)
        stands e rec =
            rw (eq-eqb (seat i) 0 e) (rec ∙ written_cong s.plan.cards (filled i) (filled (suc i)) bytes
            (λ card q. sym (filled_other i card (λ z. omega arith))))

        sits : 0 < seat i → So i → So (suc i)
        sits p rec =
            let low-one : seat i ≡ seat i - 1 + 1 = omega arith in
            let here = add-one i ∙ sym (filled_here i (seat i - 1) l low-one) in
            let fits : seat i - 1 < s.plan.cards = omega (arith, seat_most i l, es i l) in
            rw (ne_eqb (seat i) 0 (λ z. omega arith), rec)
            (ap (λ (v : ℕ). set (up_to i) (seat i - 1) v) here
            ∙ written_set s.plan.cards (filled i) (filled (suc i)) bytes 0 (seat i - 1) fits room
            (λ card q z. filled_other i card (λ t. z (omega arith))))

    -- what is stored is the row
    pub row_seated : seated seat kinds (written s.plan.cards idle bytes) ≡ row_over s bytes
    unfolding filled
    row_seated =
        seated_filled kinds (omega arith)
        ∙ written_cong s.plan.cards (filled kinds) (row_byte s) bytes (λ card q. first card)
        ∙ over_written s bytes room
      where
        same : (card number : ℕ) → 0 < number → number ≤ kinds → eqb (seat (pred number)) (card + 1) ≡ takes s (pred number) card
        same card zero p q = absurd (omega arith)
        same card (suc i) p q = ap (λ (x : ℕ). eqb x (card + 1)) (es i q) ∙ sym (takes_seat i card q)

        first : (card : ℕ) → filled kinds card ≡ row_byte s card
        first card =
            first_cong kinds (λ number. eqb (seat (pred number)) (card + 1)) (λ number. takes s (pred number) card) (same card)
            ∙ sym (row_first s r card)

-- ---- the cards cleared

front_idle : (n : ℕ) (bytes : List ℕ) → n ≤ length bytes → replicate n 0 ++ drop n bytes ≡ written n idle bytes
unfolding written
front_idle zero bytes l = sym (fill_none bytes 0)
front_idle (suc n) bytes l =
    ap (λ (k : ℕ). replicate k 0 ++ drop k bytes) (sym (add-one n)) ∙ sym (fill_more n 0 bytes l)
    ∙ ap (λ (m : List ℕ). set m n 0) (front_idle n bytes (omega arith))

pub cards_cleared : (n : ℕ) (bytes front : List ℕ) → n ≤ length bytes → front ≡ replicate (length (take n bytes)) 0 →
    front ++ drop n bytes ≡ written n idle bytes
cards_cleared n bytes front l e =
    ap (λ (m : List ℕ). m ++ drop n bytes) (e ∙ ap (λ (k : ℕ). replicate k 0) (length-take-le n bytes l)) ∙ front_idle n bytes l

-- ---- the steps of the loop that seats the kinds

module _ (seat : List ℕ) (i : ℕ) (bytes m : List ℕ) where
  pub seated_none : bytes ≡ seated (at seat) 0 bytes
  unfolding seated
  seated_none = refl

  pub seated_idle : m ≡ seated (at seat) i bytes → at seat i ≡ 0 → m ≡ seated (at seat) (i + 1) bytes
  unfolding seated
  seated_idle e z = rw (add-one i, eq-eqb (at seat i) 0 z) e

  pub seated_more : m ≡ seated (at seat) i bytes → (at seat i ≡ 0 → ⊥) → set m (at seat i - 1) (i + 1) ≡ seated (at seat) (i + 1) bytes
  unfolding seated
  seated_more e z =
      ap (λ (l : List ℕ). set l (at seat i - 1) (i + 1)) e
      ∙ sym (ap (λ (k : ℕ). seated (at seat) k bytes) (add-one i) ∙ rw (ne_eqb (at seat i) 0 z))

  pub seated_stop : (n : ℕ) → m ≡ seated (at seat) i bytes → i ≤ n → n ≤ i → m ≡ seated (at seat) n bytes
  seated_stop n e a b = let q : i ≡ n = omega arith in e ∙ ap (λ (k : ℕ). seated (at seat) k bytes) q

-- ---- the row written: the cards are cleared, and the kinds seated

module _ (s : State) (r : Ready s) (seats bytes cleared : List ℕ) (room : s.plan.cards ≤ length bytes)
    (es : seats ≡ seats_of s) (ec : cleared ≡ written s.plan.cards idle bytes) where
  -- every seat is a place of the lent row
  pub seats_fit : (k : ℕ) → at seats k ≤ length cleared
  unfolding seats_of
  seats_fit k =
      let l : length cleared ≡ length bytes = ap length ec ∙ written_length s.plan.cards idle bytes in
      let most : (i : ℕ) → InUse s i → seat_of s i ≤ length cleared = λ i q. omega (arith, seat_most s r i q) in
      rw es (stored_most (kind_places s) 16 (length cleared) (seat_of s) most r.order.counts.kinds_most k)

  -- n is how many places the code looks through
  pub row_written : (after : List ℕ) (n : ℕ) → n ≡ kind_places s → after ≡ seated (at seats) n cleared → after ≡ row_over s bytes
  row_written after n en ea =
      ea
      ∙ ap (λ (k : ℕ). seated (at seats) k cleared) en
      ∙ ap (λ (l : List ℕ). seated (at seats) (kind_places s) l) ec
      ∙ row_seated s r (at seats) (λ k l. ap (λ (m : List ℕ). at m k) es ∙ seats_at s r k l) bytes room
