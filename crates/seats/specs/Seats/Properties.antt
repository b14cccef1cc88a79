-- Laws of seats: by the ranks counted, what is stored are the seats.
-- Assumes nothing.
use Rattle.std.specs.Prelude.{◌≡◌, List, ℕ, ◌+◌, ◌-◌, ◌*◌, ◌≤◌, ◌<◌, set, replicate}
use Rattle.std.proofs.Common.{sym, ◌∙◌, arith}
use Rattle.std.proofs.lemmas.List.{get_or-replicate}
use borrow.Author.Tests.{lt-ltb, le-ltb, eq-eqb, ne_eqb}
use Rattle.laws.specs.Written.{written}
use Rattle.laws.specs.Written.Properties.{written_again, written_same}
use Rattle.seats.specs.Seats.{at, rank_by, seat_at, seat_by, seats_by}
use Rattle.seats.specs.Ranks.{at_or_after, Standings}
use Rattle.seats.specs.Ranks.Properties.{rank_left}

-- ---- a seat found: c is what is counted at the kind's standing or after it

module _ (low end first mine c : ℕ) (e : c ≡ mine) where
  pub card_below : low + (first - c) < end → low + (first - c) + 1 ≡ seat_at (low + (first - mine)) end
  unfolding seat_at
  card_below l = rw (lt-ltb (low + (first - mine)) end (rw e at l), e)

  pub card_past : end ≤ low + (first - c) → 0 ≡ seat_at (low + (first - mine)) end
  unfolding seat_at
  card_past l = rw (le-ltb (low + (first - mine)) end (rw e at l))

-- ---- kind i's seat among n, as it is stored or passed over

module _ (works until low end : List ℕ) (n : ℕ) where
  -- with the first k kinds' seats stored
  abbrev seated_to : ℕ → List ℕ
  seated_to k = written k (seat_by works until low end n) (replicate 16 0)

  module _ (i : ℕ) (m : List ℕ) (e : m ≡ seated_to i) (l : i < n) (b : n ≤ 16) where
    -- nothing is stored for one that sits nowhere
    unseated : seat_by works until low end n i ≡ 0 → m ≡ seated_to (i + 1)
    unseated z = written_same i (seat_by works until low end n) (replicate 16 0) m 0 e (z ∙ sym (get_or-replicate 16 i 0 0 (omega arith)))

    -- one that has nothing left
    pub unseated_idle : at works i ≡ 0 → m ≡ seated_to (i + 1)
    unfolding seat_by
    unseated_idle z = unseated (rw (eq-eqb (at works i) 0 z))

    -- one that works for none of eight projects
    pub unseated_strange : 8 < at works i → m ≡ seated_to (i + 1)
    unfolding seat_by
    unseated_strange z = unseated (rw (ne_eqb (at works i) 0 (λ y. omega (arith, y)), lt-ltb 8 (at works i) z))

    module _ (h : at works i ≡ 0 → ⊥) (g : at works i ≤ 8) where
      seat_is : seat_by works until low end n i ≡ seat_at (at low (at works i - 1) + rank_by works until n i) (at end (at works i - 1))
      unfolding seat_by
      seat_is = rw (ne_eqb (at works i) 0 h, le-ltb 8 (at works i) g)

      -- one whose project has no card
      pub unseated_project : at end (at works i - 1) ≤ at low (at works i - 1) → m ≡ seated_to (i + 1)
      unfolding seat_at
      unseated_project z =
          let past = le-ltb (at low (at works i - 1) + rank_by works until n i) (at end (at works i - 1)) (omega (arith, z)) in
          unseated (seat_is ∙ rw past)

      -- one whose project has: by the two counts
      pub seated : (r : List ℕ) (first x : ℕ) → Standings works until n r → first ≡ at_or_after r (at works i * 1048576) →
          x ≡ seat_at (at low (at works i - 1) + (first - at_or_after r (at r i))) (at end (at works i - 1)) →
          set m i x ≡ seated_to (i + 1)
      seated r first x st p s =
          written_again i (seat_by works until low end n) (replicate 16 0) m x e
          (s ∙ rw (rank_left works until n i r st l b h first p) (sym seat_is))

-- ---- every seat

module _ (works until low end : List ℕ) (n : ℕ) where
  pub seats_none : 16 < n → replicate 16 0 ≡ seats_by works until low end n
  unfolding seats_by
  seats_none l = rw (lt-ltb 16 n l)

  pub seats_all : (x : List ℕ) →
      n ≤ 16 →
      x ≡ written n (seat_by works until low end n) (replicate 16 0) →
      x ≡ seats_by works until low end n
  unfolding seats_by
  seats_all x l e = rw (le-ltb 16 n l) e

  pub seats_found : (x : List ℕ) → n ≤ 16 → x ≡ seats_by works until low end n →
      x ≡ written n (seat_by works until low end n) (replicate 16 0)
  unfolding seats_by
  seats_found x l e = rw (le-ltb 16 n l) at e
