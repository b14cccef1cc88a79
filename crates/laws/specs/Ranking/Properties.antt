-- Laws of ranks: no two members share one, each number below their count is one, and h of them are the first h.
-- Assumes nothing.
use Rattle.std.specs.Prelude.{◌≡◌, ◌&&◌}
use Rattle.std.proofs.Math.Path.{refl, sym}
use Rattle.std.proofs.Common.{ap, ◌∙◌, true≢false, arith}
use Rattle.std.proofs.Math.Bool.{Bool, true, false, cond}
use Rattle.std.proofs.lemmas.Bool.{false≢true}
use Prim.Native.Nat.{ℕ, zero, suc, ◌+◌, ◌≤◌, ◌<◌, min}
use Rattle.std.proofs.Math.Decide.{dec_le, dec_lt}
use Rattle.std.proofs.Math.Nat.{zero-min}
use Rattle.std.proofs.Math.Dec.{ltb, eqb}
use borrow.Author.Tests.{ltb-true, eqb-true, lt-ltb, le-ltb, eq-eqb, ne_eqb}
use Rattle.laws.specs.Count.{count_to}
use Rattle.laws.specs.Tests.{and_left, and_right, and_both}
use Rattle.laws.specs.Count.Properties.{count_le_count, count_cong, count_lt_count, count_some, count_extra, count_never, count_one}
use Rattle.laws.specs.Count.Properties.{count_parts}
use Rattle.laws.specs.Ranking.{Order, rank_in, first_in, sooner}

-- the rank sees only the members, and what is above them
module _ (n : ℕ) (member member' : ℕ → Bool) (above above' : ℕ → ℕ → Bool) (i : ℕ) where
  pub rank_cong : ((j : ℕ) → j < n → member j ≡ member' j) → ((j : ℕ) → j < n → member j ≡ true → above j i ≡ above' j i) →
      rank_in n member above i ≡ rank_in n member' above' i
  unfolding rank_in
  rank_cong e h = count_cong n (λ j. member j && above j i) (λ j. member' j && above' j i) (λ j l. go j (member j) (e j l) (h j l))
    where
      go : (j : ℕ) (b : Bool) → b ≡ member' j → (b ≡ true → above j i ≡ above' j i) → (b && above j i) ≡ (member' j && above' j i)
      go j true p q = rw (← p) (q refl)
      go j false p q = rw (← p)

-- ---- who is one of the first h

module _ (n : ℕ) (member : ℕ → Bool) (above : ℕ → ℕ → Bool) where
  abbrev rank : ℕ → ℕ
  rank i = rank_in n member above i

  abbrev first : ℕ → ℕ → Bool
  first h i = first_in n member above h i

  pub first_of : (h i : ℕ) → member i ≡ true → rank i < h → first h i ≡ true
  unfolding first_in
  first_of h i e l = and_both (member i) (ltb (rank i) h) e (lt-ltb (rank i) h l)

  pub first_member : (h i : ℕ) → first h i ≡ true → member i ≡ true
  unfolding first_in
  first_member h i e = and_left (member i) (ltb (rank i) h) e

  pub first_rank : (h i : ℕ) → first h i ≡ true → rank i < h
  unfolding first_in
  first_rank h i e = ltb-true (rank i) h (and_right (member i) (ltb (rank i) h) e)

  pub not_first : (h i : ℕ) → member i ≡ true → first h i ≡ false → h ≤ rank i
  not_first h i e f = elim (dec_lt (rank i) h) [ yes l ↦ absurd (false≢true (sym f ∙ first_of h i e l)) | no l ↦ omega arith ]

  -- a member of rank h
  abbrev pub OfRank : ℕ → Type 0
  OfRank h = (i : ℕ) × (i < n) × (member i ≡ true) × (rank i ≡ h)

  -- ---- in an order

  module _ (order : Order above) where
    -- who is above has a lower rank
    pub rank_lt : (j i : ℕ) → j < n → member j ≡ true → above j i ≡ true → rank j < rank i
    unfolding rank_in
    rank_lt j i l e a =
        count_lt_count n (λ k. member k && above k j) (λ k. member k && above k i) j l (rw (e, order.never_itself j))
        (and_both (member j) (above j i) e a) on
      where
        on : (k : ℕ) → k < n → (member k && above k j) ≡ true → (member k && above k i) ≡ true
        on k m t =
            and_both (member k) (above k i) (and_left (member k) (above k j) t) (order.onward k j i (and_right (member k) (above k j) t) a)

    -- a rank is below the count of members
    pub rank_lt_members : (i : ℕ) → i < n → member i ≡ true → rank i < count_to n member
    unfolding rank_in
    rank_lt_members i l e =
        count_lt_count n (λ k. member k && above k i) member i l (rw (e, order.never_itself i)) e
        (λ k m t. and_left (member k) (above k i) t)

    -- a lower rank means above
    pub above_of_rank : (j i : ℕ) → i < n → member i ≡ true → rank j < rank i → above j i ≡ true
    above_of_rank j i l e r = go (above j i) (above i j) refl refl
      where
        go : (a b : Bool) → above j i ≡ a → above i j ≡ b → above j i ≡ true
        go true b p q = p
        go false true p q = absurd (omega (arith, rank_lt i j l e q))
        go false false p q = absurd (omega (arith, ap (rank_in n member above) (order.total j i p q)))

    -- no two members share a rank
    pub rank_distinct : (i j : ℕ) → i < n → j < n → member i ≡ true → member j ≡ true → rank i ≡ rank j → i ≡ j
    rank_distinct i j l m p q e = go (above i j) (above j i) refl refl
      where
        go : (a b : Bool) → above i j ≡ a → above j i ≡ b → i ≡ j
        go true b s t = absurd (omega (arith, rank_lt i j l p s))
        go false true s t = absurd (omega (arith, rank_lt j i m q t))
        go false false s t = order.total i j s t

    -- ---- the first h, one rank after the other

    of_rank : ℕ → ℕ → Bool
    of_rank h i = member i && eqb (rank i) h

    of_rank_one : (h : ℕ) → count_to n (of_rank h) ≤ 1
    unfolding of_rank
    of_rank_one h =
        count_one n (of_rank h) (λ i j l m p q. rank_distinct i j l m (and_left (member i) (eqb (rank i) h) p)
        (and_left (member j) (eqb (rank j) h) q) (omega (arith, has i p, has j q)))
      where
        has : (i : ℕ) → (member i && eqb (rank i) h) ≡ true → rank i ≡ h
        has i p = eqb-true (rank i) h (and_right (member i) (eqb (rank i) h) p)

    first_none : count_to n (first 0) ≡ 0
    unfolding first_in
    first_none = count_never n (first 0) (λ i l. go (member i) (rank i))
      where
        go : (b : Bool) (r : ℕ) → (b && ltb r 0) ≡ false
        go true r = le-ltb r 0 (omega arith)
        go false r = refl

    first_more : (h : ℕ) → count_to n (first (suc h)) ≡ count_to n (first h) + count_to n (of_rank h)
    unfolding first_in of_rank
    first_more h = count_parts n (first h) (of_rank h) (first (suc h)) (λ i l. go (member i) (rank i))
      where
        at_most : (r : ℕ) → r ≤ h → cond (ltb r (suc h)) 1 0 ≡ cond (ltb r h) 1 0 + cond (eqb r h) 1 0
        at_most r p =
            rw (lt-ltb r (suc h) (omega arith)) (elim (dec_lt r h)
            [ yes q ↦ rw (lt-ltb r h q, ne_eqb r h (λ e. omega arith)) | no q ↦ rw (le-ltb r h (omega arith), eq-eqb r h (omega arith)) ])

        go : (b : Bool) (r : ℕ) → cond (b && ltb r (suc h)) 1 0 ≡ cond (b && ltb r h) 1 0 + cond (b && eqb r h) 1 0
        go false r = refl
        go true r =
            elim (dec_le r h) [
              | yes p ↦ at_most r p
              | no p ↦ rw (le-ltb r (suc h) (omega arith), le-ltb r h (omega arith), ne_eqb r h (λ e. omega arith))
            ]

    first_le : (h : ℕ) → count_to n (first h) ≤ h
    first_le zero = omega (arith, first_none)
    first_le (suc h) = omega (arith, first_le h, first_more h, of_rank_one h)

    -- of more than h members, one is not of the first h
    beyond : (h : ℕ) (f : ℕ → Bool) → ((j : ℕ) → f j ≡ true → member j ≡ true) → h < count_to n f →
        (j : ℕ) × (j < n) × (f j ≡ true) × (h ≤ rank j)
    beyond h f m p =
        let t = count_extra n f (first h) (omega (arith, first_le h)) in (t.0, t.1, t.2, not_first h t.0 (m t.0 t.2) t.3)

    -- so a member that is not of the first h has one of rank h, itself or above it
    rank_down : (h d i : ℕ) → i < n → member i ≡ true → h ≤ rank i → rank i ≤ h + d → OfRank h
    unfolding rank_in
    rank_down h zero i l e p q = (i, l, e, omega arith)
    rank_down h (suc d) i l e p q =
        elim (dec_le (rank i) h) [
          | yes s ↦ (i, l, e, omega arith)
          | no s ↦ go (beyond h over (λ j t. and_left (member j) (above j i) t) (omega arith)) (rank_down h d)
        ]
      where
        over : ℕ → Bool
        over j = member j && above j i

        go : ((j : ℕ) × (j < n) × (over j ≡ true) × (h ≤ rank j)) →
            ((j : ℕ) → j < n → member j ≡ true → h ≤ rank j → rank j ≤ h + d → OfRank h) → OfRank h
        go t rec =
            let m = and_left (member t.0) (above t.0 i) t.2 in
            rec t.0 t.1 m t.3 (omega (arith, rank_lt t.0 i t.1 m (and_right (member t.0) (above t.0 i) t.2)))

    -- each number below the count of members is a rank
    pub rank_at : (h : ℕ) → h < count_to n member → OfRank h
    rank_at h p = let t = beyond h member (λ j e. e) p in rank_down h (rank t.0) t.0 t.1 t.2 t.3 (omega arith)

    -- h of them are the first h, or all of them are
    pub first_count : (h : ℕ) → count_to n (first h) ≡ min h (count_to n member)
    unfolding of_rank
    first_count zero = first_none ∙ sym (zero-min (count_to n member))
    first_count (suc h) =
        elim (dec_lt h (count_to n member)) [
          | yes p ↦ omega (arith, first_count h, first_more h, of_rank_one h, found (rank_at h p))
          | no p ↦ omega (arith, first_count h, first_more h, members)
        ]
      where
        found : OfRank h → 0 < count_to n (of_rank h)
        found t =
            count_some n (of_rank h) t.0 t.1 (and_both (member t.0) (eqb (rank t.0) h) t.2 (eq-eqb (rank t.0) h t.3))

        members : count_to n (first (suc h)) ≤ count_to n member
        members = count_le_count n (first (suc h)) member (λ j l e. first_member (suc h) j e)

    -- one that is not of the first h has them all above it
    pub first_above : (h i : ℕ) → i < n → member i ≡ true → h ≤ rank i → count_to n (λ j. first h j && above j i) ≡ h
    first_above h i l e p =
        omega
        (arith, count_cong n (λ j. first h j && above j i) (first h) (λ j m. go j (first h j) refl), first_count h, rank_lt_members i l e)
      where
        go : (j : ℕ) (b : Bool) → first h j ≡ b → (b && above j i) ≡ b
        go j true t = above_of_rank j i l e (omega (arith, first_rank h j t))
        go j false t = refl

-- ---- by d, then by number

module _ (d : ℕ → ℕ) where
  pub sooner_le : (j i : ℕ) → sooner d j i ≡ true → d j ≤ d i
  unfolding sooner
  sooner_le j i e =
      elim (dec_le (d j) (d i)) [
        | yes p ↦ p
        | no p ↦ absurd (true≢false (sym e ∙ rw (le-ltb (d j) (d i) (omega arith), ne_eqb (d j) (d i) (λ q. omega arith))))
      ]

  pub sooner_tie : (j i : ℕ) → sooner d j i ≡ true → d i ≤ d j → j < i
  unfolding sooner
  sooner_tie j i e p =
      elim (dec_lt j i) [
        | yes q ↦ q
        | no q ↦ absurd (true≢false (sym e ∙ rw (le-ltb (d j) (d i) p, le-ltb j i (omega arith)) (both (eqb (d j) (d i)))))
      ]
    where
      both : (b : Bool) → (b && false) ≡ false
      both true = refl
      both false = refl

  pub sooner_of : (j i : ℕ) → d j ≤ d i → (d i ≤ d j → j < i) → sooner d j i ≡ true
  unfolding sooner
  sooner_of j i p q =
      elim (dec_lt (d j) (d i)) [
        | yes l ↦ rw (lt-ltb (d j) (d i) l)
        | no l ↦ rw (le-ltb (d j) (d i) (omega arith), eq-eqb (d j) (d i) (omega arith), lt-ltb j i (q (omega arith)))
      ]

  pub sooner_order : Order (sooner d)
  sooner_order = record { never_itself = never; onward = on; total = ties }
    where
      never : (i : ℕ) → sooner d i i ≡ false
      never i = go (sooner d i i) refl
        where
          go : (b : Bool) → sooner d i i ≡ b → b ≡ false
          go true e = absurd (omega (arith, sooner_tie i i e (omega arith)))
          go false e = refl

      on : (i j k : ℕ) → sooner d i j ≡ true → sooner d j k ≡ true → sooner d i k ≡ true
      on i j k a b =
          sooner_of i k (omega (arith, sooner_le i j a, sooner_le j k b))
          (λ l. omega (arith, sooner_tie i j a (omega (arith, sooner_le j k b)), sooner_tie j k b (omega (arith, sooner_le i j a))))

      later : (i j : ℕ) → sooner d i j ≡ false → d j ≤ d i
      later i j a =
          elim (dec_lt (d i) (d j)) [
            | yes p ↦ absurd (false≢true (sym a ∙ sooner_of i j (omega arith) (λ l. omega arith)))
            | no p ↦ omega arith
          ]

      higher : (i j : ℕ) → sooner d i j ≡ false → d i ≤ d j → j ≤ i
      higher i j a p = elim (dec_lt i j) [ yes q ↦ absurd (false≢true (sym a ∙ sooner_of i j p (λ l. q))) | no q ↦ omega arith ]

      ties : (i j : ℕ) → sooner d i j ≡ false → sooner d j i ≡ false → i ≡ j
      ties i j a b = omega (arith, higher i j a (later j i b), higher j i b (later i j a))
