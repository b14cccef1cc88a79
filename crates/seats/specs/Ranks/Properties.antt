-- Laws of ranks counted among standings: the steps of the loops, and that the difference of two counts is the rank.
-- Assumes nothing.
use Rattle.std.specs.Prelude.{◌≡◌, refl, ◌≢◌, Bool, false, ◌&&◌, ◌||◌, List, ℕ, ◌+◌, ◌-◌, ◌*◌, ◌/◌, ◌≤◌, ◌<◌, zero, suc, leb, ltb, eqb}
use Rattle.std.specs.Prelude.{get_or, set, replicate, Option, Some, None}
use Rattle.std.proofs.Common.{sym, ◌∙◌, get_or-set_same, get_or-set_other}
use Rattle.std.proofs.Math.Path.{ap}
use Rattle.std.proofs.Math.Bool.{cond}
use Rattle.std.proofs.Math.Decide.{dec_lt, ℕ_discrete}
use native.Mathlib.Omega.{arith}
use Rattle.std.proofs.Math.ListN.{length-set}
use Rattle.std.proofs.lemmas.List.{length-replicate}
use borrow.Author.Tests.{lt-ltb, le-ltb, eq-eqb, ne_eqb, le-leb, lt-leb}
use Rattle.laws.specs.Count.{count_to}
use Rattle.laws.specs.Count.Properties.{
  count_cong,
  count_split,
  count_parts,
  count_never,
  count_le,
  count_yes,
  count_no,
  count_stop,
  between_low,
  between_high,
}
use Rattle.laws.specs.Ranking.{rank_in, sooner}
use Rattle.laws.specs.Written.Properties.{written_none, written_again, stored_at, stored_past}
use Rattle.seats.specs.Seats.{at, rank_by}
use Rattle.seats.specs.Ranks.{least_of, standing_of, reaches, at_or_after, rank_among, Within28Bits, Standing, Standings, Known, Firsts}

-- ---- one standing

-- it has 28 bits
standing_most : (works until number : ℕ) → works < 256 → until < 65536 → number < 16 → standing_of works until number < 268435456
unfolding standing_of least_of
standing_most works until number w u n = omega arith

-- ---- two compared

-- what lies from a project's least up to the standing of one of its kinds are the kinds of the project that go before
between_is : (w u k v x i : ℕ) → u < 65536 → k < 16 → v < 65536 → i < 16 →
    (leb (least_of w) (standing_of x v k) && ltb (standing_of x v k) (standing_of w u i)) ≡ (eqb x w && (ltb v u || (eqb v u && ltb k i)))
unfolding standing_of least_of
between_is w u k v x i a b c d = elim (ℕ_discrete x w) [ yes q ↦ same q | no q ↦ rw (ne_eqb x w q) (apart q (dec_lt x w)) ]
  where
    least : ℕ
    least = least_of w

    own : ℕ
    own = standing_of w u i

    apart : x ≢ w → Dec (x < w) → (leb least (standing_of x v k) && ltb (standing_of x v k) own) ≡ false
    apart q (yes l) = between_low least own (standing_of x v k) (omega arith)
    apart q (no l) = between_high least own (standing_of x v k) (omega arith)

    first : Dec (v < u) → ltb (standing_of w v k) own ≡ (ltb v u || (eqb v u && ltb k i))
    first (yes l) = lt-ltb (standing_of w v k) own (omega arith) ∙ sym (rw (lt-ltb v u l))
    first (no l) =
        elim (ℕ_discrete v u) [
          | yes q ↦ tied q (dec_lt k i)
          | no q ↦ le-ltb (standing_of w v k) own (omega arith) ∙ sym (rw (le-ltb v u (omega arith), ne_eqb v u q))
        ]
      where
        tied : v ≡ u → Dec (k < i) → ltb (standing_of w v k) own ≡ (ltb v u || (eqb v u && ltb k i))
        tied q (yes m) = lt-ltb (standing_of w v k) own (omega arith) ∙ sym (rw (le-ltb v u (omega arith), eq-eqb v u q, lt-ltb k i m))
        tied q (no m) =
            le-ltb (standing_of w v k) own (omega arith) ∙ sym (rw (le-ltb v u (omega arith), eq-eqb v u q, le-ltb k i (omega arith)))

    same : x ≡ w → (leb least (standing_of x v k) && ltb (standing_of x v k) own) ≡ (eqb x w && (ltb v u || (eqb v u && ltb k i)))
    same q = rw (q, eq-eqb w w refl, le-leb least (standing_of w v k) (omega arith)) (first (dec_lt v u))

-- ---- two counts compared

-- whether kind k's standing is low or after it, and before high
abbrev between : List ℕ → ℕ → ℕ → ℕ → Bool
between r low high k = leb low (at r k) && ltb (at r k) high

module _ (r : List ℕ) (low high : ℕ) (l : low ≤ high) where
  -- by as many as lie between does the lower one's count exceed the higher one's
  at_or_after_between : at_or_after r low ≡ at_or_after r high + count_to 16 (between r low high)
  unfolding at_or_after reaches
  at_or_after_between =
      count_parts 16 (reaches r high) (between r low high) (reaches r low) (λ k _. each k (dec_lt (at r k) low) (dec_lt (at r k) high))
    where
      each : (k : ℕ) → Dec (at r k < low) → Dec (at r k < high) →
          cond (leb low (at r k)) 1 0 ≡ cond (leb high (at r k)) 1 0 + cond (between r low high k) 1 0
      each k (yes p) q = rw (lt-leb low (at r k) p, lt-leb high (at r k) (omega arith))
      each k (no p) (yes q) = rw (le-leb low (at r k) (omega arith), lt-leb high (at r k) q, lt-ltb (at r k) high q)
      each k (no p) (no q) =
          rw (le-leb low (at r k) (omega arith), le-leb high (at r k) (omega arith), le-ltb (at r k) high (omega arith))

  at_or_after_le : at_or_after r high ≤ at_or_after r low
  at_or_after_le = omega (arith, at_or_after_between)

-- ---- the standings as they are filled

pub standings_none : (works until : List ℕ) → Standings works until 0 (replicate 16 0)
standings_none works until = record {
  stored = written_none (λ k. standing_of (at works k) (at until k) k) (replicate 16 0);
  works_small = λ k l. absurd (omega arith);
  until_small = λ k l. absurd (omega arith);
}

pub standings_again : (works until r : List ℕ) (i v : ℕ) → Standings works until i r → Standing (at works i) (at until i) i v →
    Standings works until (i + 1) (set r i v)
standings_again works until r i v s t = record {
  stored = written_again i (λ k. standing_of (at works k) (at until k) k) (replicate 16 0) r v s.stored t.value;
  works_small = λ k l. elim (ℕ_discrete k i) [ yes q ↦ rw q t.works_small | no q ↦ s.works_small k (omega arith) ];
  until_small = λ k l. elim (ℕ_discrete k i) [ yes q ↦ rw q t.until_small | no q ↦ s.until_small k (omega arith) ];
}

pub standings_stop : (works until r : List ℕ) (i n : ℕ) → Standings works until i r → i ≤ n → n ≤ i → Standings works until n r
standings_stop works until r i n s a b = let e : i ≡ n = omega arith in rw (← e) s

-- ---- the difference is the rank

module _ (works until : List ℕ) (n : ℕ) (r : List ℕ) (st : Standings works until n r) where
  here : (k : ℕ) → k < n → n ≤ 16 → at r k ≡ standing_of (at works k) (at until k) k
  here k l b = ap (λ (x : List ℕ). at x k) st.stored ∙ stored_at n 16 (λ k. standing_of (at works k) (at until k) k) k l b

  past : (k : ℕ) → n ≤ k → at r k ≡ 0
  past k l = ap (λ (x : List ℕ). at x k) st.stored ∙ stored_past n 16 (λ k. standing_of (at works k) (at until k) k) k l

  -- every standing has 28 bits
  pub standings_most : n ≤ 16 → Within28Bits r
  standings_most b k =
      elim (dec_lt k n) [
        | yes l ↦ rw (here k l b) (standing_most (at works k) (at until k) k (st.works_small k l) (st.until_small k l) (omega arith))
        | no l ↦ omega (arith, past k (omega arith))
      ]

  pub standing_no_more : n ≤ 16 → (k : ℕ) → at r k ≤ 268435456
  standing_no_more b k = omega (arith, standings_most b k)

module _ (works until : List ℕ) (n i : ℕ) (r : List ℕ) (st : Standings works until n r) where
  own : (k : ℕ) → k < n → n ≤ 16 → at r k ≡ standing_of (at works k) (at until k) k
  own = here works until n r st

  pub number_fits : i < n → at works i < 18446744073709551616
  number_fits l = omega (arith, st.works_small i l)

  -- kind i's is not below its project's least
  own_least : n ≤ 16 → i < n → at works i * 1048576 ≤ at r i
  unfolding standing_of least_of
  own_least b l = omega (arith, own i l b)

  -- so what is counted at it or after it is no more than at the project's least
  pub first_enough : (first : ℕ) → n ≤ 16 → i < n → first ≡ at_or_after r (at works i * 1048576) → at_or_after r (at r i) ≤ first
  first_enough first b l p = omega (arith, p, at_or_after_le r (at works i * 1048576) (at r i) (own_least b l))

  module _ (l : i < n) (b : n ≤ 16) (h : at works i ≡ 0 → ⊥) where
    goes_before : ℕ → Bool
    goes_before k = eqb (at works k) (at works i) && sooner (at until) k i

    each : (k : ℕ) → k < n → between r (at works i * 1048576) (at r i) k ≡ goes_before k
    unfolding sooner goes_before least_of
    each k m =
        rw (own i l b, own k m b)
        (between_is (at works i) (at until i) k (at until k) (at works k) i (st.until_small i l) (omega arith) (st.until_small k m)
        (omega arith))

    none_past : (x : ℕ) → x < 16 - n → between r (at works i * 1048576) (at r i) (n + x) ≡ false
    none_past x m =
        between_low (at works i * 1048576) (at r i) (at r (n + x)) (omega (arith, h, past works until n r st (n + x) (omega arith)))

    rank_among_law : rank_among r (at works i * 1048576) (at r i) ≡ rank_by works until n i
    unfolding rank_among rank_by rank_in goes_before
    rank_among_law =
        let all : 16 ≡ n + (16 - n) = omega arith in
        let f = between r (at works i * 1048576) (at r i) in
        let split = ap (λ (m : ℕ). count_to m f) all ∙ count_split n (16 - n) f in
        let rest = count_never (16 - n) (λ x. f (n + x)) none_past in
        let mine = count_cong n f goes_before each in
        omega (arith, split, rest, mine, at_or_after_between r (at works i * 1048576) (at r i) (own_least b l))

    -- with the project's count as the code has it
    pub rank_left : (first : ℕ) → first ≡ at_or_after r (at works i * 1048576) → first - at_or_after r (at r i) ≡ rank_by works until n i
    unfolding rank_among
    rank_left first p = rw p rank_among_law

pub least_most : (w : ℕ) → w ≤ 8 → w * 1048576 ≤ 268435456
least_most w l = omega arith

pub first_most : (r : List ℕ) (least first : ℕ) → first ≡ at_or_after r least → first ≤ 16
unfolding at_or_after
first_most r least first e = omega (arith, e, count_le 16 (reaches r least))

-- ---- the loop that counts: what is carried is added

module _ (r : List ℕ) (x k : ℕ) (l : x ≤ 268435456) (most : Within28Bits r) where
  pub counted_most : (count : ℕ) → count ≤ k → count + (at r k + (268435456 - x)) / 268435456 ≤ k + 1
  counted_most count m = omega (arith, most k)

  pub counted_small : (count : ℕ) → count ≤ k → k < 16 → count + (at r k + (268435456 - x)) / 268435456 < 4294967296
  counted_small count m b = omega (arith, counted_most count m)

  pub counted_more : (count : ℕ) → count ≡ count_to k (reaches r x) →
      count + (at r k + (268435456 - x)) / 268435456 ≡ count_to (k + 1) (reaches r x)
  unfolding reaches
  counted_more count e = go (dec_lt (at r k) x)
    where
      go : Dec (at r k < x) → count + (at r k + (268435456 - x)) / 268435456 ≡ count_to (k + 1) (reaches r x)
      go (yes p) = omega (arith, most k, count_no count k (reaches r x) e (lt-leb x (at r k) p))
      go (no p) = omega (arith, most k, count_yes count k (reaches r x) e (le-leb x (at r k) (omega arith)))

pub counted_all : (r : List ℕ) (x k count : ℕ) → count ≡ count_to k (reaches r x) → k ≤ 16 → 16 ≤ k → count ≡ at_or_after r x
unfolding at_or_after
counted_all r x k count e a b = count_stop count k 16 (reaches r x) e a b

-- ---- each project's count, made once

none_known : (n j : ℕ) → get_or (replicate {A = Option ℕ} n None) j None ≡ None
none_known zero j = refl
none_known (suc n) zero = refl
none_known (suc n) (suc j) = none_known n j

pub firsts_none : (r : List ℕ) → Firsts r (replicate 8 None)
unfolding Known
firsts_none r = record { size = length-replicate {A = Option ℕ} 8 None; known = λ j x e. let none = none_known 8 j in absurd (cc) }

-- w is the number of a project plus 1
module _ (r : List ℕ) (f : List (Option ℕ)) (s : Firsts r f) (w : ℕ) (h : w ≡ 0 → ⊥) where
  number : w - 1 + 1 ≡ w
  number = omega (arith, h)

  pub first_known : Known r (w * 1048576) (get_or f (w - 1) None)
  unfolding least_of
  first_known = rw number at (s.known (w - 1))

  pub firsts_again : (v : ℕ) → w ≤ 8 → v ≡ at_or_after r (w * 1048576) → Firsts r (set f (w - 1) (Some v))
  unfolding least_of Known
  firsts_again v l e = record {
    size = length-set f (w - 1) (Some v) ∙ s.size;
    known = λ k. elim (ℕ_discrete k (w - 1)) [
      | yes q ↦ λ x z.
          let same = get_or-set_same f (w - 1) (Some v) None (omega (arith, s.size, h)) in
          let mine : v ≡ x = cc in
          rw (q, number) (sym mine ∙ e)
      | no q ↦ λ x z. s.known k x (rw (get_or-set_other f (w - 1) k (Some v) None q) at z)
    ];
  }
