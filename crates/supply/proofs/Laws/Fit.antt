-- Laws of the least k, of the excess and of the bad slice beside them.
-- Assumes nothing.
use Rattle.std.specs.Prelude.{◌≡◌, Bool, true, false, not, List, eqb, get_or, replicate}
use Rattle.std.proofs.Math.Path.{refl, sym, ap, ap₂, fun_ext}
use Rattle.std.proofs.Common.{◌∙◌, true≢false, zero-add, le-div_iff_mul-le, add-one}
use Prim.Native.Nat.{ℕ, zero, suc, ◌+◌, ◌-◌, ◌*◌, ◌/◌, ◌%◌, ◌≤◌, ◌<◌, min}
use Rattle.std.proofs.Math.Nat.{mod-lt, mod-mod, mod-eq_of_lt, mod-eq-sub-mod, add-mod_right, mul_comm}
use Rattle.std.proofs.Math.Decide.{dec_le, dec_lt}
use native.Mathlib.Omega.{arith}
use Rattle.std.proofs.lemmas.List.{length-replicate, length-append, length-take, length-take-le, length-drop, get_or-take, get_or-drop}
use Rattle.std.proofs.lemmas.List.{take_at, drop_at, ext_get_or}
use Rattle.std.proofs.Math.ListN.{get_or-append}
use Rattle.std.proofs.Math.Seq.{get_or-append_right}
use Rattle.std.proofs.Common.{length, take, drop, ◌++◌}
use borrow.Rule.Slice.PartMut.{put_mid}
use borrow.Author.Tests.{eq-eqb, ne_eqb, lt-ltb, le-ltb, le-leb, lt-leb, leb-true, leb-false}
use Rattle.laws.specs.Least.{least_to, least_place}
use Rattle.laws.specs.Least.Properties.{least_suc, least_le, place_below, place_attained, place_first, place_here, place_kept}
use Rattle.laws.specs.First.Properties.{first_none, first_on, first_here, first_le, first_holds, first_least, first_zero, first_some}
use Rattle.laws.specs.Sum.Properties.{sum_none, sum_again, sum_cong}
use Rattle.laws.specs.Written.{written}
use Rattle.laws.specs.Written.Properties.{written_at, written_kept, written_length}
use Rattle.supply.specs.Supply.{Periodic, window, supply, bad_slice}
use Rattle.supply.proofs.Laws.Supply.{window_none, window_more, supply_whole, bad_whole, bad_below, bad_no_width}
use Rattle.supply.specs.Greatest.Properties.{greatest_le, greatest_holds, greatest_above, greatest_only}
use Rattle.supply.specs.Fit.{fits_at, least_width, allowed_length, least_excess, named_width, named_slice, held_at, fit_of}
use Rattle.supply.specs.Fit.{supplied_of, least_with, least_of, supplied_to, counted_to, short_by, short_at, short_to}
use Rattle.supply.specs.declared.Fit.{Fit}
use Rattle.supply.specs.declared.Least.{Least}

-- ---- the least, place by place

pub with_first : (i : ℕ) (m : Least) (v a : ℕ) → i ≡ 0 → record { value = v; slice = a } ≡ least_with i m v a
with_first i m v a e = rw (eq-eqb i 0 e)

pub with_less : (i : ℕ) (m : Least) (v a : ℕ) → (i ≡ 0 → ⊥) → v < m.value → record { value = v; slice = a } ≡ least_with i m v a
with_less i m v a n l = rw (ne_eqb i 0 n, lt-ltb v m.value l)

pub with_kept : (i : ℕ) (m : Least) (v a : ℕ) → (i ≡ 0 → ⊥) → m.value ≤ v → m ≡ least_with i m v a
with_kept i m v a n l = rw (ne_eqb i 0 n, le-ltb v m.value l)

least_made : {a b c d : ℕ} → a ≡ c → b ≡ d → ◌≡◌ {A = Least} (record { value = a; slice = b }) (record { value = c; slice = d })
least_made p q = λ i. record { value = p i; slice = q i }

-- one place more; at the first it does not matter what stood there
with_again : (i : ℕ) (m : Least) (v a : ℕ) (f g : ℕ → ℕ) → (0 < i → m ≡ least_of i f g) → v ≡ f i → a ≡ g i →
    least_with i m v a ≡ least_of (i + 1) f g
unfolding least_to
with_again zero m v a f g p q e = least_made q (e ∙ ap g (let z : 0 ≡ least_place 1 f = omega (arith, place_below 1 f (omega arith)) in z))
with_again (suc i) m v a f g p q e = rw add-one (go (p (omega arith)))
  where
    go : m ≡ least_of (suc i) f g → least_with (suc i) m v a ≡ least_of (suc (suc i)) f g
    go t =
        let w : m.value ≡ least_to (suc i) f = ap (λ (x : Least). x.value) t in
        let s = least_suc (suc i) f (omega arith) in
        elim (dec_lt v m.value) [
          | yes l ↦ sym (with_less (suc i) m v a (λ z. omega arith) l)
              ∙ least_made (omega arith) (e ∙ ap g (sym (place_here (suc i) f (omega arith))))
          | no l ↦ sym (with_kept (suc i) m v a (λ z. omega arith) (omega arith)) ∙ t
              ∙ least_made (omega arith) (ap g (sym (place_kept (suc i) f (omega arith))))
        ]

-- ---- what fits, and what is given

module _ (F : ℕ) (h : ℕ → ℕ) (C W D : ℕ) where
  -- the k given is in 1..q, and it fits
  pub width_most : (q : ℕ) → least_width F h C W D q ≤ q
  unfolding least_width
  width_most q = first_le q (fits_at F h C W D)

  -- the k given fits
  pub width_fits : (q : ℕ) → 0 < least_width F h C W D q → least_width F h C W D q * C + W ≤ supply F h (least_width F h C W D q) D
  unfolding least_width fits_at
  width_fits q p = leb-true _ _ (first_holds q (fits_at F h C W D) p)

  -- and no lower one does
  pub width_least : (q k : ℕ) → 0 < k → k < least_width F h C W D q → supply F h k D < k * C + W
  unfolding least_width fits_at
  width_least q k p l = leb-false (k * C + W) (supply F h k D) (first_least q (fits_at F h C W D) k p l)

  -- where some k fits, one is given
  pub width_some : (q k : ℕ) → 0 < k → k ≤ q → k * C + W ≤ supply F h k D → 0 < least_width F h C W D q
  unfolding least_width fits_at
  width_some q k p l e = first_some q (fits_at F h C W D) k p l (le-leb (k * C + W) (supply F h k D) e)

  -- where none does, each k has its excess, the excess is at most each, and it is one of them
  pub width_none : (q k : ℕ) → least_width F h C W D q ≡ 0 → 0 < k → k ≤ q → supply F h k D < k * C + W
  unfolding least_width fits_at
  width_none q k e p l = leb-false (k * C + W) (supply F h k D) (first_zero q (fits_at F h C W D) (sym e) k p l)

-- ---- what k allows

module _ (F : ℕ) (h : ℕ → ℕ) (C W D : ℕ) where
  -- a length that k allows: C is longer than k allows by no more than it is longer than that
  short_of : (k c : ℕ) → 0 < k → k * c + W ≤ supply F h k D → (short_at F h C W D k).value ≤ C - c
  unfolding short_at
  short_of k c p e =
      let room : c * k ≤ supply F h k D - W = rw (mul_comm c k) (omega arith) in
      let allowed = (le-div_iff_mul-le {k = k} {x = c} {y = supply F h k D - W} p).1 room in
      rw (le-ltb (supply F h k D) W (omega arith)) (omega arith)

  -- and the other way round
  short_allows : (k c : ℕ) → 0 < k → c ≤ C → (short_at F h C W D k).value ≤ C - c → k * c + W ≤ supply F h k D
  unfolding short_at
  short_allows k c p l e =
      elim (dec_lt (supply F h k D) W) [
        | yes q ↦ absurd (omega (arith, rw (lt-ltb (supply F h k D) W q) at e))
        | no q ↦ allows (rw (le-ltb (supply F h k D) W (omega arith)) at e) (omega arith)
      ]
    where
      allows : C - (supply F h k D - W) / k ≤ C - c → W ≤ supply F h k D → k * c + W ≤ supply F h k D
      allows m w =
          let room = (le-div_iff_mul-le {k = k} {x = c} {y = supply F h k D - W} p).0 (omega arith) in
          omega (arith, mul_comm c k)

  -- beside what k allows stands its bad slice
  short_slice : (k : ℕ) → (short_at F h C W D k).value ≤ C → (short_at F h C W D k).slice ≡ bad_slice F h k D
  unfolding short_at
  short_slice k l =
      elim (dec_lt (supply F h k D) W) [
        | yes q ↦ absurd (omega (arith, rw (lt-ltb (supply F h k D) W q) at l))
        | no q ↦ rw (le-ltb (supply F h k D) W (omega arith))
      ]

  -- and none where it allows nothing
  short_none : (k : ℕ) → C < (short_at F h C W D k).value → (short_at F h C W D k).slice ≡ 0
  unfolding short_at
  short_none k l =
      elim (dec_lt (supply F h k D) W) [
        | yes q ↦ rw (lt-ltb (supply F h k D) W q)
        | no q ↦ absurd (omega (arith, rw (le-ltb (supply F h k D) W (omega arith)) at l))
      ]

  -- ---- over the k of 1..q

  short_least : (q k : ℕ) → 0 < k → k ≤ q → (short_to F h C W D q).value ≤ (short_at F h C W D k).value
  unfolding short_to
  short_least zero k p l = absurd (omega arith)
  short_least (suc q) zero p l = absurd (omega arith)
  short_least (suc q) (suc j) p l = rw (← (add-one j)) (least_le (suc q) (λ i. (short_at F h C W D (i + 1)).value) j (omega arith))

  -- the first k of those that allow the most
  record Allowing (q : ℕ) : Type 0 where
    k : ℕ
    some : 0 < k
    most : k ≤ q
    its_value : (short_at F h C W D k).value ≡ (short_to F h C W D q).value
    its_slice : (short_at F h C W D k).slice ≡ (short_to F h C W D q).slice
    first : (j : ℕ) → 0 < j → j < k → (short_to F h C W D q).value < (short_at F h C W D j).value

  short_attained : (q : ℕ) → 0 < q → Allowing q
  unfolding short_to
  short_attained zero p = absurd (omega arith)
  short_attained (suc q) p =
      record {
        k = least_place (suc q) value + 1;
        some = omega arith;
        most = omega (arith, place_below (suc q) value p);
        its_value = place_attained (suc q) value p;
        its_slice = refl;
        first = before;
      }
    where
      value : ℕ → ℕ
      value j = (short_at F h C W D (j + 1)).value

      before : (j : ℕ) → 0 < j → j < least_place (suc q) value + 1 → least_to (suc q) value < (short_at F h C W D j).value
      before zero a b = absurd (omega arith)
      before (suc j) a b = rw (← (add-one j)) (place_first (suc q) value j (omega arith))

  -- where some k allows something there are some
  short_some : (q : ℕ) → (short_to F h C W D q).value ≤ C → 0 < q
  unfolding short_to
  short_some zero l = absurd (omega arith)
  short_some (suc q) l = omega arith

  -- and where none does, no slice stands beside it
  short_else : (q : ℕ) → C < (short_to F h C W D q).value → (short_to F h C W D q).slice ≡ 0
  unfolding short_to
  short_else q l = elim (dec_lt 0 q) [ yes p ↦ some (short_attained q p) | no p ↦ none (omega arith) ]
    where
      some : Allowing q → (short_to F h C W D q).slice ≡ 0
      some t = sym t.its_slice ∙ short_none t.k (omega (arith, t.its_value))

      none : q ≡ 0 → (short_to F h C W D q).slice ≡ 0
      none e = ap (λ (n : ℕ). (short_to F h C W D n).slice) e

-- ---- the excess

module _ (F : ℕ) (h : ℕ → ℕ) (C W D : ℕ) where
  -- whether some k allows a length
  abbrev allowed : ℕ → ℕ → Bool
  allowed q c = not (eqb (least_width F h c W D q) 0)

  allowed_yes : (q c : ℕ) → 0 < least_width F h c W D q → allowed q c ≡ true
  allowed_yes q c p = rw (ne_eqb (least_width F h c W D q) 0 (λ e. omega arith))

  allowed_no : (q c : ℕ) → least_width F h c W D q ≡ 0 → allowed q c ≡ false
  allowed_no q c e = rw (eq-eqb (least_width F h c W D q) 0 e)

  -- "or the whole C"
  pub excess_within : (q : ℕ) → least_excess F h C W D q ≤ C
  unfolding least_excess
  excess_within q = omega arith

  excess_left : (q : ℕ) → C - least_excess F h C W D q ≡ allowed_length F h C W D q
  unfolding least_excess allowed_length
  excess_left q = omega (arith, greatest_le C (allowed q))

  -- "the greatest C' .. with kC' + W <= S(k,D) for some k": where less than the whole is too much, what is left has a k
  pub excess_allows : (q : ℕ) → least_excess F h C W D q < C → 0 < least_width F h (C - least_excess F h C W D q) W D q
  unfolding allowed_length
  excess_allows q l = rw (excess_left q) (some (least_width F h (allowed_length F h C W D q) W D q) refl)
    where
      some : (w : ℕ) → least_width F h (allowed_length F h C W D q) W D q ≡ w → 0 < w
      some zero e =
          let holds = greatest_holds C (allowed q) (omega (arith, excess_left q)) in
          absurd (true≢false (sym holds ∙ allowed_no q (allowed_length F h C W D q) e))
      some (suc w) e = omega arith

  -- and nothing longer has
  pub excess_greatest : (q c k : ℕ) → c ≤ C → 0 < k → k ≤ q → k * c + W ≤ supply F h k D → c + least_excess F h C W D q ≤ C
  unfolding allowed_length
  excess_greatest q c k l p m e =
      elim (dec_lt (allowed_length F h C W D q) c) [
        | yes t ↦ absurd (true≢false (sym (allowed_yes q c (width_some F h c W D q k p m e)) ∙ greatest_above C (allowed q) c t l))
        | no t ↦ omega (arith, excess_left q, excess_within q)
      ]

  -- the k that is named is the least that allows what is left
  pub named_is : (q : ℕ) → named_width F h C W D q ≡ least_width F h (C - least_excess F h C W D q) W D q
  unfolding named_width
  named_is q = ap (λ (c : ℕ). least_width F h c W D q) (sym (excess_left q))

  -- its slice is a slice of the frame
  pub slice_in_frame : 0 < F → (q : ℕ) → named_slice F h C W D q < F
  unfolding named_slice
  slice_in_frame p q = bad_below F h p (named_width F h C W D q) D

  -- ---- where the unit fits

  all_allowed : (q : ℕ) → 0 < least_width F h C W D q → allowed_length F h C W D q ≡ C
  unfolding allowed_length
  all_allowed q p =
      sym (greatest_only C (allowed q) C (omega arith) (λ l. allowed_yes q C p) (λ d l m. absurd (omega arith)))

  excess_here : (q : ℕ) → 0 < least_width F h C W D q → least_excess F h C W D q ≡ 0
  unfolding least_excess
  excess_here q p = omega (arith, all_allowed q p)

  -- the bad slice is that of the k given
  pub slice_given : (q : ℕ) → 0 < least_width F h C W D q → named_slice F h C W D q ≡ bad_slice F h (least_width F h C W D q) D
  unfolding named_slice named_width
  slice_given q p = ap (λ (c : ℕ). bad_slice F h (least_width F h c W D q) D) (all_allowed q p)

  -- ---- where it does not: what the search has is the excess

  allowed_is : (q : ℕ) → allowed_length F h C W D q ≡ C - (short_to F h C W D q).value
  unfolding allowed_length
  allowed_is q = sym (greatest_only C (allowed q) (C - v) (omega arith) holds above)
    where
      v : ℕ
      v = (short_to F h C W D q).value

      holds : 0 < C - v → allowed q (C - v) ≡ true
      holds l =
          let t = short_attained F h C W D q (short_some F h C W D q (omega arith)) in
          let room = short_allows F h C W D t.k (C - v) t.some (omega arith) (omega (arith, t.its_value)) in
          allowed_yes q (C - v) (width_some F h (C - v) W D q t.k t.some t.most room)

      above : (d : ℕ) → C - v < d → d ≤ C → allowed q d ≡ false
      above d l m =
          elim (dec_lt 0 (least_width F h d W D q)) [
            | yes w ↦
                let k = least_width F h d W D q in
                let short = short_of F h C W D k d w (width_fits F h d W D q w) in
                absurd (omega (arith, short, short_least F h C W D q k w (width_most F h d W D q)))
            | no w ↦ allowed_no q d (omega arith)
          ]

  excess_found : (q : ℕ) → min (short_to F h C W D q).value C ≡ least_excess F h C W D q
  unfolding least_excess
  excess_found q = omega (arith, allowed_is q)

  slice_found : 0 < F → (q : ℕ) → (short_to F h C W D q).slice ≡ named_slice F h C W D q
  unfolding named_slice named_width
  slice_found p q =
      rw (allowed_is q)
      (elim (dec_le v C) [ yes l ↦ some l (short_attained F h C W D q (short_some F h C W D q l)) | no l ↦ none (omega arith) ])
    where
      v : ℕ
      v = (short_to F h C W D q).value

      w : ℕ
      w = least_width F h (C - v) W D q

      some : v ≤ C → Allowing F h C W D q → (short_to F h C W D q).slice ≡ bad_slice F h w D
      some l t =
          let room = short_allows F h C W D t.k (C - v) t.some (omega arith) (omega (arith, t.its_value)) in
          let there = width_some F h (C - v) W D q t.k t.some t.most room in
          let short = short_of F h C W D w (C - v) there (width_fits F h (C - v) W D q there) in
          let same : t.k ≡ w = elim (dec_lt w t.k) [
            | yes m ↦ absurd (omega (arith, short, t.first w there m))
            | no m ↦ elim (dec_lt t.k w) [
              | yes n ↦ absurd (omega (arith, room, width_least F h (C - v) W D q t.k t.some n))
              | no n ↦ omega arith
            ]
          ] in
          sym t.its_slice ∙ short_slice F h C W D t.k (omega (arith, t.its_value)) ∙ ap (λ (k : ℕ). bad_slice F h k D) same

      none : C < v → (short_to F h C W D q).slice ≡ bad_slice F h w D
      none l = short_else F h C W D q l ∙ sym (bad_no_width F h p D) ∙ ap (λ (k : ℕ). bad_slice F h k D) (sym no_width)
        where
          no_width : w ≡ 0
          no_width = elim (dec_lt 0 w) [
            | yes m ↦
                let short = short_of F h C W D w (C - v) m (width_fits F h (C - v) W D q m) in
                absurd (omega (arith, short, short_least F h C W D q w m (width_most F h (C - v) W D q)))
            | no m ↦ omega arith
          ]

-- ---- the cards held, as a list

-- "taken modulo F"
pub held_turn : (F : ℕ) (held : List ℕ) → Periodic F (held_at F held)
unfolding held_at
held_turn F held s = rw (add-mod_right s F)

-- one frame copied to two places of a list of zeros
pub two_frames_of : (F : ℕ) (held a b : List ℕ) → 0 < F → F ≤ 64 → length held ≡ 64 → a ≡ take F held → b ≡ take F held →
    put_mid F (2 * F - F) (a ++ drop F (replicate 128 0)) b ≡ written (2 * F) (held_at F held) (replicate 128 0)
unfolding held_at
two_frames_of F held a b some most room e f =
    rw (take_at a zeros F long_a, drop_at a zeros F long_a)
    (ext_get_or 0 (a ++ (b ++ end)) (written (2 * F) (held_at F held) (replicate 128 0)) same_length at)
  where
    zeros : List ℕ
    zeros = drop F (replicate 128 0)

    end : List ℕ
    end = drop (2 * F - F) zeros

    long : length (take F held) ≡ F
    long = length-take-le F held (omega arith)

    long_a : length a ≡ F
    long_a = ap length e ∙ long

    long_b : length b ≡ F
    long_b = ap length f ∙ long

    same_length : length (a ++ (b ++ end)) ≡ length (written (2 * F) (held_at F held) (replicate 128 0))
    same_length =
        rw (
          length-append a (b ++ end),
          length-append b end,
          long_a,
          long_b,
          length-drop (2 * F - F) zeros,
          length-drop F (replicate {A = ℕ} 128 0),
          written_length (2 * F) (held_at F held) (replicate 128 0),
          length-replicate {A = ℕ} 128 0,
        )
        (omega arith)

    there : (i : ℕ) → i < 2 * F → get_or (written (2 * F) (held_at F held) (replicate 128 0)) i 0 ≡ get_or held (i % F) 0
    there i p = written_at (2 * F) (held_at F held) (replicate 128 0) 0 i p (omega (arith, length-replicate {A = ℕ} 128 0))

    first : (i : ℕ) → i < F → get_or (a ++ (b ++ end)) i 0 ≡ get_or (written (2 * F) (held_at F held) (replicate 128 0)) i 0
    first i p =
        get_or-append a (b ++ end) 0 i (omega (arith, long_a)) ∙ ap (λ (m : List ℕ). get_or m i 0) e ∙ get_or-take F held i 0 p
        ∙ ap (λ (n : ℕ). get_or held n 0) (sym (mod-eq_of_lt p)) ∙ sym (there i (omega arith))

    second : (i : ℕ) → F ≤ i → i < 2 * F → get_or (a ++ (b ++ end)) i 0 ≡ get_or (written (2 * F) (held_at F held) (replicate 128 0)) i 0
    second i p q =
        let l : i - F < F = omega arith in
        get_or-append_right a (b ++ end) i 0 (omega (arith, long_a)) ∙ ap (λ (n : ℕ). get_or (b ++ end) (i - n) 0) long_a
        ∙ get_or-append b end 0 (i - F) (omega (arith, long_b)) ∙ ap (λ (m : List ℕ). get_or m (i - F) 0) f ∙ get_or-take F held (i - F) 0 l
        ∙ ap (λ (n : ℕ). get_or held n 0) (sym (mod-eq-sub-mod p ∙ mod-eq_of_lt l)) ∙ sym (there i q)

    past : (i : ℕ) → 2 * F ≤ i → get_or (a ++ (b ++ end)) i 0 ≡ get_or (written (2 * F) (held_at F held) (replicate 128 0)) i 0
    past i p =
        get_or-append_right a (b ++ end) i 0 (omega (arith, long_a))
        ∙ get_or-append_right b end (i - length a) 0 (omega (arith, long_a, long_b))
        ∙ get_or-drop (2 * F - F) zeros (i - length a - length b) 0
        ∙ get_or-drop F (replicate {A = ℕ} 128 0) (2 * F - F + (i - length a - length b)) 0
        ∙ ap (λ (n : ℕ). get_or (replicate {A = ℕ} 128 0) n 0)
        (let z : F + (2 * F - F + (i - length a - length b)) ≡ i = omega (arith, long_a, long_b) in z)
        ∙ sym (written_kept (2 * F) (held_at F held) (replicate 128 0) 0 i p)

    at : (i : ℕ) → i < length (a ++ (b ++ end)) → get_or (a ++ (b ++ end)) i 0 ≡ get_or
        (written (2 * F) (held_at F held) (replicate 128 0)) i 0
    at i l = elim (dec_lt i F) [
      | yes p ↦ first i p
      | no p ↦ elim (dec_lt i (2 * F)) [ yes q ↦ second i (omega arith) q | no q ↦ past i (omega arith) ]
    ]

pub rest_below : (t F : ℕ) → (F ≡ 0 → ⊥) → t % F < F
rest_below t F n = mod-lt t (omega arith)

-- two frames in a row
module _ (F : ℕ) (held cards : List ℕ) (some : F ≡ 0 → ⊥) (most : F ≤ 64) (two : cards ≡ written (2 * F) (held_at F held) (replicate 128 0))
  where
    two_at : (s : ℕ) → s < 2 * F → get_or cards s 0 ≡ held_at F held s
    two_at s l = rw two (written_at (2 * F) (held_at F held) (replicate 128 0) 0 s l (omega (arith, length-replicate {A = ℕ} 128 0)))

    two_held : held_at F cards ≡ held_at F held
    unfolding held_at
    two_held = fun_ext (λ s. two_at (s % F) (omega (arith, mod-lt s (let p : 0 < F = omega arith in p))) ∙ rw (mod-mod s F))

    two_same : (s : ℕ) → s < 2 * F → get_or cards s 0 ≡ held_at F cards s
    two_same s l = two_at s l ∙ ap (λ (h : ℕ → ℕ). h s) (sym two_held)

    -- ---- the steps of the search

    -- a part of the two frames, gone through to its end, is a window
    pub window_counted : (k a t x s : ℕ) → s ≡ counted_to k (take (a + t - a) (drop a cards)) x →
        x ≤ length (take (a + t - a) (drop a cards)) → length (take (a + t - a) (drop a cards)) ≤ x → a < F → t < F →
        s ≡ window k (held_at F cards) a t
    unfolding window
    window_counted k a t x s e l m n q =
        let full : length cards ≡ 128 = ap length two ∙ written_length (2 * F) (held_at F held) (replicate 128 0)
        ∙ length-replicate {A = ℕ} 128 0 in
        let long : length (take (a + t - a) (drop a cards)) ≡ a + t - a =
        length-take-le (a + t - a) (drop a cards) (omega (arith, length-drop a cards)) in
        let z : x ≡ t = omega arith in
        e ∙ ap (counted_to k (take (a + t - a) (drop a cards))) z
        ∙ sum_cong t (λ i. min k (get_or (take (a + t - a) (drop a cards)) i 0)) (λ i. min k (held_at F cards (a + i)))
        (λ i p. ap (min k)
        (get_or-take (a + t - a) (drop a cards) i 0 (omega arith) ∙ get_or-drop a cards i 0 ∙ two_same (a + i) (omega arith)))

    -- one slice more of the frame
    pub frame_again : (k x s v : ℕ) → s ≡ window k (held_at F cards) 0 x → x < F → v ≡ min k (get_or cards x 0) →
        s + v ≡ window k (held_at F cards) 0 (x + 1)
    frame_again k x s v e l q = rw (window_more k (held_at F cards) 0 x, e, q, two_same x (omega arith), zero-add x)

    -- no whole frame is gone through slice by slice
    pub supplied : (k D p one start : ℕ) (least : Least) → p ≡ D / F * one → one ≡ window k (held_at F cards) 0 start →
        least ≡ supplied_to start (held_at F cards) k (D % F) → start ≤ F → F ≤ start → p + least.value ≡ supply F (held_at F cards) k D
    supplied k D p one start least e f g l m =
        let z : start ≡ F = omega arith in
        rw (supply_whole F (held_at F cards) (held_turn F cards) (omega arith) k D, e, f, g, z)

    pub bad_found : (k D start : ℕ) (least : Least) → least ≡ supplied_to start (held_at F cards) k (D % F) → start ≤ F → F ≤ start →
        least.slice ≡ bad_slice F (held_at F cards) k D
    bad_found k D start least g l m =
        let z : start ≡ F = omega arith in
        rw (bad_whole F (held_at F cards) (held_turn F cards) (omega arith) k D, g, z)

-- one slice more of a list
pub counted_start : (k : ℕ) (cards : List ℕ) → 0 ≡ counted_to k cards 0
counted_start k cards = sum_none (λ x. min k (get_or cards x 0))

pub counted_again : (k : ℕ) (cards : List ℕ) (x s v : ℕ) → s ≡ counted_to k cards x → v ≡ min k (get_or cards x 0) →
    s + v ≡ counted_to k cards (x + 1)
counted_again k cards x s v e f = sum_again s x (λ i. min k (get_or cards i 0)) v e f

-- none yet
pub window_start : (k : ℕ) (h : ℕ → ℕ) (a : ℕ) → 0 ≡ window k h a 0
window_start k h a = sym (window_none k h a)

pub supply_start : (k : ℕ) (h : ℕ → ℕ) (t : ℕ) → record { value = 0; slice = 0 } ≡ supplied_to 0 h k t
unfolding supply bad_slice least_to least_place
supply_start k h t = refl

-- one start more
pub supply_again : (k t : ℕ) (h : ℕ → ℕ) (i s : ℕ) (m r : Least) → m ≡ supplied_to i h k t → s ≡ window k h i t →
    r ≡ least_with i m s i → r ≡ supplied_to (i + 1) h k t
unfolding supply bad_slice
supply_again k t h i s m r e f q = q ∙ with_again i m s i (λ a. window k h a t) (λ a. a) (λ p. e) f refl

-- a part of a list is no longer than what is asked of it
pub part_most : (a t : ℕ) (cards : List ℕ) → length (take (a + t - a) (drop a cards)) ≤ t
part_most a t cards = omega (arith, length-take (a + t - a) (drop a cards))

pub short_nothing : (k C W s b : ℕ) → s < W → record { value = C + 1; slice = 0 } ≡ short_by k C W s b
short_nothing k C W s b l = rw (lt-ltb s W l)

pub short_something : (k C W s b a r : ℕ) → W ≤ s → a ≡ (s - W) / k → r ≡ min a C → record { value = C - r; slice = b } ≡ short_by k C W s b
short_something k C W s b a r l e q = rw (le-ltb s W l) (least_made (omega (arith, e)) refl)

module _ (F : ℕ) (h : ℕ → ℕ) (C W D : ℕ) where
  pub width_start : 0 ≡ least_width F h C W D 0
  unfolding least_width
  width_start = first_none (fits_at F h C W D)

  pub short_start : record { value = C + 1; slice = 0 } ≡ short_to F h C W D 0
  unfolding short_to
  short_start = refl

  -- not at this k
  pub width_again : (j s a : ℕ) → 0 ≡ least_width F h C W D j → s ≡ supply F h (j + 1) D → a ≡ (j + 1) * C + W → s < a →
      0 ≡ least_width F h C W D (j + 1)
  unfolding least_width fits_at
  width_again j s a e f g l = first_on j (fits_at F h C W D) e (lt-leb ((j + 1) * C + W) (supply F h (j + 1) D) (omega arith))

  pub short_again : (j s b : ℕ) (m t r : Least) → m ≡ short_to F h C W D j → s ≡ supply F h (j + 1) D → b ≡ bad_slice F h (j + 1) D →
      t ≡ short_by (j + 1) C W s b → r ≡ least_with j m t.value t.slice → r ≡ short_to F h C W D (j + 1)
  unfolding short_at short_to
  short_again j s b m t r e f g u q =
      let same : t ≡ short_at F h C W D (j + 1) = u ∙ ap₂ (short_by (j + 1) C W) f g in
      q
      ∙ with_again j m t.value t.slice (λ i. (short_at F h C W D (i + 1)).value) (λ i. (short_at F h C W D (i + 1)).slice)
      (λ p. e ∙ so j p)
      (ap (λ (x : Least). x.value) same) (ap (λ (x : Least). x.slice) same)
      ∙ sym (so (j + 1) (omega arith))
    where
      so : (n : ℕ) → 0 < n →
          short_to F h C W D n ≡ least_of n (λ i. (short_at F h C W D (i + 1)).value) (λ i. (short_at F h C W D (i + 1)).slice)
      so zero p = absurd (omega arith)
      so (suc n) p = refl

  -- at this k
  width_here : (q j s a : ℕ) → 0 ≡ least_width F h C W D j → s ≡ supply F h (j + 1) D → a ≡ (j + 1) * C + W → a ≤ s → j < q →
      j + 1 ≡ least_width F h C W D q
  unfolding least_width fits_at
  width_here q j s a e f g l n = first_here q j (fits_at F h C W D) e (le-leb ((j + 1) * C + W) (supply F h (j + 1) D) (omega arith)) n

-- ---- the whole answer

pub no_frame : (F : ℕ) (held : List ℕ) (q C W D : ℕ) → F ≡ 0 → record { width = 0; excess = 0; slice = 0 } ≡ fit_of F held q C W D
unfolding fit_of
no_frame F held q C W D e = rw (eq-eqb F 0 e)

pub long_frame : (F : ℕ) (held : List ℕ) (q C W D : ℕ) → (F ≡ 0 → ⊥) → 64 < F →
    record { width = 0; excess = 0; slice = 0 } ≡ fit_of F held q C W D
unfolding fit_of
long_frame F held q C W D n l = rw (ne_eqb F 0 n, lt-ltb 64 F l)

-- in a frame that there can be
pub fit_framed : (F : ℕ) (held : List ℕ) (q C W D : ℕ) → (F ≡ 0 → ⊥) → F ≤ 64 →
    fit_of F held q C W D ≡ record {
      width = least_width F (held_at F held) C W D q;
      excess = least_excess F (held_at F held) C W D q;
      slice = named_slice F (held_at F held) C W D q;
    }
unfolding fit_of
fit_framed F held q C W D n l = rw (ne_eqb F 0 n, le-ltb 64 F l)

fit_made : {a b c d e f : ℕ} → a ≡ d → b ≡ e → c ≡ f →
    ◌≡◌ {A = Fit} (record { width = a; excess = b; slice = c }) (record { width = d; excess = e; slice = f })
fit_made p q r = λ i. record { width = p i; excess = q i; slice = r i }

module _ (F : ℕ) (held cards : List ℕ) (some : F ≡ 0 → ⊥) (most : F ≤ 64) (two : cards ≡ written (2 * F) (held_at F held) (replicate 128 0))
  where
    fit_of_law : (q C W D w x a : ℕ) → w ≡ least_width F (held_at F cards) C W D q → x ≡ least_excess F (held_at F cards) C W D q →
        a ≡ named_slice F (held_at F cards) C W D q → record { width = w; excess = x; slice = a } ≡ fit_of F held q C W D
    fit_of_law q C W D w x a e f g =
        let same = two_held F held cards some most two in
        fit_made (e ∙ ap (λ (h : ℕ → ℕ). least_width F h C W D q) same) (f ∙ ap (λ (h : ℕ → ℕ). least_excess F h C W D q) same)
        (g ∙ ap (λ (h : ℕ → ℕ). named_slice F h C W D q) same)
        ∙ sym (fit_framed F held q C W D some most)

    -- the first k that fits leaves with it
    pub fit_here : (q C W D j s a b : ℕ) → 0 ≡ least_width F (held_at F cards) C W D j → s ≡ supply F (held_at F cards) (j + 1) D →
        b ≡ bad_slice F (held_at F cards) (j + 1) D → a ≡ (j + 1) * C + W → a ≤ s → j < q →
        record { width = j + 1; excess = 0; slice = b } ≡ fit_of F held q C W D
    fit_here q C W D j s a b e f t g l n =
        let h : ℕ → ℕ = held_at F cards in
        let w = width_here F h C W D q j s a e f g l n in
        let some : 0 < least_width F h C W D q = omega arith in
        fit_of_law q C W D (j + 1) 0 b w (sym (excess_here F h C W D q some))
        (t ∙ ap (λ (k : ℕ). bad_slice F h k D) w ∙ sym (slice_given F h C W D q some))

    -- none fits
    pub fit_none : (q C W D j w y : ℕ) (x : Least) → w ≡ 0 → 0 ≡ least_width F (held_at F cards) C W D j →
        x ≡ short_to F (held_at F cards) C W D j → j ≤ q → q ≤ j → y ≡ min x.value C →
        record { width = w; excess = y; slice = x.slice } ≡ fit_of F held q C W D
    fit_none q C W D j w y x v e f l n u =
        let h : ℕ → ℕ = held_at F cards in
        let z : j ≡ q = omega arith in
        let so : x ≡ short_to F h C W D q = f ∙ ap (short_to F h C W D) z in
        fit_of_law q C W D w y x.slice (v ∙ e ∙ ap (least_width F h C W D) z)
        (u ∙ ap (λ (m : Least). min m.value C) so ∙ excess_found F h C W D q)
        (ap (λ (m : Least). m.slice) so ∙ slice_found F h C W D (omega arith) q)

-- ---- the supply of one k

pub supplied_no_frame : (F : ℕ) (held : List ℕ) (k t : ℕ) → F ≡ 0 → record { value = 0; slice = 0 } ≡ supplied_of F held k t
unfolding supplied_of
supplied_no_frame F held k t e = rw (eq-eqb F 0 e)

pub supplied_long_frame : (F : ℕ) (held : List ℕ) (k t : ℕ) → (F ≡ 0 → ⊥) → 64 < F →
    record { value = 0; slice = 0 } ≡ supplied_of F held k t
unfolding supplied_of
supplied_long_frame F held k t n l = rw (ne_eqb F 0 n, lt-ltb 64 F l)

-- in a frame that there can be
pub supplied_framed : (F : ℕ) (held : List ℕ) (k t : ℕ) → (F ≡ 0 → ⊥) → F ≤ 64 →
    supplied_of F held k t ≡ record { value = supply F (held_at F held) k t; slice = bad_slice F (held_at F held) k t }
unfolding supplied_of
supplied_framed F held k t n l = rw (ne_eqb F 0 n, le-ltb 64 F l)

-- after all starts
pub supplied_here : (F : ℕ) (held cards : List ℕ) → (F ≡ 0 → ⊥) → F ≤ 64 → cards ≡ written (2 * F) (held_at F held) (replicate 128 0) →
    (k t p one start : ℕ) (least : Least) → p ≡ t / F * one → one ≡ window k (held_at F cards) 0 start →
    least ≡ supplied_to start (held_at F cards) k (t % F) → start ≤ F → F ≤ start →
    record { value = p + least.value; slice = least.slice } ≡ supplied_of F held k t
supplied_here F held cards some most two k t p one start least e f g l m =
    let same = two_held F held cards some most two in
    let v = supplied F held cards some most two k t p one start least e f g l m ∙ ap (λ (h : ℕ → ℕ). supply F h k t) same in
    let a = bad_found F held cards some most two k t start least g l m ∙ ap (λ (h : ℕ → ℕ). bad_slice F h k t) same in
    (λ i. record { value = v i; slice = a i }) ∙ sym (supplied_framed F held k t some most)
