-- Laws of the cells of a slice.
-- Assumes nothing.
use Rattle.std.specs.Prelude.{◌≡◌, Bool, ◌&&◌, leb, ltb}
use Rattle.std.proofs.Math.Path.{refl, sym, ap}
use Rattle.std.proofs.Common.{◌∙◌, suc-mul, mul-le-mul_right, div-add-mod', mod-lt, le-div_iff_mul-le, lt-ltb, le-ltb, eq-eqb, ne_eqb}
use Rattle.std.proofs.Common.{eqb-true}
use Rattle.std.proofs.Math.Bool.{true, false, cond}
use Prim.Native.Nat.{ℕ, zero, suc, ◌+◌, ◌-◌, ◌*◌, ◌/◌, ◌%◌, ◌≤◌, ◌<◌}
use Rattle.std.proofs.Math.Decide.{dec_le, dec_lt}
use Rattle.std.proofs.Math.Nat.{add-mul, one-mul, add-mod_right, div-eq_of_lt-le, add-mul-div_right}
use native.Mathlib.Omega.{arith}
use Rattle.std.proofs.Math.Dec.{eqb}
use Rattle.std.proofs.lemmas.Bool.{eqb-false}
use Rattle.laws.specs.Sum.{sum_to}
use Rattle.laws.specs.Sum.Properties.{sum_add, sum_cong, sum_zero}
use Rattle.laws.specs.Count.{count_to}
use Rattle.laws.specs.Count.Properties.{count_le, count_split, count_sum, between_yes, between_low, between_high}
use Rattle.layout.specs.Layout.{cell_at}
use Rattle.layout.specs.Cards.{cards_below, in_run, held_from}

-- ---- whole cards

-- a card's cells are cells of the frame
pub card_cells : (frame card cards : ℕ) → card < cards → card * frame + frame ≤ cards * frame
card_cells frame card cards l = omega (arith, suc-mul card frame, mul-le-mul_right frame (let h : suc card ≤ cards = l in h))

-- the cell after a card's last is the next card's first
pub card_next : (frame card : ℕ) → cell_at frame card frame ≡ cell_at frame (card + 1) 0
unfolding cell_at
card_next frame card = omega (arith, add-mul card 1 frame, one-mul frame)

-- ---- the cells of a slice below a cell

-- k is the quotient where k times the divisor leaves less than the divisor
quotient_is : (k n m : ℕ) → k * n ≤ m → m < k * n + n → m / n ≡ k
quotient_is k n m p q = div-eq_of_lt-le n p (omega (arith, add-mul k 1 n, one-mul n))

-- a slice that the frame does not have
pub below_none : (frame x slice : ℕ) → frame ≤ slice → 0 ≡ cards_below frame x slice
unfolding cards_below
below_none frame x slice l = rw (le-ltb slice frame l)

pub below_counted : (frame x slice : ℕ) → slice < frame → cards_below frame x slice ≡ count_to x (λ y. eqb (y % frame) slice)
unfolding cards_below
below_counted frame x slice l = rw (lt-ltb slice frame l)

module _ (frame slice : ℕ) (l : slice < frame) where
  closed_yes : (x : ℕ) → x % frame ≡ slice → (suc x + (frame - 1 - slice)) / frame ≡ (x + (frame - 1 - slice)) / frame + 1
  closed_yes x e =
      let d = div-add-mod' x frame in
      let more = add-mul (x / frame) 1 frame in
      let same = one-mul frame in
      let a : (x + (frame - 1 - slice)) / frame ≡ x / frame = quotient_is (x / frame) frame (x + (frame - 1 - slice)) (omega arith)
      (omega arith) in
      let b : (suc x + (frame - 1 - slice)) / frame ≡ x / frame + 1 = quotient_is (x / frame + 1) frame (suc x + (frame - 1 - slice))
      (omega arith) (omega arith) in
      omega arith

  closed_no : (x : ℕ) → (x % frame ≡ slice → ⊥) → (suc x + (frame - 1 - slice)) / frame ≡ (x + (frame - 1 - slice)) / frame
  closed_no x e =
      let d = div-add-mod' x frame in
      let more = add-mul (x / frame) 1 frame in
      let same = one-mul frame in
      let r : x % frame < frame = mod-lt x (omega arith) in
      elim (dec_lt (x % frame) slice) [
        | yes q ↦
            quotient_is (x / frame) frame (suc x + (frame - 1 - slice)) (omega arith) (omega arith)
            ∙ sym (quotient_is (x / frame) frame (x + (frame - 1 - slice)) (omega arith) (omega arith))
        | no q ↦ after (omega arith)
      ]
    where
      after : slice < x % frame → (suc x + (frame - 1 - slice)) / frame ≡ (x + (frame - 1 - slice)) / frame
      after q =
          let d = div-add-mod' x frame in
          let more = add-mul (x / frame) 1 frame in
          let same = one-mul frame in
          let r : x % frame < frame = mod-lt x (omega arith) in
          quotient_is (x / frame + 1) frame (suc x + (frame - 1 - slice)) (omega arith) (omega arith)
          ∙ sym (quotient_is (x / frame + 1) frame (x + (frame - 1 - slice)) (omega arith) (omega arith))

  count_closed : (x : ℕ) → count_to x (λ y. eqb (y % frame) slice) ≡ (x + (frame - 1 - slice)) / frame
  unfolding count_to
  count_closed zero = sym (quotient_is 0 frame (0 + (frame - 1 - slice)) (omega arith) (omega arith))
  count_closed (suc x) = go (eqb (x % frame) slice) refl (count_closed x)
    where
      go : (b : Bool) → eqb (x % frame) slice ≡ b → count_to x (λ y. eqb (y % frame) slice) ≡ (x + (frame - 1 - slice)) / frame →
          count_to x (λ y. eqb (y % frame) slice) + cond b 1 0 ≡ (suc x + (frame - 1 - slice)) / frame
      go true e h = omega (arith, closed_yes x (eqb-true (x % frame) slice e))
      go false e h = omega (arith, closed_no x (eqb-false (x % frame) slice e))

  -- in a closed form
  pub below_closed : (x : ℕ) → cards_below frame x slice ≡ (x + (frame - 1 - slice)) / frame
  below_closed x = below_counted frame x slice l ∙ count_closed x

  -- a card's cell is below x exactly when the card is among the first `cards_below frame x slice`
  pub cell_below : (x card : ℕ) → card < cards_below frame x slice → cell_at frame card slice < x
  unfolding cell_at
  cell_below x card h =
      let g : card + 1 ≤ (x + (frame - 1 - slice)) / frame = omega (arith, below_closed x) in
      let f : 0 < frame = omega arith in
      omega (arith, (le-div_iff_mul-le {k = frame} {x = card + 1} {y = x + (frame - 1 - slice)} f).0 g, add-mul card 1 frame, one-mul frame)

  pub below_cell : (x card : ℕ) → cell_at frame card slice < x → card < cards_below frame x slice
  unfolding cell_at
  below_cell x card h =
      let f : 0 < frame = omega arith in
      let g : (card + 1) * frame ≤ x + (frame - 1 - slice) = omega (arith, add-mul card 1 frame, one-mul frame) in
      omega (arith, (le-div_iff_mul-le {k = frame} {x = card + 1} {y = x + (frame - 1 - slice)} f).1 g, below_closed x)

  -- and not below it exactly when it is not
  pub cell_past : (x card : ℕ) → cards_below frame x slice ≤ card → x ≤ cell_at frame card slice
  cell_past x card h =
      elim (dec_lt (cell_at frame card slice) x) [ yes q ↦ absurd (omega (arith, below_cell x card q)) | no q ↦ omega arith ]

  pub past_cell : (x card : ℕ) → x ≤ cell_at frame card slice → cards_below frame x slice ≤ card
  past_cell x card h =
      elim (dec_lt card (cards_below frame x slice)) [ yes q ↦ absurd (omega (arith, cell_below x card q)) | no q ↦ omega arith ]

  pub below_start : cards_below frame 0 slice ≡ 0
  below_start = omega (arith, past_cell 0 0 (omega arith))

  pub below_grows : (x y : ℕ) → x ≤ y → cards_below frame x slice ≤ cards_below frame y slice
  below_grows x y h =
      elim (dec_le (cards_below frame x slice) (cards_below frame y slice)) [
        | yes q ↦ q
        | no q ↦
            absurd
            (omega (arith, cell_below x (cards_below frame y slice) (omega arith), cell_past y (cards_below frame y slice) (omega arith)))
      ]

  -- whole frames hold one cell of the slice each
  pub below_frames : (x k : ℕ) → cards_below frame (x + k * frame) slice ≡ cards_below frame x slice + k
  below_frames x k =
      let f : 0 < frame = omega arith in
      let e : x + k * frame + (frame - 1 - slice) ≡ x + (frame - 1 - slice) + k * frame = omega arith in
      below_closed (x + k * frame) ∙ ap (λ (n : ℕ). n / frame) e ∙ add-mul-div_right (x + (frame - 1 - slice)) k f
      ∙ ap (λ (n : ℕ). n + k) (sym (below_closed x))

  pub below_frame : (k : ℕ) → cards_below frame (k * frame) slice ≡ k
  below_frame k = let e : 0 + k * frame ≡ k * frame = omega arith in rw e at (below_frames 0 k) ∙ omega (arith, below_start)

  -- less than a frame holds at most one
  pub below_part : (x k : ℕ) → k ≤ frame → cards_below frame (x + k) slice ≤ cards_below frame x slice + 1
  below_part x k h = omega (arith, below_grows (x + k) (x + 1 * frame) (omega (arith, one-mul frame)), below_frames x 1)

pub below_most : (frame x slice : ℕ) → cards_below frame x slice ≤ x
below_most frame x slice =
    elim (dec_lt slice frame) [
      | yes q ↦ omega (arith, below_counted frame x slice q, count_le x (λ y. eqb (y % frame) slice))
      | no q ↦ omega (arith, below_none frame x slice (omega arith))
    ]

-- what the code computes
pub below_computed : (frame x slice : ℕ) → slice < frame → (x + (frame - 1 - slice)) / frame ≡ cards_below frame x slice
below_computed frame x slice l = sym (below_closed frame slice l x)

pub computed_most : (frame x slice : ℕ) → slice < frame → (x + (frame - 1 - slice)) / frame ≤ x
computed_most frame x slice l = omega (arith, below_computed frame x slice l, below_most frame x slice)

-- ---- the cards that a run of cells holds

-- at a slice they are consecutive: from card `cards_below` of its first cell on, up to that of the cell after its last
pub run_card : (frame slice : ℕ) → slice < frame → (first budget card : ℕ) →
    in_run first budget (cell_at frame card slice) ≡
    (leb (cards_below frame first slice) card && ltb card (cards_below frame (first + budget) slice))
run_card frame slice l first budget card =
    let cell = cell_at frame card slice in
    let low = cards_below frame first slice in
    let end = cards_below frame (first + budget) slice in
    elim (dec_lt cell first) [
      | yes q ↦ between_low first (first + budget) cell q ∙ sym (between_low low end card (below_cell frame slice l first card q))
      | no q ↦ elim (dec_lt cell (first + budget)) [
        | yes r ↦
            between_yes first (first + budget) cell (omega arith) r
            ∙ sym
            (between_yes low end card (past_cell frame slice l first card (omega arith)) (below_cell frame slice l (first + budget) card r))
        | no r ↦
            between_high first (first + budget) cell (omega arith)
            ∙ sym (between_high low end card (past_cell frame slice l (first + budget) card (omega arith)))
      ]
    ]

-- "taken modulo F"
pub run_period : (first budget frame s : ℕ) → held_from first budget frame (s + frame) ≡ held_from first budget frame s
unfolding held_from
run_period first budget frame s = rw (add-mod_right s frame)

module _ (first budget frame s : ℕ) (f : 0 < frame) where
  slice_in : s % frame < frame
  slice_in = mod-lt s f

  run_below : cards_below frame first (s % frame) + held_from first budget frame s ≡ cards_below frame (first + budget) (s % frame)
  unfolding held_from
  run_below =
      sym (below_counted frame (first + budget) (s % frame) slice_in ∙ count_split first budget (λ y. eqb (y % frame) (s % frame)) ∙ ap
      (λ (n : ℕ). n + count_to budget (λ y. eqb ((first + y) % frame) (s % frame))) (sym (below_counted frame first (s % frame) slice_in)))

  -- the cells of the slice below the run's end and not below its start
  pub run_closed : held_from first budget frame s ≡ cards_below frame (first + budget) (s % frame) - cards_below frame first (s % frame)
  run_closed = omega (arith, run_below)

  -- "at slice s either floor(B/F) or that plus one card"
  pub run_least : budget / frame ≤ held_from first budget frame s
  run_least =
      let d = div-add-mod' budget frame in
      omega (
        arith,
        run_below,
        below_frames frame (s % frame) slice_in first (budget / frame),
        below_grows frame (s % frame) slice_in (first + budget / frame * frame) (first + budget) (omega arith),
      )

  pub run_most : held_from first budget frame s ≤ budget / frame + 1
  run_most =
      let d = div-add-mod' budget frame in
      let r : budget % frame < frame = mod-lt budget f in
      let e : first + budget / frame * frame + budget % frame ≡ first + budget = omega arith in
      let b : cards_below frame (first + budget) (s % frame) ≤ cards_below frame (first + budget / frame * frame) (s % frame) + 1 = rw e at
      (below_part frame (s % frame) slice_in (first + budget / frame * frame) (budget % frame) (omega arith)) in
      omega (arith, run_below, b, below_frames frame (s % frame) slice_in first (budget / frame))

  -- "never more than q": a budget of at most q frames
  pub run_ceiling : (q : ℕ) → budget ≤ q * frame → held_from first budget frame s ≤ q
  run_ceiling q h =
      omega (
        arith,
        run_below,
        below_frames frame (s % frame) slice_in first q,
        below_grows frame (s % frame) slice_in (first + budget) (first + q * frame) (omega arith),
      )

-- ---- a run over a whole frame

eqb_sym : (a b : ℕ) → eqb a b ≡ eqb b a
eqb_sym a b = go (eqb a b) refl
  where
    go : (t : Bool) → eqb a b ≡ t → eqb a b ≡ eqb b a
    go true e = e ∙ sym (eq-eqb b a (sym (eqb-true a b e)))
    go false e = e ∙ sym (ne_eqb b a (λ h. eqb-false a b e (sym h)))

-- of any F slices in a row, one is slice r
one_slice : (frame a r : ℕ) → r < frame → sum_to frame (λ s. cond (eqb r ((a + s) % frame)) 1 0) ≡ 1
one_slice frame a r l =
    let t : count_to frame (λ s. eqb ((a + s) % frame) r) ≡ sum_to frame (λ s. cond (eqb r ((a + s) % frame)) 1 0)
    = count_sum frame (λ s. eqb ((a + s) % frame) r)
    ∙ sum_cong frame (λ s. cond (eqb ((a + s) % frame) r) 1 0) (λ s. cond (eqb r ((a + s) % frame)) 1 0)
    (λ s q. ap (λ (b : Bool). cond b 1 0) (eqb_sym ((a + s) % frame) r)) in
    let e : a + frame ≡ a + 1 * frame = omega (arith, one-mul frame) in
    omega (
      arith,
      sym t,
      count_split a frame (λ y. eqb (y % frame) r),
      below_counted frame a r l,
      below_counted frame (a + frame) r l,
      below_frames frame r l a 1,
      ap (λ (x : ℕ). cards_below frame x r) e,
    )

-- over any F slices in a row a run holds each of its cells once
pub run_frame : (first budget frame a : ℕ) → 0 < frame → sum_to frame (λ s. held_from first budget frame (a + s)) ≡ budget
unfolding held_from count_to
run_frame first zero frame a f = sum_zero frame (λ s. 0) (λ x l. refl)
run_frame first (suc budget) frame a f =
    sum_add frame (λ s. count_to budget (λ y. eqb ((first + y) % frame) ((a + s) % frame)))
    (λ s. cond (eqb ((first + budget) % frame) ((a + s) % frame)) 1 0)
    ∙ omega (arith, run_frame first budget frame a f, one_slice frame a ((first + budget) % frame) (mod-lt (first + budget) f))
