-- Moving a project's first cell only turns the cards that it holds, and never alters its supply.
-- Assumes nothing.
use Rattle.std.specs.Prelude.{◌≡◌, refl, Bool, true, false, eqb}
use Rattle.std.proofs.Common.{sym, ◌∙◌, zero-add, arith, eq-eqb, ne_eqb, eqb-true}
use Rattle.std.proofs.Math.Path.{ap, fun_ext}
use Rattle.std.proofs.Math.Bool.{not}
use Prim.Native.Nat.{ℕ, zero, suc, ◌+◌, ◌-◌, ◌*◌, ◌%◌, ◌<◌, min}
use Rattle.std.proofs.Math.Nat.{mod-zero, mod-add-mod, add-mul-mod_self_right}
use Rattle.std.proofs.Math.Dec.{leb}
use Rattle.std.proofs.lemmas.Bool.{eqb-false}
use Rattle.laws.specs.Sum.Properties.{sum_cong}
use Rattle.laws.specs.Least.Properties.{least_cong}
use Rattle.laws.specs.First.Properties.{first_cong}
use Rattle.laws.specs.Count.Properties.{count_cong}
use Rattle.layout.specs.Cards.{held_from}
use Rattle.layout.specs.Cards.Properties.{run_period}
use Rattle.supply.specs.Supply.{window, supply}
use Rattle.supply.proofs.Laws.Supply.{window_turn}
use Rattle.supply.specs.Greatest.{greatest_to}
use Rattle.supply.specs.Fit.{fits_at, least_width, allowed_length, least_excess}
use Rattle.smallest_budget.specs.Turning.{least_turned}

-- ---- cells of one slice, as many cells later

still_same : (frame a b c : ℕ) → a % frame ≡ b % frame → (a + c) % frame ≡ (b + c) % frame
still_same frame a b c e = sym (mod-add-mod a frame c) ∙ ap (λ (x : ℕ). (x + c) % frame) e ∙ mod-add-mod b frame c

same_before : (frame a b c : ℕ) → (a + c) % frame ≡ (b + c) % frame → a % frame ≡ b % frame
same_before zero a b c e =
    let z : a + c ≡ b + c = sym (mod-zero (a + c)) ∙ e ∙ mod-zero (b + c) in
    mod-zero a ∙ (let y : a ≡ b = omega arith in y) ∙ sym (mod-zero b)
same_before (suc m) a b c e = sym (around a) ∙ still_same (suc m) (a + c) (b + c) (c * m) e ∙ around b
  where
    around : (x : ℕ) → (x + c + c * m) % suc m ≡ x % suc m
    around x =
        ap (λ (y : ℕ). y % suc m) (let z : x + c + c * m ≡ x + c * suc m = omega arith in z) ∙ add-mul-mod_self_right x c (suc m)

same_slice : (frame a b c : ℕ) → eqb ((a + c) % frame) ((b + c) % frame) ≡ eqb (a % frame) (b % frame)
same_slice frame a b c = go (eqb (a % frame) (b % frame)) refl
  where
    go : (t : Bool) → eqb (a % frame) (b % frame) ≡ t → eqb ((a + c) % frame) ((b + c) % frame) ≡ eqb (a % frame) (b % frame)
    go true e = eq-eqb _ _ (still_same frame a b c (eqb-true _ _ e)) ∙ sym e
    go false e = ne_eqb _ _ (λ h. eqb-false _ _ e (same_before frame a b c h)) ∙ sym e

-- ---- the cards held

-- a first cell c cells later holds the same cards c slices later
pub run_moved : (first budget frame c s : ℕ) → held_from (first + c) budget frame (s + c) ≡ held_from first budget frame s
unfolding held_from
run_moved first budget frame c s =
    count_cong budget (λ y. eqb ((first + c + y) % frame) ((s + c) % frame)) (λ y. eqb ((first + y) % frame) (s % frame)) same
  where
    same : (y : ℕ) → y < budget → eqb ((first + c + y) % frame) ((s + c) % frame) ≡ eqb ((first + y) % frame) (s % frame)
    same y l =
        ap (λ (x : ℕ). eqb (x % frame) ((s + c) % frame)) (let e : first + c + y ≡ first + y + c = omega arith in e)
        ∙ same_slice frame (first + y) s c

-- ---- the supply

window_moved : (first budget frame c k a t : ℕ) →
    window k (held_from (first + c) budget frame) (a + c) t ≡ window k (held_from first budget frame) a t
unfolding window
window_moved first budget frame c k a t =
    sum_cong t (λ x. min k (held_from (first + c) budget frame (a + c + x))) (λ x. min k (held_from first budget frame (a + x))) same
  where
    same : (x : ℕ) → x < t → min k (held_from (first + c) budget frame (a + c + x)) ≡ min k (held_from first budget frame (a + x))
    same x l =
        ap (λ (n : ℕ). min k n) (ap (held_from (first + c) budget frame) (let e : a + c + x ≡ a + x + c = omega arith in e)
        ∙ run_moved first budget frame c (a + x))

supply_moved : (first budget frame c k t : ℕ) →
    supply frame (held_from (first + c) budget frame) k t ≡ supply frame (held_from first budget frame) k t
unfolding supply
supply_moved first budget frame c k t =
    let later = held_from (first + c) budget frame in
    sym (least_turned frame c (λ a. window k later a t) (λ a. window_turn frame later (run_period (first + c) budget frame) k a t))
    ∙ least_cong frame (λ a. window k later (a + c) t) (λ a. window k (held_from first budget frame) a t)
    (λ a l. window_moved first budget frame c k a t)

-- from any two first cells it is the same
pub supply_anywhere : (first other budget frame k t : ℕ) →
    supply frame (held_from first budget frame) k t ≡ supply frame (held_from other budget frame) k t
supply_anywhere first other budget frame k t = from first ∙ sym (from other)
  where
    from : (x : ℕ) → supply frame (held_from x budget frame) k t ≡ supply frame (held_from 0 budget frame) k t
    from x = rw (zero-add x) at (supply_moved 0 budget frame x k t)

-- ---- so the same k fits, with the same excess

module _ (first other budget frame C W D : ℕ) where
  pub width_anywhere : (q : ℕ) →
      least_width frame (held_from first budget frame) C W D q ≡ least_width frame (held_from other budget frame) C W D q
  unfolding least_width fits_at
  width_anywhere q =
      first_cong q (fits_at frame (held_from first budget frame) C W D) (fits_at frame (held_from other budget frame) C W D)
      (λ k p l. ap (λ (s : ℕ). leb (k * C + W) s) (supply_anywhere first other budget frame k D))

module _ (first other budget frame C W D : ℕ) where
  pub excess_anywhere : (q : ℕ) →
      least_excess frame (held_from first budget frame) C W D q ≡ least_excess frame (held_from other budget frame) C W D q
  unfolding least_excess allowed_length
  excess_anywhere q =
      ap (λ (f : ℕ → Bool). C - greatest_to C f)
      (fun_ext (λ c. ap (λ (w : ℕ). not (eqb w 0)) (width_anywhere first other budget frame c W D q)))
