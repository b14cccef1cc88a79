-- What `array::from_fn` gives, an array with h k at each place k, where h k is what the closure answers there; and what `all` does.
-- Assumes nothing.
use Rattle.std.specs.Prelude.{◌≡◌, refl, ℕ, zero, suc, ◌+◌, ◌≤◌, ◌<◌, Bool, true, false, ◌&&◌, List, [], ◌∷◌, ◌++◌, get_or, replicate}
use Rattle.std.specs.List.{range_with_len, list_all}
use Rattle.std.proofs.Common.{sym, ap, subst, ◌∙◌, arith}
use Rattle.std.proofs.Math.Decide.{ℕ_discrete}
use Rattle.std.proofs.lemmas.List.{ext_get_or, length-replicate}
use Rattle.std.specs.Array.{IsFromFnResultFrom, IsFromFnResult}
use Rattle.std.proofs.lemmas.List.Folds.{list_all-append}
use denote.Param.Members.{Mut, Called}
use Rattle.laws.specs.All.{all_to}
use Rattle.laws.specs.Written.{written}
use Rattle.laws.specs.Written.Properties.{written_at, written_length}

module _ {F B : Type 0} (g : Mut F (ℕ × Unit {0}) B) (h : ℕ → B) (f : F)
    (each : (k : ℕ) (y : B) (q : F) → Called g f (k, tt) y q → (q ≡ f) × (y ≡ h k)) where
  from_at : (ys : List B) (d : B) (i n : ℕ) → IsFromFnResultFrom g f ys i n → (k : ℕ) → i ≤ k → k < i + n → get_or ys k d ≡ h k
  from_at ys d i zero r k a b = absurd (omega arith)
  from_at ys d i (suc n) (q, y, at, call, rest) k a b =
      elim (ℕ_discrete k i) [
        | yes e ↦ rw e (at.1 d ∙ (each i y q call).1)
        | no e ↦ from_at ys d (i + 1) n (subst (λ (p : F). IsFromFnResultFrom g p ys (i + 1) n) (each i y q call).0 rest) k (omega arith)
            (omega arith)
      ]

  pub from_fn_written : (ys : List B) (d : B) (n : ℕ) → IsFromFnResult g f ys n → ys ≡ written n h (replicate n d)
  from_fn_written ys d n r =
      let size = written_length n h (replicate n d) ∙ length-replicate n d in
      ext_get_or d ys (written n h (replicate n d)) (r.long ∙ sym size)
      (λ i l. from_at ys d 0 n r.each i (omega arith) (omega (arith, r.long))
      ∙ sym (written_at n h (replicate n d) d i (omega (arith, r.long)) (omega (arith, length-replicate n d))))

-- ---- `all` over the numbers below n

range_more : (a n : ℕ) → range_with_len a (suc n) ≡ range_with_len a n ++ ((a + n) ∷ [])
range_more a zero = ap (λ (x : ℕ). x ∷ []) (omega arith)
range_more a (suc n) = ap (λ (l : List ℕ). a ∷ l) (range_more (a + 1) n
    ∙ ap (λ (x : ℕ). range_with_len (a + 1) n ++ (x ∷ [])) (omega arith))

last_true : (b : Bool) → (b && true) ≡ b
last_true true = refl
last_true false = refl

pub all_below : (n : ℕ) (f : ℕ → Bool) → list_all f (range_with_len 0 n) ≡ all_to n f
unfolding all_to
all_below zero f = refl
all_below (suc n) f =
    ap (list_all f) (range_more 0 n) ∙ list_all-append f (range_with_len 0 n) ((0 + n) ∷ [])
    ∙ rw (all_below n f, last_true) (ap (λ (x : ℕ). all_to n f && f x) (omega arith))
