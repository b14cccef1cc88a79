-- The kept kinds in their new places: each is one of the original's, zeros follow, and as bytes they are the original's without the
-- dropped.
-- Assumes nothing.
use Rattle.std.specs.Prelude.{◌≡◌, Bool, length, set, replicate}
use Rattle.std.proofs.Math.Path.{refl, sym, ap, ap₂}
use Rattle.std.proofs.Common.{◌∙◌, add-one, arith, length-set}
use Rattle.std.proofs.Math.Bool.{true, false, cond}
use mathlib.Core.List.{List, [], ◌++◌, append-nil}
use Prim.Native.Nat.{ℕ, zero, suc, ◌≤◌, ◌<◌}
use Rattle.std.proofs.Math.Decide.{dec_lt}
use Rattle.std.proofs.Math.ListN.{get_or}
use Rattle.std.proofs.lemmas.List.{get_or-replicate}
use Rattle.std.proofs.Math.Seq.{get_or-set_same, get_or-set_other}
use Rattle.laws.specs.Count.{count_to}
use Rattle.laws.specs.Count.Properties.{count_suc, count_le}
use Rattle.codec.specs.Places.{parts_to}
use Rattle.plan.specs.declared.Kind.{Kind}
use Rattle.plan.specs.declared.Plan.{Plan}
use Rattle.plan.specs.Record.{no_kind}
use Rattle.plan_bytes.specs.Parts.{kind_bytes}
use Rattle.rescue.specs.Mended.{kind_for_at, kept_at, kinds_kept, kept_to}
use Rattle.rescue.specs.Applied.Properties.{parts_cong}

module _ (p : Plan) where
  -- ---- one kind more

  kept_yes : (n : ℕ) → kept_at p n ≡ true → kept_to p (suc n) ≡ set (kept_to p n) (kinds_kept p n) (kind_for_at p n)
  unfolding kept_to
  kept_yes n e = rw e

  kept_no : (n : ℕ) → kept_at p n ≡ false → kept_to p (suc n) ≡ kept_to p n
  unfolding kept_to
  kept_no n e = rw e

  more_yes : (n : ℕ) → kept_at p n ≡ true → kinds_kept p (suc n) ≡ suc (kinds_kept p n)
  more_yes n e = let c = count_suc n (kept_at p) in rw e at c ∙ add-one (kinds_kept p n)

  more_no : (n : ℕ) → kept_at p n ≡ false → kinds_kept p (suc n) ≡ kinds_kept p n
  more_no n e = let c = count_suc n (kept_at p) in let d = rw e at c in omega arith

  kept_zero : kept_to p 0 ≡ replicate 16 no_kind
  unfolding kept_to
  kept_zero = refl

  none_zero : kinds_kept p 0 ≡ 0
  unfolding count_to
  none_zero = refl

  pub kept_length : (n : ℕ) → length (kept_to p n) ≡ 16
  kept_length zero = ap length kept_zero
  kept_length (suc n) = go (kept_at p n) refl (kept_length n)
    where
      go : (b : Bool) → kept_at p n ≡ b → length (kept_to p n) ≡ 16 → length (kept_to p (suc n)) ≡ 16
      go true e h = ap length (kept_yes n e) ∙ length-set (kept_to p n) (kinds_kept p n) (kind_for_at p n) ∙ h
      go false e h = ap length (kept_no n e) ∙ h

  -- ---- beyond them, zeros

  pub kept_beyond : (n i : ℕ) → kinds_kept p n ≤ i → i < 16 → get_or (kept_to p n) i no_kind ≡ no_kind
  kept_beyond zero i l m = ap (λ (t : List Kind). get_or t i no_kind) kept_zero ∙ get_or-replicate 16 i no_kind no_kind m
  kept_beyond (suc n) i l m = go (kept_at p n) refl (λ q. kept_beyond n i q m)
    where
      go : (b : Bool) → kept_at p n ≡ b → (kinds_kept p n ≤ i → get_or (kept_to p n) i no_kind ≡ no_kind)
          → get_or (kept_to p (suc n)) i no_kind ≡ no_kind
      go true e h =
          let c = more_yes n e in
          ap (λ (t : List Kind). get_or t i no_kind) (kept_yes n e)
          ∙ get_or-set_other (kept_to p n) (kinds_kept p n) i (kind_for_at p n) no_kind (λ q. omega arith) ∙ h (omega arith)
      go false e h = let c = more_no n e in ap (λ (t : List Kind). get_or t i no_kind) (kept_no n e) ∙ h (omega arith)

  -- ---- each of them is one of the original's that is kept

  abbrev From : ℕ → Kind → Type 0
  From n v = (k : ℕ) × (k < n) × (kept_at p k ≡ true) × (v ≡ kind_for_at p k)

  wider : (n : ℕ) (v w : Kind) → v ≡ w → From n w → From (suc n) v
  wider n v w e t = (t.0, omega (arith, t.1), t.2, e ∙ t.3)

  pub kept_from : (n i : ℕ) → n ≤ 16 → i < kinds_kept p n → From n (get_or (kept_to p n) i no_kind)
  kept_from zero i m l = absurd (omega (arith, none_zero))
  kept_from (suc n) i m l = go (kept_at p n) refl (λ q. kept_from n i (omega arith) q)
    where
      go : (b : Bool) → kept_at p n ≡ b → (i < kinds_kept p n → From n (get_or (kept_to p n) i no_kind))
          → From (suc n) (get_or (kept_to p (suc n)) i no_kind)
      go true e h =
          let c = more_yes n e in
          let most = count_le n (kept_at p) in
          let long = kept_length n in
          elim (dec_lt i (kinds_kept p n)) [
            | yes q ↦ wider n (get_or (kept_to p (suc n)) i no_kind) (get_or (kept_to p n) i no_kind)
                (ap (λ (t : List Kind). get_or t i no_kind) (kept_yes n e)
                ∙ get_or-set_other (kept_to p n) (kinds_kept p n) i (kind_for_at p n) no_kind (λ z. omega arith)) (h q)
            | no q ↦ let z : i ≡ kinds_kept p n = omega arith in (
              n,
              omega arith,
              e,
              ap (λ (t : List Kind). get_or t i no_kind) (kept_yes n e)
                  ∙ ap (λ (k : ℕ). get_or (set (kept_to p n) (kinds_kept p n) (kind_for_at p n)) k no_kind) z
                  ∙ get_or-set_same (kept_to p n) (kinds_kept p n) (kind_for_at p n) no_kind (omega arith),
            )
          ]
      go false e h =
          let c = more_no n e in
          wider n (get_or (kept_to p (suc n)) i no_kind) (get_or (kept_to p n) i no_kind)
          (ap (λ (t : List Kind). get_or t i no_kind) (kept_no n e))
          (h (omega arith))

  -- ---- as bytes

  -- the bytes of a kind in its new place
  abbrev new_bytes : ℕ → ℕ → List ℕ
  new_bytes n i = kind_bytes (get_or (kept_to p n) i no_kind)

  -- and of kind i of the original, if it is kept
  abbrev pub kept_bytes : ℕ → List ℕ
  kept_bytes i = cond (kept_at p i) (kind_bytes (kind_for_at p i)) []

  pub kept_parts : (n : ℕ) → n ≤ 16 → parts_to (kinds_kept p n) (new_bytes n) ≡ parts_to n kept_bytes
  unfolding parts_to
  kept_parts zero m = ap (λ (k : ℕ). parts_to k (new_bytes 0)) none_zero
  kept_parts (suc n) m = go (kept_at p n) refl (kept_parts n (omega arith))
    where
      go : (b : Bool) → kept_at p n ≡ b → parts_to (kinds_kept p n) (new_bytes n) ≡ parts_to n kept_bytes
          → parts_to (kinds_kept p (suc n)) (new_bytes (suc n)) ≡ parts_to n kept_bytes ++ cond b (kind_bytes (kind_for_at p n)) []
      go true e h =
          let c = kinds_kept p n in
          let most = count_le n (kept_at p) in
          let long = kept_length n in
          ap (λ (k : ℕ). parts_to k (new_bytes (suc n))) (more_yes n e)
          ∙ ap₂ ◌++◌
          (parts_cong c (new_bytes (suc n)) (new_bytes n)
          (λ i l. ap kind_bytes (ap (λ (t : List Kind). get_or t i no_kind) (kept_yes n e)
          ∙ get_or-set_other (kept_to p n) c i (kind_for_at p n) no_kind (λ z. omega arith))) ∙ h)
          (ap kind_bytes (ap (λ (t : List Kind). get_or t c no_kind) (kept_yes n e)
          ∙ get_or-set_same (kept_to p n) c (kind_for_at p n) no_kind (omega arith)))
      go false e h =
          ap (λ (k : ℕ). parts_to k (new_bytes (suc n))) (more_no n e)
          ∙ parts_cong (kinds_kept p n) (new_bytes (suc n)) (new_bytes n)
          (λ i l. ap (λ (t : List Kind). kind_bytes (get_or t i no_kind)) (kept_no n e))
          ∙ h ∙ sym (append-nil (parts_to n kept_bytes))
