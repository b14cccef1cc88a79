-- Laws of applying: the list's bytes are its entries, and of a run of changes only those of a place are about it.
-- Assumes nothing.
use Rattle.std.specs.Prelude.{◌≡◌, Bool, ◌&&◌, eqb}
use Rattle.std.proofs.Math.Path.{refl, ap, ap₂}
use Rattle.std.proofs.Common.{sym, ◌∙◌, eq-eqb, ne_eqb}
use Rattle.std.proofs.Math.Bool.{true, false, cond}
use mathlib.Core.List.{List, [], ◌∷◌, ◌++◌, append-nil}
use Prim.Native.Nat.{ℕ, zero, suc, ◌+◌, ◌*◌, ◌/◌, ◌%◌, ◌<◌}
use Rattle.std.proofs.Math.Decide.{dec_lt, ℕ_discrete}
use native.Mathlib.Omega.{arith}
use Rattle.codec.specs.Places.{parts_to}
use Rattle.rescue.specs.Entry.{Entry, entry, entry_bytes, listed, change, entries_to}
use Rattle.rescue.specs.Entry.Properties.{change_none, change_some}
use Rattle.rescue.specs.Applied.{entries_in, names, about, after}

-- the list is found again in its bytes
pub entries_listed : (es : List Entry) → entries_in (listed es) ≡ es
unfolding entries_in listed entry_bytes
entries_listed [] = refl
entries_listed (e ∷ es) =
    let a : e.old / 256 * 256 + e.old % 256 ≡ e.old = omega arith in
    let b : e.new / 256 * 256 + e.new % 256 ≡ e.new = omega arith in
    λ i. record { field = e.field; place = e.place; old = a i; new = b i } ∷ entries_listed es i

-- ---- the entries about one field of one place

module _ (f j : ℕ) where
  pub about_append : (xs ys : List Entry) → about f j (xs ++ ys) ≡ about f j xs ++ about f j ys
  unfolding about
  about_append [] ys = refl
  about_append (e ∷ xs) ys = go (names e f j) (about_append xs ys)
    where
      go : (b : Bool) → about f j (xs ++ ys) ≡ about f j xs ++ about f j ys
          → cond b (e ∷ about f j (xs ++ ys)) (about f j (xs ++ ys)) ≡ cond b (e ∷ about f j xs) (about f j xs) ++ about f j ys
      go true h = ap (λ (l : List Entry). e ∷ l) h
      go false h = h

  -- an entry of another field or of another place is about something else
  pub about_other : (e : Entry) → names e f j ≡ false → about f j (e ∷ []) ≡ []
  unfolding about
  about_other e z = rw z

  about_one_yes : (e : Entry) → names e f j ≡ true → about f j (e ∷ []) ≡ e ∷ []
  unfolding about
  about_one_yes e z = rw z

  pub about_nil : about f j [] ≡ []
  unfolding about
  about_nil = refl

  pub about_change_other : (g k a b : ℕ) → names (entry g k a b) f j ≡ false → about f j (change g k a b) ≡ []
  about_change_other g k a b z =
      elim (ℕ_discrete a b) [
        | yes e ↦ ap (about f j) (change_none g k a b e) ∙ about_nil
        | no n ↦ ap (about f j) (change_some g k a b n) ∙ about_other (entry g k a b) z
      ]

  pub about_change : (a b : ℕ) → about f j (change f j a b) ≡ change f j a b
  about_change a b =
      elim (ℕ_discrete a b) [
        | yes e ↦ ap (about f j) (change_none f j a b e) ∙ about_nil ∙ sym (change_none f j a b e)
        | no n ↦ ap (about f j) (change_some f j a b n) ∙ about_one_yes (entry f j a b) itself ∙ sym (change_some f j a b n)
      ]
    where
      itself : (eqb f f && eqb j j) ≡ true
      itself = rw (eq-eqb f f refl, eq-eqb j j refl)

  pub about_entry : (a b : ℕ) → about f j (entry f j a b ∷ []) ≡ entry f j a b ∷ []
  about_entry a b = about_one_yes (entry f j a b) (rw (eq-eqb f f refl, eq-eqb j j refl))

  -- of a run over places
  pub about_none : (n : ℕ) (g : ℕ → List Entry) → ((k : ℕ) → about f j (g k) ≡ []) → about f j (entries_to n g) ≡ []
  unfolding entries_to
  about_none zero g h = about_nil
  about_none (suc n) g h = about_append (entries_to n g) (g n) ∙ ap₂ ◌++◌ (about_none n g h) (h n)

  before : (n : ℕ) (g : ℕ → List Entry) → ((k : ℕ) → k < n → about f j (g k) ≡ []) → about f j (entries_to n g) ≡ []
  unfolding entries_to
  before zero g h = about_nil
  before (suc n) g h = about_append (entries_to n g) (g n) ∙ ap₂ ◌++◌ (before n g (λ k l. h k (omega arith))) (h n (omega arith))

  pub about_here : (n : ℕ) (g : ℕ → List Entry) → j < n → ((k : ℕ) → (k ≡ j → ⊥) → about f j (g k) ≡ [])
      → about f j (entries_to n g) ≡ about f j (g j)
  unfolding entries_to
  about_here zero g l h = absurd (omega arith)
  about_here (suc n) g l h =
      elim (dec_lt j n) [
        | yes q ↦
            about_append (entries_to n g) (g n) ∙ ap₂ ◌++◌ (about_here n g q h) (h n (λ e. omega arith)) ∙ append-nil (about f j (g j))
        | no q ↦ let e : n ≡ j = omega arith in
            about_append (entries_to n g) (g n)
            ∙ ap₂ ◌++◌ (before n g (λ k m. h k (λ x. omega arith))) (ap (λ (k : ℕ). about f j (g k)) e)
      ]

-- which fields and places are others
pub other_field : (g k a b f j : ℕ) → eqb g f ≡ false → names (entry g k a b) f j ≡ false
other_field g k a b f j e = rw e

pub other_place : (g k a b f j : ℕ) → (k ≡ j → ⊥) → names (entry g k a b) f j ≡ false
other_place g k a b f j z = go (eqb g f) (ne_eqb k j z)
  where
    go : (t : Bool) → eqb k j ≡ false → (t && eqb k j) ≡ false
    go true e = e
    go false e = refl

-- ---- what the entries leave

pub after_change : (f j a b : ℕ) → after a (change f j a b) ≡ b
unfolding after
after_change f j a b =
    elim (ℕ_discrete a b) [
      | yes e ↦ ap (after a) (change_none f j a b e) ∙ e
      | no n ↦ ap (after a) (change_some f j a b n)
    ]

-- parts that agree below n
pub parts_cong : (n : ℕ) (f g : ℕ → List ℕ) → ((i : ℕ) → i < n → f i ≡ g i) → parts_to n f ≡ parts_to n g
unfolding parts_to
parts_cong zero f g h = refl
parts_cong (suc n) f g h = ap₂ ◌++◌ (parts_cong n f g (λ i l. h i (omega arith))) (h n (omega arith))
