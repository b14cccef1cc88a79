-- Laws of the list: what it lists is in its bytes, and is what the code reads there.
-- Assumes nothing.
use Rattle.std.specs.Prelude.{◌≡◌, refl, List, ℕ, ◌+◌, ◌*◌, ◌/◌, ◌%◌, ◌≤◌, ◌<◌, length, get_or, drop}
use Rattle.std.proofs.Math.Decide.{ℕ_discrete}
use Rattle.std.proofs.Common.{sym, ap, ap₂, ◌∙◌, arith, eq-eqb, ne_eqb, ◌++◌, ◌∷◌, []}
use Rattle.std.proofs.Math.ListN.{get_or-append}
use Rattle.std.proofs.lemmas.List.{length-append, length-drop, drop-drop, drop_at, get_or-drop}
use Rattle.one_kind.specs.Wanted.{kinds_in, field_at, separation_in, length_in}

pub no_list : (list : List ℕ) → (length list % 4 ≡ 0 → ⊥) → 0 ≡ kinds_in list
unfolding kinds_in
no_list list z = rw (ne_eqb (length list % 4) 0 z)

pub whole_list : (list : List ℕ) → length list % 4 ≡ 0 → length list / 4 ≡ kinds_in list
unfolding kinds_in
whole_list list e = rw (eq-eqb (length list % 4) 0 e)

pub kinds_room : (list : List ℕ) → 4 * kinds_in list ≤ length list
kinds_room list =
    elim (ℕ_discrete (length list % 4) 0) [
      | yes e ↦ omega (arith, whole_list list e)
      | no z ↦ omega (arith, no_list list z)
    ]

-- where some kind is listed, no byte is left over
pub kinds_whole : (list : List ℕ) → 0 < kinds_in list → 4 * kinds_in list ≡ length list
kinds_whole list p =
    elim (ℕ_discrete (length list % 4) 0) [
      | yes e ↦ omega (arith, whole_list list e)
      | no z ↦ absurd (omega (arith, no_list list z))
    ]

-- ---- kind by kind. n kinds have been taken from the list, and rest is what is left of it

pub many_more : {A : Type 0} (done : List A) (x : A) → length (done ++ x ∷ []) ≡ length done + 1
many_more done x = length-append done (x ∷ [])

module _ (list rest : List ℕ) (n : ℕ) (e : rest ≡ drop (4 * n) list) (m : 4 * n ≤ length list) where
  module _ (kind next : List ℕ) (s : rest ≡ kind ++ next) (k : length kind ≡ 4) where
    pub next_left : (a : ℕ) → a ≡ n + 1 → next ≡ drop (4 * a) list
    next_left a f =
        sym (drop_at kind next 4 k) ∙ ap (drop 4) (sym s ∙ e) ∙ drop-drop 4 (4 * n) list
        ∙ ap (λ (x : ℕ). drop x list) (omega (arith, f))

    -- its four bytes and what is left after it are the rest of the list
    after_it : 4 * n + (4 + length next) ≡ length list
    after_it =
        omega (
          arith,
          m,
          k,
          ap (λ (l : List ℕ). length l) s,
          ap (λ (l : List ℕ). length l) e,
          length-append kind next,
          length-drop (4 * n) list,
        )

    pub next_room : (a : ℕ) → a ≡ n + 1 → 4 * a ≤ length list
    next_room a f = omega (arith, f, after_it)

    there : (i j : ℕ) → i < 4 → 4 * n + i ≡ j → get_or kind i 0 ≡ get_or list j 0
    there i j l f =
        sym (get_or-append kind next 0 i (omega (arith, k))) ∙ ap (λ (x : List ℕ). get_or x i 0) (sym s ∙ e)
        ∙ get_or-drop (4 * n) list i 0 ∙ ap (λ (x : ℕ). get_or list x 0) f

    pub length_there : length_in kind 0 ≡ length_in list n
    unfolding field_at
    length_there = ap₂ (λ (x y : ℕ). x * 256 + y) (there 2 (4 * n + 2) (omega arith) refl)
        (there 3 (4 * n + 2 + 1) (omega arith) (omega arith))

    -- it is one of those listed
    pub kind_listed : (kinds : ℕ) → 4 * kinds ≡ length list → n < kinds
    kind_listed kinds f = omega (arith, f, after_it)

    pub separation_there : separation_in kind 0 ≡ separation_in list n
    unfolding field_at
    separation_there = ap₂ (λ (x y : ℕ). x * 256 + y) (there 0 (4 * n) (omega arith) (omega arith)) (there 1 (4 * n + 1) (omega arith) refl)

  pub none_left : (kinds : ℕ) → length rest < 4 → 4 * kinds ≡ length list → n ≡ kinds
  none_left kinds l f = omega (arith, f, ap (λ (x : List ℕ). length x) e, length-drop (4 * n) list)
