-- Laws of the list: what is written of it, step by step.
-- Assumes nothing.
use Rattle.std.specs.Prelude.{◌≡◌, refl, List, [], ◌∷◌, ◌++◌, ℕ, suc, ◌+◌, ◌-◌, ◌*◌, ◌≤◌, length, take, drop, set}
use Rattle.std.proofs.Common.{sym, ap, ap₂, ◌∙◌, append_assoc, append-nil, add-zero, add-one, arith, length-append, drop-drop, take_at}
use Rattle.std.proofs.Common.{eq-eqb, ne_eqb}
use Rattle.std.proofs.lemmas.List.Edits.{sets, sets-eq}
use Rattle.codec.specs.Places.Properties.{front_sets}
use Rattle.rescue.specs.Entry.{Entry, entry, entry_bytes, listed, change, entries_to, Noted}

-- ---- six bytes

pub listed_append : (xs ys : List Entry) → listed (xs ++ ys) ≡ listed xs ++ listed ys
unfolding listed
listed_append [] ys = refl
listed_append (e ∷ xs) ys = ap (λ (l : List ℕ). entry_bytes e ++ l) (listed_append xs ys)
    ∙ sym (append_assoc (entry_bytes e) (listed xs) (listed ys))

entry_length : (e : Entry) → length (entry_bytes e) ≡ 6
unfolding entry_bytes
entry_length e = refl

pub listed_length : (es : List Entry) → length (listed es) ≡ 6 * length es
unfolding listed
listed_length [] = refl
listed_length (e ∷ es) =
    length-append (entry_bytes e) (listed es) ∙ omega (arith, entry_length e, listed_length es)

-- six bytes stored in the part from there on that was lent and is back
pub put_lent : (at : ℕ) (l ys : List ℕ) (e : Entry) → at + 6 ≤ length l → ys ≡ entry_bytes e
    → take at l ++ (ys ++ drop (at + 6 - at) (drop at l)) ≡ sets l at (entry_bytes e)
put_lent at l ys e h q =
    let vs = entry_bytes e in
    let w = entry_length e in
    let m : at + 6 - at ≡ length vs = omega (arith, w) in
    let d : drop (at + 6 - at) (drop at l) ≡ drop (at + length vs) l = ap (λ (z : ℕ). drop z (drop at l)) m ∙ drop-drop (length vs) at l in
    ap₂ (λ (a b : List ℕ). take at l ++ (a ++ b)) q d ∙ sym (append_assoc (take at l) vs (drop (at + length vs) l))
    ∙ sym (sets-eq vs l at (omega (arith, w)))

listed_one : (e : Entry) → listed (e ∷ []) ≡ entry_bytes e
unfolding listed
listed_one e = append-nil (entry_bytes e)

listed_none : listed [] ≡ []
unfolding listed
listed_none = refl

-- ---- a change, or none

pub change_none : (f j a b : ℕ) → a ≡ b → change f j a b ≡ []
unfolding change
change_none f j a b e = rw (eq-eqb a b e)

pub change_some : (f j a b : ℕ) → (a ≡ b → ⊥) → change f j a b ≡ entry f j a b ∷ []
unfolding change
change_some f j a b z = rw (ne_eqb a b z)

-- ---- what is written

-- one run of stores after the other
sets_more : (xs ys l : List ℕ) (at : ℕ) → sets (sets l at xs) (at + length xs) ys ≡ sets l at (xs ++ ys)
sets_more [] ys l at = ap (λ (k : ℕ). sets l k ys) (add-zero at)
sets_more (x ∷ xs) ys l at =
    let e : at + suc (length xs) ≡ suc at + length xs = omega arith in
    ap (λ (k : ℕ). sets (sets (set l at x) (suc at) xs) k ys) e ∙ sets_more xs ys (set l at x) (suc at)

pub noted_none : (at : ℕ) (l : List ℕ) → Noted at l [] at l
noted_none at l = record { behind = omega arith; stored = ap (λ (v : List ℕ). sets l at v) (sym listed_none) }

pub noted_one : (at : ℕ) (l m : List ℕ) (e : Entry) → m ≡ sets l at (entry_bytes e) → Noted at l (e ∷ []) (at + 6) m
noted_one at l m e q = record { behind = omega arith; stored = q ∙ ap (λ (v : List ℕ). sets l at v) (sym (listed_one e)) }

pub noted_same : (at : ℕ) (l : List ℕ) (f j a b : ℕ) → a ≡ b → Noted at l (change f j a b) at l
noted_same at l f j a b e = rw (change_none f j a b e) (noted_none at l)

pub noted_more : (at a r : ℕ) (l m k : List ℕ) (xs ys : List Entry) → Noted at l xs a m → Noted a m ys r k → Noted at l (xs ++ ys) r k
noted_more at a r l m k xs ys x y =
    let n = listed_length xs in
    let b = x.behind in
    let e : a ≡ at + length (listed xs) = omega arith in
    record {
      behind = omega (arith, y.behind, length-append xs ys);
      stored =
          y.stored ∙ ap₂ (λ (s : List ℕ) (i : ℕ). sets s i (listed ys)) x.stored e
          ∙ sets_more (listed xs) (listed ys) l at ∙ ap (λ (v : List ℕ). sets l at v) (sym (listed_append xs ys));
    }

-- ---- the steps of a loop over places

pub noted_start : (at : ℕ) (l : List ℕ) (f : ℕ → List Entry) → Noted at l (entries_to 0 f) at l
unfolding entries_to
noted_start at l f = noted_none at l

pub noted_again : (i at a r : ℕ) (f : ℕ → List Entry) (l m k : List ℕ) (es : List Entry) → Noted at l (entries_to i f) a m
    → Noted a m es r k → es ≡ f i → Noted at l (entries_to (i + 1) f) r k
unfolding entries_to
noted_again i at a r f l m k es x y e =
    rw (add-one i) (noted_more at a r l m k (entries_to i f) (f i) x (rw (← e) y))

pub noted_stop : (i n at r : ℕ) (f : ℕ → List Entry) (l k : List ℕ) → Noted at l (entries_to i f) r k → i ≤ n → n ≤ i
    → Noted at l (entries_to n f) r k
noted_stop i n at r f l k x p q = let e : i ≡ n = omega arith in rw (← e) x

-- ---- a list that stands at the front of one buffer, copied to the front of another

pub copied : (n : ℕ) (xs z noted list : List ℕ) → length xs ≡ n → n ≤ length z → noted ≡ sets z 0 xs
    → take n noted ++ drop n list ≡ xs ++ drop n list
copied n xs z noted list e l q =
    let front : noted ≡ xs ++ drop (0 + length xs) z = q ∙ front_sets [] xs z z 0 refl refl (omega arith) in
    ap (λ (t : List ℕ). t ++ drop n list) (ap (take n) front ∙ take_at xs (drop (0 + length xs) z) n e)
