-- Parts of a list: its first n places, which a loop reads or writes one after the other, and what is copied over the next ones.
-- Assumes nothing.
use Rattle.std.specs.Prelude.{◌≡◌, List, ℕ, zero, suc, ◌+◌, ◌-◌, ◌≤◌, ◌<◌, length, take, drop, set, get_or}
use Rattle.std.proofs.Common.{sym, ap, ◌∙◌, arith, ◌++◌}
use Rattle.std.proofs.lemmas.List.{length-take, length-take-le, length-append, length-drop, take-append-drop, set-append_left, get_or-take}
use Rattle.std.proofs.lemmas.List.{get_or-drop, ext_get_or}
use Rattle.std.proofs.Math.ListN.{get_or-append}
use Rattle.std.proofs.Math.Seq.{get_or-append_right}
use Rattle.std.proofs.Math.Decide.{dec_lt}
use borrow.Rule.Slice.PartMut.{put_mid}
use Rattle.laws.specs.Written.{written}
use Rattle.laws.specs.Written.Properties.{written_at, written_kept, written_length}

-- the part is no longer than that
pub front_most : {A : Type 0} (n : ℕ) (l : List A) → length (take n l) ≤ n
front_most n l = omega (arith, length-take n l)

pub front_below : {A : Type 0} (n : ℕ) (l : List A) (i : ℕ) → i < length (take n l) → i < n
front_below n l i p = omega (arith, front_most n l)

-- its end
pub front_end : {A : Type 0} (n : ℕ) (l : List A) (i : ℕ) → n ≤ length l → i ≤ length (take n l) → length (take n l) ≤ i → i ≡ n
front_end n l i p a b = omega (arith, length-take-le n l p)

-- and holds what stands there
pub front_at : {A : Type 0} (n : ℕ) (l : List A) (d : A) (i : ℕ) → i < length (take n l) → get_or (take n l) i d ≡ get_or l i d
front_at n l d i p = get_or-take n l i d (front_below n l i p)

front_written : {A : Type 0} (i n : ℕ) (f : ℕ → A) (l : List A) → i ≤ n → n ≤ length l →
    written i f (take n l) ++ drop n l ≡ written i f l
unfolding written
front_written zero n f l p q = take-append-drop n l
front_written (suc i) n f l p q =
    sym (set-append_left (written i f (take n l)) (drop n l) i (f i)
    (omega (arith, written_length i f (take n l), length-take-le n l q)))
    ∙ ap (λ (m : List _). set m i (f i)) (front_written i n f l (omega arith) q)

-- after the loop
pub front_stop : {A : Type 0} (i n : ℕ) (f : ℕ → A) (l m : List A) → n ≤ length l → m ≡ written i f (take n l) →
    i ≤ length (take n l) → length (take n l) ≤ i → m ++ drop n l ≡ written n f l
front_stop i n f l m q e a b =
    ap (λ (x : List _). x ++ drop n l) (e ∙ ap (λ (k : ℕ). written k f (take n l)) (front_end n l i q a b))
    ∙ front_written n n f l (omega arith) q

-- what is copied over n places from one on, where all before it are written
pub part_written : {A : Type 0} (at n k : ℕ) (f : ℕ → A) (d : A) (l m part : List A) → m ≡ written at f l → at + n ≤ length l → k ≡ n →
    length part ≡ n → ((i : ℕ) → i < n → get_or part i d ≡ f (at + i)) → put_mid at k m part ≡ written (at + n) f l
part_written {A} at n k f d l m part e room same many here =
    ext_get_or d (put_mid at k m part) (written (at + n) f l) long each
  where
    end : List A
    end = drop k (drop at m)

    long_m : length m ≡ length l
    long_m = ap length e ∙ written_length at f l

    long_front : length (take at m) ≡ at
    long_front = length-take-le at m (omega (arith, long_m))

    long : length (put_mid at k m part) ≡ length (written (at + n) f l)
    long =
        rw (
          length-append (take at m) (part ++ end),
          length-append part end,
          long_front,
          many,
          length-drop k (drop at m),
          length-drop at m,
          written_length (at + n) f l,
          long_m,
        )
        (omega arith)

    before : (i : ℕ) → i < at → get_or (put_mid at k m part) i d ≡ get_or (written (at + n) f l) i d
    before i p =
        get_or-append (take at m) (part ++ end) d i (omega (arith, long_front)) ∙ get_or-take at m i d p
        ∙ ap (λ (x : List A). get_or x i d) e ∙ written_at at f l d i p (omega arith)
        ∙ sym (written_at (at + n) f l d i (omega arith) (omega arith))

    inside : (i : ℕ) → at ≤ i → i < at + n → get_or (put_mid at k m part) i d ≡ get_or (written (at + n) f l) i d
    inside i p q =
        get_or-append_right (take at m) (part ++ end) i d (omega (arith, long_front))
        ∙ ap (λ (x : ℕ). get_or (part ++ end) (i - x) d) long_front
        ∙ get_or-append part end d (i - at) (omega (arith, many)) ∙ here (i - at) (omega arith)
        ∙ ap f (let z : at + (i - at) ≡ i = omega arith in z)
        ∙ sym (written_at (at + n) f l d i q (omega arith))

    after : (i : ℕ) → at + n ≤ i → get_or (put_mid at k m part) i d ≡ get_or (written (at + n) f l) i d
    after i p =
        get_or-append_right (take at m) (part ++ end) i d (omega (arith, long_front))
        ∙ get_or-append_right part end (i - length (take at m)) d (omega (arith, long_front, many))
        ∙ get_or-drop k (drop at m) (i - length (take at m) - length part) d
        ∙ get_or-drop at m (k + (i - length (take at m) - length part)) d
        ∙ ap (λ (x : ℕ). get_or m x d)
        (let z : at + (k + (i - length (take at m) - length part)) ≡ i = omega (arith, long_front, many) in z)
        ∙ ap (λ (x : List A). get_or x i d) e ∙ written_kept at f l d i (omega arith)
        ∙ sym (written_kept (at + n) f l d i p)

    each : (i : ℕ) → i < length (put_mid at k m part) → get_or (put_mid at k m part) i d ≡ get_or (written (at + n) f l) i d
    each i p = elim (dec_lt i at) [
      | yes q ↦ before i q
      | no q ↦ elim (dec_lt i (at + n)) [ yes r ↦ inside i (omega arith) r | no r ↦ after i (omega arith) ]
    ]
