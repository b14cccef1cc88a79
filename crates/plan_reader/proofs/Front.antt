-- Places written in the front of a list, and the front put back before the rest.
-- Assumes nothing.
use Rattle.std.specs.Prelude.{◌≡◌, List, ◌++◌, ℕ, zero, suc, ◌≤◌, ◌<◌, length, take, drop, set}
use Rattle.std.proofs.Common.{sym, ap, ◌∙◌, arith, length-take-le, take-append-drop}
use Rattle.std.proofs.lemmas.List.{set-append_left}
use Rattle.laws.specs.Written.{written}
use Rattle.laws.specs.Written.Properties.{written_length}

pub front_written : {A : Type 0} (i n : ℕ) (f : ℕ → A) (l : List A) → i ≤ n → n ≤ length l
    → written i f (take n l) ++ drop n l ≡ written i f l
unfolding written
front_written zero n f l a b = take-append-drop n l
front_written (suc i) n f l a b =
    let m : i < length (written i f (take n l)) = omega (arith, written_length i f (take n l), length-take-le n l b) in
    sym (set-append_left (written i f (take n l)) (drop n l) i (f i) m)
    ∙ ap (λ (k : List _). set k i (f i)) (front_written i n f l (omega arith) b)

pub front_filled : {A : Type 0} (m n : ℕ) (f : ℕ → A) (l ys : List A) → n ≤ length l → m ≡ length (take n l) → ys ≡ written m f (take n l)
    → ys ++ drop n l ≡ written n f l
front_filled m n f l ys a b e =
    let k : m ≡ n = b ∙ length-take-le n l a in
    ap (λ (t : List _). t ++ drop n l) (e ∙ ap (λ (i : ℕ). written i f (take n l)) k) ∙ front_written n n f l (omega arith) a
