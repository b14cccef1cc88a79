-- Places stored one after the other, and the default of an element that is there.
-- Assumes nothing.
use Rattle.std.specs.Prelude.{◌≡◌, refl, List, [], ◌∷◌, ℕ, zero, suc, ◌+◌, ◌*◌, ◌≤◌, ◌<◌, length, get_or, take}
use Rattle.std.proofs.Common.{ap, ap₂, ◌∙◌, arith, length-take-le, get_or-take}
use Rattle.std.proofs.lemmas.List.Edits.{sets}
use Rattle.codec.specs.Places.{put_to}

pub get_or_any : {A : Type 0} (xs : List A) (i : ℕ) (d e : A) → i < length xs → get_or xs i d ≡ get_or xs i e
get_or_any [] i d e l = absurd (omega arith)
get_or_any (x ∷ xs) zero d e l = refl
get_or_any (x ∷ xs) (suc i) d e l = get_or_any xs i d e (omega arith)

put_cong : (n : ℕ) (f g : ℕ → List ℕ) (start width : ℕ) (l : List ℕ) → ((i : ℕ) → i < n → f i ≡ g i)
    → put_to n f start width l ≡ put_to n g start width l
unfolding put_to
put_cong zero f g start width l h = refl
put_cong (suc n) f g start width l h =
    ap₂ (λ (m v : List ℕ). sets m (start + width * n) v) (put_cong n f g start width l (λ i p. h i (omega arith))) (h n (omega arith))

-- the first n of a list of places, in the form of a whole one
pub put_front : {A : Type 0} (n : ℕ) (xs : List A) (d : A) (b : A → List ℕ) (start width : ℕ) (l m : List ℕ) → n ≤ length xs
    → m ≡ put_to (length (take n xs)) (λ j. b (get_or (take n xs) j d)) start width l
    → m ≡ put_to n (λ j. b (get_or xs j d)) start width l
put_front n xs d b start width l m h e =
    e ∙ ap (λ (k : ℕ). put_to k (λ j. b (get_or (take n xs) j d)) start width l) (length-take-le n xs h)
    ∙ put_cong n (λ j. b (get_or (take n xs) j d)) (λ j. b (get_or xs j d)) start width l (λ i p. ap b (get_or-take n xs i d p))
