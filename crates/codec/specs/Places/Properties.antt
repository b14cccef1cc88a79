-- Laws of places: the steps of a loop that stores them, what the whole list is then, and each place found again.
-- Assumes nothing.
use Rattle.std.specs.Prelude.{◌≡◌, refl, List, ◌++◌, ℕ, zero, suc, ◌+◌, ◌*◌, ◌-◌, ◌≤◌, ◌<◌, min, length, take, drop}
use Rattle.std.proofs.Common.{sym, ap, ap₂, ◌∙◌, append_assoc, append-nil, mul-suc, mul-zero, add-one, arith, length-append, length-drop}
use Rattle.std.proofs.Common.{length-take-le, take_at, take_all, take-add, drop_at, drop-drop}
use Rattle.std.proofs.Math.Decide.{dec_lt}
use Rattle.std.proofs.lemmas.List.Edits.{sets, sets-eq}
use Rattle.std.proofs.Math.Seq.{length-sets, drop-append-add}
use Rattle.codec.specs.Bytes.{number_to, bytes_of}
use Rattle.codec.specs.Bytes.Properties.{bytes_length, number_take, number_whole}
use Rattle.codec.specs.Places.{parts_to, put_to}

-- ---- a part that is handed on

-- what `&s[a..]` hands on is what starts at a
pub handed_on : (s : List ℕ) (a : ℕ) → take (length s - a) (drop a s) ≡ drop a s
handed_on s a = take_all (length s - a) (drop a s) (omega (arith, length-drop a s))

-- the number that `&s[at..at + n]` says is that of the n bytes there
pub number_handed : (n at : ℕ) (s : List ℕ) (x : ℕ)
    → x ≡ number_to (min (min n 8) (length (take (at + n - at) (drop at s)))) (take (at + n - at) (drop at s))
    → at + n ≤ length s → n ≤ 8 → x ≡ number_to n (drop at s)
number_handed n at s x e a b =
    let m : at + n - at ≡ n = omega arith in
    let k : length (take n (drop at s)) ≡ n = length-take-le n (drop at s) (omega (arith, length-drop at s)) in
    number_whole n (take n (drop at s)) x (rw m at e) b (omega (arith, k)) ∙ number_take n (drop at s)

-- a number stored in the part from there on, of so many bytes, that was lent and is back
pub number_lent : (n at x : ℕ) (l ys : List ℕ) → at + n ≤ length l → ys ≡ bytes_of (length (take (at + n - at) (drop at l))) x
    → take at l ++ (ys ++ drop (at + n - at) (drop at l)) ≡ sets l at (bytes_of n x)
number_lent n at x l ys h e =
    let vs = bytes_of n x in
    let m : at + n - at ≡ n = omega arith in
    let k : length (take n (drop at l)) ≡ n = length-take-le n (drop at l) (omega (arith, length-drop at l)) in
    let w = bytes_length n x in
    let y : ys ≡ vs = e ∙ ap (λ (z : ℕ). bytes_of (length (take z (drop at l))) x) m ∙ ap (λ (z : ℕ). bytes_of z x) k in
    let d : drop (at + n - at) (drop at l) ≡ drop (at + length vs) l = ap (λ (z : ℕ). drop z (drop at l)) (m ∙ sym w)
    ∙ drop-drop (length vs) at l in
    ap₂ (λ (a b : List ℕ). take at l ++ (a ++ b)) y d ∙ sym (append_assoc (take at l) vs (drop (at + length vs) l))
    ∙ sym (sets-eq vs l at (omega arith))

-- ---- the steps of a loop

pub put_none : (f : ℕ → List ℕ) (start width : ℕ) (l : List ℕ) → l ≡ put_to 0 f start width l
unfolding put_to
put_none f start width l = refl

pub put_again : (i : ℕ) (f : ℕ → List ℕ) (start width : ℕ) (l m k : List ℕ) → m ≡ put_to i f start width l
    → k ≡ sets m (start + width * i) (f i) → k ≡ put_to (i + 1) f start width l
unfolding put_to
put_again i f start width l m k e q = rw (add-one i) (q ∙ ap (λ (x : List ℕ). sets x (start + width * i) (f i)) e)

pub put_stop : (i n : ℕ) (f : ℕ → List ℕ) (start width : ℕ) (l m : List ℕ) → m ≡ put_to i f start width l → i ≤ n → n ≤ i
    → m ≡ put_to n f start width l
put_stop i n f start width l m p a b = let e : i ≡ n = omega arith in p ∙ ap (λ (k : ℕ). put_to k f start width l) e

pub put_length : (n : ℕ) (f : ℕ → List ℕ) (start width : ℕ) (l : List ℕ) → length (put_to n f start width l) ≡ length l
unfolding put_to
put_length zero f start width l = refl
put_length (suc n) f start width l = length-sets (put_to n f start width l) (start + width * n) (f n) ∙ put_length n f start width l

-- ---- the whole list

pub parts_length : (n : ℕ) (f : ℕ → List ℕ) (width : ℕ) → ((i : ℕ) → length (f i) ≡ width) → length (parts_to n f) ≡ width * n
unfolding parts_to
parts_length zero f width h = sym (mul-zero width)
parts_length (suc n) f width h = length-append (parts_to n f) (f n) ∙ omega (arith, parts_length n f width h, h n, mul-suc width n)

-- a list whose front is xs and whose rest is e's, with vs stored behind xs
pub front_sets : (xs vs e l : List ℕ) (n : ℕ) → length xs ≡ n → l ≡ xs ++ drop n e → n + length vs ≤ length e
    → sets l n vs ≡ xs ++ vs ++ drop (n + length vs) e
front_sets xs vs e l n p q r =
    let m : length l ≡ length e = ap length q ∙ length-append xs (drop n e) ∙ omega (arith, length-drop n e) in
    let a : take n l ≡ xs = ap (take n) q ∙ take_at xs (drop n e) n p in
    let b : drop (n + length vs) l ≡ drop (n + length vs) e =
    ap (drop (n + length vs)) q ∙ ap (λ (k : ℕ). drop (k + length vs) (xs ++ drop n e)) (sym p) ∙ drop-append-add xs (drop n e) (length vs)
    ∙ drop-drop (length vs) n e in
    sets-eq vs l n (omega arith) ∙ ap₂ (λ (x y : List ℕ). x ++ vs ++ y) a b

-- the same with parts
pub front_put : (m : ℕ) (f : ℕ → List ℕ) (width : ℕ) (xs e l : List ℕ) (n : ℕ) → ((i : ℕ) → length (f i) ≡ width) → length xs ≡ n
    → l ≡ xs ++ drop n e → n + width * m ≤ length e
    → put_to m f n width l ≡ xs ++ parts_to m f ++ drop (n + width * m) e
unfolding put_to parts_to
front_put zero f width xs e l n h p q r =
    let z : n + width * 0 ≡ n = omega (arith, mul-zero width) in
    q ∙ ap₂ (λ (x : List ℕ) (k : ℕ). x ++ drop k e) (sym (append-nil xs)) (sym z)
front_put (suc m) f width xs e l n h p q r =
    let s : width * suc m ≡ width * m + width = mul-suc width m in
    let i = front_put m f width xs e l n h p q (omega arith) in
    let k : length (xs ++ parts_to m f) ≡ n + width * m = length-append xs (parts_to m f) ∙ omega (arith, parts_length m f width h) in
    let w = h m in
    front_sets (xs ++ parts_to m f) (f m) e (put_to m f n width l) (n + width * m) k i (omega arith)
    ∙ ap₂ (λ (x : List ℕ) (j : ℕ). x ++ drop j e) (append_assoc xs (parts_to m f) (f m))
    (let z : n + width * m + length (f m) ≡ n + width * suc m = omega arith in z)

-- ---- each place found again

-- what stands behind the first parts begins with the next
pub parts_drop : (n w : ℕ) (f : ℕ → List ℕ) (rest : List ℕ) (i : ℕ) → ((j : ℕ) → length (f j) ≡ w) → i < n
    → (more : List ℕ) × (drop (w * i) (parts_to n f ++ rest) ≡ f i ++ more)
unfolding parts_to
parts_drop zero w f rest i h l = absurd (omega arith)
parts_drop (suc n) w f rest i h l =
    elim (dec_lt i n) [ yes q ↦ earlier (parts_drop n w f (f n ++ rest) i h q) | no q ↦ (rest, here (omega arith)) ]
  where
    earlier : ((more : List ℕ) × (drop (w * i) (parts_to n f ++ (f n ++ rest)) ≡ f i ++ more))
        → (more : List ℕ) × (drop (w * i) (parts_to n f ++ f n ++ rest) ≡ f i ++ more)
    earlier t = (t.0, ap (drop (w * i)) (append_assoc (parts_to n f) (f n) rest) ∙ t.1)

    here : i ≡ n → drop (w * i) (parts_to n f ++ f n ++ rest) ≡ f i ++ rest
    here e =
        ap (drop (w * i)) (append_assoc (parts_to n f) (f n) rest)
        ∙ drop_at (parts_to n f) (f n ++ rest) (w * i) (parts_length n f w h ∙ ap (λ (k : ℕ). w * k) (sym e))
        ∙ ap (λ (k : ℕ). f k ++ rest) (sym e)

-- parts cut out one after the other are the front
pub parts_front : (n w : ℕ) (f : ℕ → List ℕ) (s : List ℕ) →
    ((i : ℕ) → i < n → f i ≡ take w (drop (w * i) s)) →
    parts_to n f ≡ take (w * n) s
unfolding parts_to
parts_front zero w f s h = rw (mul-zero w)
parts_front (suc n) w f s h =
    ap₂ ◌++◌ (parts_front n w f s (λ i l. h i (omega arith))) (h n (omega arith)) ∙ sym (take-add (w * n) w s)
    ∙ ap (λ (k : ℕ). take k s) (sym (mul-suc w n))
