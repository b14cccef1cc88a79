-- A number and its bytes are inverse, over any count of bytes.
-- Assumes nothing.
use Rattle.std.specs.Prelude.{◌≡◌, refl, List, [], ◌∷◌, ◌++◌, ℕ, zero, suc, ◌+◌, ◌*◌, ◌-◌, ◌/◌, ◌%◌, ◌^◌, ◌≤◌, ◌<◌, min, length, get_or}
use Rattle.std.specs.Prelude.{take, drop, set}
use Rattle.std.proofs.Common.{sym, ap, ap₂, ◌∙◌, add-suc, mul_assoc, pow-suc, div-one, div-lt_iff_lt-mul, lt_of_lt_of_le, add-one, arith}
use Rattle.std.proofs.Common.{length-append, take-suc, get_or-take, get_or-drop, length-take-le, drop_at, drop-drop}
use Rattle.std.proofs.Math.Nat.{pow-succ', div-div-eq-div-mul, pow-le-pow_right}
use Rattle.std.proofs.Math.Arith.{digits_lt, digits_div, digits_mod}
use Rattle.std.proofs.Math.ListN.{get_or-append}
use Rattle.std.proofs.lemmas.List.{get_or_at, set_split}
use Rattle.std.proofs.Math.Seq.{drop-length}
use Rattle.codec.specs.Bytes.{number_to, bytes_of, AreBytes}

-- ---- the steps of a loop that reads a number

pub number_none : (s : List ℕ) → 0 ≡ number_to 0 s
unfolding number_to
number_none s = refl

pub number_suc : (n : ℕ) (s : List ℕ) → number_to (suc n) s ≡ number_to n s * 256 + get_or s n 0
unfolding number_to
number_suc n s = refl

pub number_again : (x i : ℕ) (s : List ℕ) (v : ℕ) → x ≡ number_to i s → v ≡ get_or s i 0 → x * 256 + v ≡ number_to (i + 1) s
number_again x i s v p q = rw (add-one i, number_suc i s, p, q)

pub number_stop : (x i n : ℕ) (s : List ℕ) → x ≡ number_to i s → i ≤ n → n ≤ i → x ≡ number_to n s
number_stop x i n s p a b = let e : i ≡ n = omega arith in p ∙ ap (λ (k : ℕ). number_to k s) e

pub number_bound : (n : ℕ) (s : List ℕ) → AreBytes s → number_to n s < 256 ^ n
unfolding number_to
number_bound zero s b = omega arith
number_bound (suc n) s b = rw pow-suc (digits_lt (number_bound n s b) (b n))

pub bytes_behind : (s : List ℕ) → AreBytes s → (at : ℕ) → AreBytes (drop at s)
bytes_behind s b at i = omega (arith, get_or-drop at s i 0, b (at + i))

-- ---- only the bytes that are read count

pub number_cong : (n : ℕ) (s t : List ℕ) → ((i : ℕ) → i < n → get_or s i 0 ≡ get_or t i 0) → number_to n s ≡ number_to n t
unfolding number_to
number_cong zero s t h = refl
number_cong (suc n) s t h = ap₂ (λ (a b : ℕ). a * 256 + b) (number_cong n s t (λ i l. h i (omega arith))) (h n (omega arith))

pub number_append : (n : ℕ) (s t : List ℕ) → n ≤ length s → number_to n (s ++ t) ≡ number_to n s
number_append n s t l = number_cong n (s ++ t) s (λ i q. get_or-append s t 0 i (omega arith))

pub number_take : (n : ℕ) (s : List ℕ) → number_to n (take n s) ≡ number_to n s
number_take n s = number_cong n (take n s) s (λ i q. get_or-take n s i 0 q)

-- ---- bytes read apart

first_there : (s : List ℕ) (at : ℕ) → get_or (drop at s) 0 0 ≡ get_or s at 0
first_there s at = get_or-drop at s 0 0 ∙ ap (λ (k : ℕ). get_or s k 0) (let z : at + 0 ≡ at = omega arith in z)

-- one
pub number_one : (s : List ℕ) (at x : ℕ) → x ≡ get_or s at 0 → x ≡ number_to 1 (drop at s)
unfolding number_to
number_one s at x e = omega (arith, first_there s at)

-- two
pub number_two : (s : List ℕ) (at x y : ℕ) → x ≡ get_or s at 0 → y ≡ get_or s (at + 1) 0 → x * 256 + y ≡ number_to 2 (drop at s)
unfolding number_to
number_two s at x y e f = omega (arith, first_there s at, get_or-drop at s 1 0)

number_split : (n m : ℕ) (s : List ℕ) → number_to (n + m) s ≡ number_to n s * 256 ^ m + number_to m (drop n s)
number_split n zero s =
    let z : n + 0 ≡ n = omega arith in
    ap (λ (k : ℕ). number_to k s) z ∙ omega (arith, number_none (drop n s))
number_split n (suc m) s =
    let p : number_to n s * 256 ^ suc m ≡ number_to n s * 256 ^ m * 256 =
    ap (λ (k : ℕ). number_to n s * k) (pow-suc 256 m) ∙ sym (mul_assoc (number_to n s) (256 ^ m) 256) in
    ap (λ (k : ℕ). number_to k s) (add-suc n m)
    ∙ omega (arith, p, number_split n m s, number_suc (n + m) s, number_suc m (drop n s), get_or-drop n s m 0)

-- the last m of n + m
pub number_cut : (n m at : ℕ) (s : List ℕ)
    → number_to (n + m) (drop at s) ≡ number_to n (drop at s) * 256 ^ m + number_to m (drop (at + n) s)
number_cut n m at s =
    number_split n m (drop at s) ∙ ap (λ (l : List ℕ). number_to n (drop at s) * 256 ^ m + number_to m l) (drop-drop n at s)

-- ---- there and back

pub bytes_length : (n x : ℕ) → length (bytes_of n x) ≡ n
unfolding bytes_of
bytes_length zero x = refl
bytes_length (suc n) x = length-append (bytes_of n (x / 256)) (x % 256 ∷ []) ∙ omega (arith, bytes_length n (x / 256))

-- a number written as bytes and read again
pub number_bytes : (n x : ℕ) → x < 256 ^ n → number_to n (bytes_of n x) ≡ x
unfolding number_to bytes_of
number_bytes zero x l = omega arith
number_bytes (suc n) x l =
    let h : x / 256 < 256 ^ n = (div-lt_iff_lt-mul {k = 256} {x = x} {y = 256 ^ n} (omega arith)).1 (rw pow-suc at l) in
    let s = bytes_of n (x / 256) in
    let e = bytes_length n (x / 256) in
    let a = number_append n s (x % 256 ∷ []) (omega arith) ∙ number_bytes n (x / 256) h in
    rw (a, get_or_at s (x % 256) [] 0 n e) (omega arith)

-- bytes read as a number and written again
pub bytes_number : (n : ℕ) (s : List ℕ) → AreBytes s → n ≤ length s → bytes_of n (number_to n s) ≡ take n s
unfolding number_to bytes_of
bytes_number zero s b l = refl
bytes_number (suc n) s b l =
    rw (digits_div (number_to n s) (b n), digits_mod (number_to n s) (b n), take-suc s n 0 (omega arith), bytes_number n s b (omega arith))

-- ---- room in a machine word

pub number_more : (x i v : ℕ) → x < 256 ^ i → v < 256 → x * 256 + v < 256 ^ (i + 1)
number_more x i v p q = rw (add-one i, pow-suc) (digits_lt p q)

pub number_room : (x i n : ℕ) → x < 256 ^ i → i ≤ n → x < 256 ^ n
number_room x i n p q = lt_of_lt_of_le p (pow-le-pow_right {n = 256} (omega arith) q)

-- all of the bytes that are meant are there, or all that are there are meant
pub number_all : (x count limited : ℕ) (s : List ℕ) → x ≡ number_to limited s → limited ≡ min count 8 → limited ≤ length s
    → x ≡ number_to (min (min count 8) (length s)) s
number_all x count limited s p a h = let e : limited ≡ min (min count 8) (length s) = omega arith in p ∙ ap (λ (k : ℕ). number_to k s) e

pub number_short : (x count limited : ℕ) (s : List ℕ) → x ≡ number_to (length s) s → limited ≡ min count 8 → length s < limited
    → x ≡ number_to (min (min count 8) (length s)) s
number_short x count limited s p a h = let e : length s ≡ min (min count 8) (length s) = omega arith in p ∙ ap (λ (k : ℕ). number_to k s) e

-- a number of so many bytes, where so many are there
pub number_whole : (n : ℕ) (s : List ℕ) (x : ℕ) → x ≡ number_to (min (min n 8) (length s)) s → n ≤ 8 → n ≤ length s → x ≡ number_to n s
number_whole n s x e a b = let m : min (min n 8) (length s) ≡ n = omega arith in e ∙ ap (λ (k : ℕ). number_to k s) m

-- ---- the steps of a loop that stores a number, the last byte first

bytes_more : (n x : ℕ) → bytes_of (suc n) x ≡ x / 256 ^ n % 256 ∷ bytes_of n x
unfolding bytes_of
bytes_more zero x = rw (div-one x)
bytes_more (suc n) x =
    ap (λ (l : List ℕ). l ++ (x % 256 ∷ [])) (bytes_more n (x / 256))
    ∙ ap (λ (k : ℕ). k % 256 ∷ (bytes_of n (x / 256) ++ (x % 256 ∷ [])))
    (div-div-eq-div-mul x 256 (256 ^ n) ∙ ap (λ (k : ℕ). x / k) (sym (pow-succ' 256 n)))

drop_set : (l : List ℕ) (k v : ℕ) → k < length l → drop k (set l k v) ≡ v ∷ drop (suc k) l
drop_set l k v h = ap (drop k) (set_split l k v h) ∙ drop_at (take k l) (v ∷ drop (suc k) l) k (length-take-le k l (omega arith))

pub stored_none : (x n : ℕ) (l : List ℕ) → length l ≡ n → (x ≡ x / 256 ^ (n - n)) × (drop n l ≡ bytes_of (n - n) x)
unfolding bytes_of
stored_none x n l m = let z : n - n ≡ 0 = omega arith in rw z (sym (div-one x), ap (λ (k : ℕ). drop k l) (sym m) ∙ drop-length l)

pub stored_again : (x rest i n : ℕ) (l : List ℕ) → 0 < i → i ≤ n → length l ≡ n → rest ≡ x / 256 ^ (n - i) → drop i l ≡ bytes_of (n - i) x
    → drop (i - 1) (set l (i - 1) (rest % 256)) ≡ bytes_of (n - (i - 1)) x
stored_again x rest i n l p q m e h =
    let k : n - (i - 1) ≡ suc (n - i) = omega arith in
    let j : suc (i - 1) ≡ i = omega arith in
    rw (k, bytes_more (n - i) x)
    (drop_set l (i - 1) (rest % 256) (omega arith) ∙ ap₂ (λ (a : ℕ) (b : List ℕ). a % 256 ∷ b) e (ap (λ (y : ℕ). drop y l) j ∙ h))

pub stored_rest : (x rest i n : ℕ) → 0 < i → i ≤ n → rest ≡ x / 256 ^ (n - i) → rest / 256 ≡ x / 256 ^ (n - (i - 1))
stored_rest x rest i n p q e =
    let k : n - (i - 1) ≡ suc (n - i) = omega arith in
    rw (k, pow-suc, e) (div-div-eq-div-mul x (256 ^ (n - i)) 256)

pub stored_end : (x i n : ℕ) (l : List ℕ) → drop i l ≡ bytes_of (n - i) x → i ≤ 0 → l ≡ bytes_of n x
stored_end x i n l h a =
    let z : 0 ≡ i = omega arith in
    let e : n - i ≡ n = omega arith in
    ap (λ (k : ℕ). drop k l) z ∙ h ∙ ap (λ (k : ℕ). bytes_of k x) e
