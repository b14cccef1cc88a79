-- Laws of `written`.
-- Assumes nothing.
use Rattle.std.specs.Prelude.{◌≡◌, refl, List, ◌≢◌, ℕ, zero, suc, ◌+◌, ◌≤◌, ◌<◌, length, get_or, set, replicate}
use Rattle.std.proofs.Common.{sym, ap, ap₂, ◌∙◌, add-one, arith, length-set, get_or-set_same, get_or-set_other, ext_get_or}
use Rattle.std.proofs.Math.Decide.{dec_lt, ℕ_discrete}
use Rattle.std.proofs.lemmas.List.{length-replicate, get_or-replicate, set-get_or}
use Rattle.std.proofs.Math.ListN.{get_or-eq_default}
use Rattle.laws.specs.Loops.{stop}
use Rattle.laws.specs.Written.{written}

pub written_none : {A : Type 0} (f : ℕ → A) (l : List A) → l ≡ written 0 f l
unfolding written
written_none f l = refl

pub written_suc : {A : Type 0} (n : ℕ) (f : ℕ → A) (l : List A) → written (suc n) f l ≡ set (written n f l) n (f n)
unfolding written
written_suc n f l = refl

pub written_more : {A : Type 0} (n : ℕ) (f : ℕ → A) (l : List A) → written (n + 1) f l ≡ set (written n f l) n (f n)
written_more n f l = rw add-one (written_suc n f l)

pub written_again : {A : Type 0} (i : ℕ) (f : ℕ → A) (l m : List A) (v : A) → m ≡ written i f l → v ≡ f i → set m i v ≡ written (i + 1) f l
written_again i f l m v p q = rw (written_more i f l, p, q)

pub written_stop : {A : Type 0} (i n : ℕ) (f : ℕ → A) (l m : List A) → m ≡ written i f l → i ≤ n → n ≤ i → m ≡ written n f l
written_stop i n f l m = stop (λ (k : ℕ). written k f l) m i n

pub written_length : {A : Type 0} (n : ℕ) (f : ℕ → A) (l : List A) → length (written n f l) ≡ length l
unfolding written
written_length zero f l = refl
written_length (suc n) f l = length-set (written n f l) n (f n) ∙ written_length n f l

pub written_at : {A : Type 0} (n : ℕ) (f : ℕ → A) (l : List A) (d : A) (i : ℕ) → i < n → n ≤ length l → get_or (written n f l) i d ≡ f i
unfolding written
written_at zero f l d i p q = absurd (omega arith)
written_at (suc n) f l d i p q =
    elim (dec_lt i n) [
      | yes s ↦ get_or-set_other (written n f l) n i (f n) d (λ e. omega arith) ∙ written_at n f l d i s (omega arith)
      | no s ↦ here (omega arith)
    ]
  where
    here : i ≡ n → get_or (set (written n f l) n (f n)) i d ≡ f i
    here e = rw e (get_or-set_same (written n f l) n (f n) d (omega (arith, written_length n f l)))

pub written_kept : {A : Type 0} (n : ℕ) (f : ℕ → A) (l : List A) (d : A) (i : ℕ) → n ≤ i → get_or (written n f l) i d ≡ get_or l i d
unfolding written
written_kept zero f l d i p = refl
written_kept (suc n) f l d i p = get_or-set_other (written n f l) n i (f n) d (λ e. omega arith) ∙ written_kept n f l d i (omega arith)

-- what is there already need not be stored
pub written_same : {A : Type 0} (i : ℕ) (f : ℕ → A) (l m : List A) (d : A) →
    m ≡ written i f l →
    f i ≡ get_or l i d →
    m ≡ written (i + 1) f l
written_same i f l m d p q =
    p ∙ sym (set-get_or (written i f l) i d) ∙ ap (λ (v : _). set (written i f l) i v) (written_kept i f l d i (omega arith) ∙ sym q)
    ∙ sym (written_more i f l)

pub written_cong : {A : Type 0} (n : ℕ) (f g : ℕ → A) (l : List A) → ((i : ℕ) → i < n → f i ≡ g i) → written n f l ≡ written n g l
unfolding written
written_cong zero f g l h = refl
written_cong (suc n) f g l h = ap₂ (λ (m : List _) (v : _). set m n v) (written_cong n f g l (λ i p. h i (omega arith))) (h n (omega arith))

-- one place more, stored over what was written: g is f but for that place
pub written_set : {A : Type 0} (n : ℕ) (f g : ℕ → A) (l : List A) (d : A) (c : ℕ) → c < n → n ≤ length l →
    ((i : ℕ) → i < n → i ≢ c → g i ≡ f i) → set (written n f l) c (g c) ≡ written n g l
written_set n f g l d c p q h =
    ext_get_or d (set (written n f l) c (g c)) (written n g l)
    (length-set (written n f l) c (g c) ∙ written_length n f l ∙ sym (written_length n g l)) at
  where
    other : (i : ℕ) → i ≢ c → get_or (set (written n f l) c (g c)) i d ≡ get_or (written n g l) i d
    other i z =
        get_or-set_other (written n f l) c i (g c) d z
        ∙ elim (dec_lt i n) [
          | yes t ↦ written_at n f l d i t q ∙ sym (h i t z) ∙ sym (written_at n g l d i t q)
          | no t ↦ written_kept n f l d i (omega arith) ∙ sym (written_kept n g l d i (omega arith))
        ]

    same : (i : ℕ) → i ≡ c → get_or (set (written n f l) c (g c)) i d ≡ get_or (written n g l) i d
    same i z = rw z (get_or-set_same (written n f l) c (g c) d (omega (arith, written_length n f l)) ∙ sym (written_at n g l d c p q))

    at : (i : ℕ) → i < length (set (written n f l) c (g c)) → get_or (set (written n f l) c (g c)) i d ≡ get_or (written n g l) i d
    at i m = elim (ℕ_discrete i c) [ yes z ↦ same i z | no z ↦ other i z ]

-- ---- an array of zeros with f i stored at each i below n

get_d_zero : (k i : ℕ) → get_or {A = ℕ} (replicate k 0) i 0 ≡ 0
get_d_zero k i =
    elim (dec_lt i k) [
      | yes p ↦ get_or-replicate k i 0 0 p
      | no p ↦ get_or-eq_default (replicate k 0) 0 (omega (arith, length-replicate {A = ℕ} k 0))
    ]

pub stored_at : (n k : ℕ) (f : ℕ → ℕ) (i : ℕ) → i < n → n ≤ k → get_or (written n f (replicate k 0)) i 0 ≡ f i
stored_at n k f i p q = written_at n f (replicate k 0) 0 i p (omega (arith, length-replicate {A = ℕ} k 0))

pub stored_past : (n k : ℕ) (f : ℕ → ℕ) (i : ℕ) → n ≤ i → get_or (written n f (replicate k 0)) i 0 ≡ 0
stored_past n k f i p = written_kept n f (replicate k 0) 0 i p ∙ get_d_zero k i

pub stored_most : (n k most : ℕ) (f : ℕ → ℕ) → ((i : ℕ) → i < n → f i ≤ most) → n ≤ k → (i : ℕ) →
    get_or (written n f (replicate k 0)) i 0 ≤ most
stored_most n k most f h q i =
    elim (dec_lt i n) [ yes p ↦ omega (arith, stored_at n k f i p q, h i p) | no p ↦ omega (arith, stored_past n k f i (omega arith)) ]
