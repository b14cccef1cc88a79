-- Laws of text.
-- Assumes nothing.
use Rattle.std.specs.Prelude.{◌≡◌, refl, List, [], ◌∷◌, ◌++◌, ℕ, zero, suc, ◌+◌, ◌-◌, ◌*◌, ◌/◌, ◌%◌, ◌^◌, ◌≤◌, ◌<◌, length, take, drop}
use Rattle.std.specs.Prelude.{get_or, set}
use Rattle.std.proofs.Common.{sym, append_assoc, drop-drop, ap, ap₂, ◌∙◌, add-zero, pow-suc, div-lt_iff_lt-mul, arith, length-append}
use Rattle.std.proofs.Common.{lt-ltb, le-ltb}
use Rattle.std.proofs.Math.Decide.{dec_lt}
use Rattle.std.proofs.Math.ListN.{get_or-append}
use Rattle.std.proofs.lemmas.List.Edits.{sets, sets-eq}
use borrow.Rule.Slice.PartMut.{put_mid}
use Rattle.std.proofs.Math.Seq.{get_or-append_seam, length-sets}
use Rattle.std.specs.Fmt as library
use Rattle.std.proofs.lemmas.Fmt.{decimal_by_steps}
use Rattle.lines.specs.Text.{digit, decimal_in, decimal, IsDigit, says_behind, says, Puts, Adds}
use Rattle.lines.specs.declared.text.Text.{Text}

-- ---- stores one behind the other

sets_append : (l : List ℕ) (at : ℕ) (xs ys : List ℕ) → sets l at (xs ++ ys) ≡ sets (sets l at xs) (at + length xs) ys
sets_append l at [] ys = ap (λ (k : ℕ). sets l k ys) (sym (add-zero at))
sets_append l at (x ∷ xs) ys =
    let e : suc at + length xs ≡ at + suc (length xs) = omega arith in
    sets_append (set l at x) (suc at) xs ys ∙ ap (λ (k : ℕ). sets (sets (set l at x) (suc at) xs) k ys) e

pub sets_nothing : (l : List ℕ) (at : ℕ) (xs : List ℕ) → length xs ≡ 0 → sets l at xs ≡ l
sets_nothing l at [] e = refl
sets_nothing l at (x ∷ xs) e = absurd (omega arith)

pub puts_none : (l : List ℕ) (at : ℕ) → Puts l at [] at l
puts_none l at = record { end = sym (add-zero at); buffer = refl }

-- text behind text is both
pub puts_then : (l m o : List ℕ) (at n k : ℕ) (xs ys : List ℕ) → Puts l at xs n m → Puts m n ys k o → Puts l at (xs ++ ys) k o
puts_then l m o at n k xs ys p q =
    let e = p.end in
    let f = q.end in
    record {
      end = omega (arith, length-append xs ys);
      buffer = q.buffer ∙ ap₂ (λ (x : List ℕ) (j : ℕ). sets x j ys) p.buffer e ∙ sym (sets_append l at xs ys);
    }

pub puts_length : (l m : List ℕ) (at n : ℕ) (xs : List ℕ) → Puts l at xs n m → length m ≡ length l
puts_length l m at n xs p = ap length p.buffer ∙ length-sets l at xs

pub adds_none : (s : Text) → Adds s [] s
adds_none s = record { lent = refl; size = refl; puts = puts_none s.out.now s.at }

pub adds_then : (s t u : Text) (xs ys : List ℕ) → Adds s xs t → Adds t ys u → Adds s (xs ++ ys) u
adds_then s t u xs ys p q =
    record {
      lent = q.lent ∙ p.lent;
      size = q.size ∙ p.size;
      puts = puts_then s.out.now t.out.now u.out.now s.at t.at u.at xs ys p.puts q.puts;
    }

-- ---- a word, stored in the part of the buffer that was lent for it and is back

pub puts_lent : (l w ys : List ℕ) (at : ℕ) → at + length w ≤ length l → ys ≡ w
    → Puts l at w (at + length w) (put_mid at (at + length w - at) l ys)
puts_lent l w ys at h e =
    let m : at + length w - at ≡ length w = omega arith in
    record {
      end = refl;
      buffer =
          rw (e, m, drop-drop (length w) at l) (sym (append_assoc (take at l) w (drop (at + length w) l)) ∙ sym (sets-eq w l at h));
    }

-- ---- a number's digits

-- enough steps are enough
decimal_steps : (f g n : ℕ) → n < f → n < g → decimal_in f n ≡ decimal_in g n
unfolding decimal_in
decimal_steps zero g n a b = absurd (omega arith)
decimal_steps (suc f) zero n a b = absurd (omega arith)
decimal_steps (suc f) (suc g) n a b =
    elim (dec_lt n 10) [
      | yes p ↦ rw (lt-ltb n 10 p)
      | no p ↦ rw (le-ltb n 10 (omega arith), decimal_steps f g (n / 10) (omega arith) (omega arith))
    ]

decimal_small : (n : ℕ) → n < 10 → decimal n ≡ digit n ∷ []
unfolding decimal decimal_in
decimal_small n l = rw (lt-ltb n 10 l)

decimal_large : (n : ℕ) → 10 ≤ n → decimal n ≡ decimal (n / 10) ++ (digit (n % 10) ∷ [])
unfolding decimal decimal_in
decimal_large n l = rw (le-ltb n 10 l, decimal_steps n (suc (n / 10)) (n / 10) (omega arith) (omega arith))

-- the room that it takes
decimal_more : (n : ℕ) → 10 ≤ n → length (decimal n) ≡ length (decimal (n / 10)) + 1
decimal_more n h = rw (decimal_large n h) (length-append (decimal (n / 10)) (digit (n % 10) ∷ []))

pub decimal_one : (n : ℕ) → n < 10 → length (decimal n) ≡ 1
decimal_one n h = rw (decimal_small n h)

decimal_most : (k n : ℕ) → n < 10 ^ suc k → length (decimal n) ≤ suc k
decimal_most zero n h = omega (arith, decimal_one n h)
decimal_most (suc k) n h =
    elim (dec_lt n 10) [
      | yes p ↦ omega (arith, decimal_one n p)
      | no p ↦
          let q : n / 10 < 10 ^ suc k = (div-lt_iff_lt-mul {k = 10} {x = n} {y = 10 ^ suc k} (omega arith)).1 (rw pow-suc at h) in
          omega (arith, decimal_more n (omega arith), decimal_most k (n / 10) q)
    ]

-- a number of 32 bits has at most ten digits
pub decimal_ten : (n : ℕ) → n < 2 ^ 32 → length (decimal n) ≤ 10
decimal_ten n h = decimal_most 9 n (omega arith)

-- the library's digits are these
pub decimal_is : (n : ℕ) → n < 2 ^ 64 → library.decimal n ≡ decimal n
decimal_is n h =
    decimal_by_steps (λ k ds. ds ≡ decimal k) (λ k l. sym (decimal_small k l))
    (λ k ds l e. ap (λ (x : List ℕ). x ++ (digit (k % 10) ∷ [])) e ∙ sym (decimal_large k l)) n h

pub adds_digit : (s t : Text) (n : ℕ) → n < 10 → Adds s ((48 + n) ∷ []) t → Adds s (decimal n) t
adds_digit s t n h a = rw (decimal_small n h) a

pub adds_number : (s t : Text) (text bytes : List ℕ) (n : ℕ) → n < 2 ^ 32 → text ≡ library.decimal n → bytes ≡ text → Adds s bytes t
    → Adds s (decimal n) t
adds_number s t text bytes n h e f a =
    let d = decimal_is n (omega arith) in
    rw (f, e, d) at a

-- ---- what the digits say

alone : (d i : ℕ) → d < 10 → i < length (digit d ∷ []) → IsDigit (get_or (digit d ∷ []) i 0)
alone d zero p l = (omega arith, omega arith)
alone d (suc i) p l = absurd (omega arith)

behind : (xs : List ℕ) (d i : ℕ) → d < 10 → ((k : ℕ) → k < length xs → IsDigit (get_or xs k 0)) → i < length (xs ++ (digit d ∷ []))
    → IsDigit (get_or (xs ++ (digit d ∷ [])) i 0)
behind xs d i p h l =
    elim (dec_lt i (length xs)) [
      | yes q ↦ rw (get_or-append xs (digit d ∷ []) 0 i q) (h i q)
      | no q ↦
          let e : i ≡ length xs = omega (arith, length-append xs (digit d ∷ [])) in
          rw (e, get_or-append_seam xs (digit d) [] 0) (omega arith, omega arith)
    ]

digits_in : (steps n i : ℕ) → i < length (decimal_in steps n) → IsDigit (get_or (decimal_in steps n) i 0)
unfolding decimal_in
digits_in zero n i = λ l. absurd (omega arith)
digits_in (suc steps) n i =
    elim (dec_lt n 10) [
      | yes p ↦ rw (lt-ltb n 10 p) (λ l. alone n i p l)
      | no p ↦ rw (le-ltb n 10 (omega arith)) (λ l. behind (decimal_in steps (n / 10)) (n % 10) i (omega arith)
          (digits_in steps (n / 10)) l)
    ]

-- each byte is a digit
pub decimal_digits : (n i : ℕ) → i < length (decimal n) → IsDigit (get_or (decimal n) i 0)
unfolding decimal
decimal_digits n = digits_in (suc n) n

says_append : (m : ℕ) (xs ys : List ℕ) → says_behind m (xs ++ ys) ≡ says_behind (says_behind m xs) ys
unfolding says_behind
says_append m [] ys = refl
says_append m (x ∷ xs) ys = says_append (m * 10 + (x - 48)) xs ys

says_in : (steps n : ℕ) → n < steps → says (decimal_in steps n) ≡ n
unfolding decimal_in says_behind
says_in zero n l = absurd (omega arith)
says_in (suc steps) n l =
    elim (dec_lt n 10) [
      | yes p ↦ rw (lt-ltb n 10 p) (omega arith)
      | no p ↦
          rw (
            le-ltb n 10 (omega arith),
            says_append 0 (decimal_in steps (n / 10)) (digit (n % 10) ∷ []),
            says_in steps (n / 10) (omega arith),
          ) (omega arith)
    ]

-- the digits of n say n
pub decimal_says : (n : ℕ) → says (decimal n) ≡ n
unfolding decimal
decimal_says n = says_in (suc n) n (omega arith)

first_in : (steps n : ℕ) → n < steps → (0 < length (decimal_in steps n)) × (get_or (decimal_in steps n) 0 0 ≡ 48 → n ≡ 0)
unfolding decimal_in
first_in zero n l = absurd (omega arith)
first_in (suc steps) n l =
    elim (dec_lt n 10) [
      | yes p ↦ rw (lt-ltb n 10 p) (omega arith, λ e. omega arith)
      | no p ↦
          let tenth = first_in steps (n / 10) (omega arith) in
          let same : get_or (decimal_in steps (n / 10) ++ (digit (n % 10) ∷ [])) 0 0 ≡ get_or (decimal_in steps (n / 10)) 0 0 =
          get_or-append (decimal_in steps (n / 10)) (digit (n % 10) ∷ []) 0 0 tenth.0 in
          rw (le-ltb n 10 (omega arith)) (
            omega (arith, length-append (decimal_in steps (n / 10)) (digit (n % 10) ∷ [])),
            λ e. absurd (omega (arith, tenth.1 (sym same ∙ e))),
          )
    ]

-- no leading zero: the first digit is 0 only where n is
pub decimal_first : (n : ℕ) → get_or (decimal n) 0 0 ≡ 48 → n ≡ 0
unfolding decimal
decimal_first n = (first_in (suc n) n (omega arith)).1
