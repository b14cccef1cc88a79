-- Laws of numbered answers: each refusal that is made, refusals in an order, and the word that carries one.
-- Assumes nothing.
use Prim.Native.Nat.{ℕ, zero, suc, ◌<◌}
use Rattle.std.specs.Prelude.{◌≡◌, refl, ◌≢◌, Bool, true, false, ◌||◌, List, [], ◌∷◌, eqb, ltb}
use Rattle.std.proofs.Common.{sym, ap, ◌∙◌, true≢false, arith, eqb-true, ltb-true}
use Rattle.laws.specs.Tests.{and_left, and_right}
use Rattle.answer.specs.declared.Answer.{Answer}
use Rattle.answer.specs.declared.Answer.TheVariants.{Good, No}
use Rattle.answer.specs.declared.Refusal.{Refusal}
use Rattle.answer.specs.Answer.{bare, at_project, at_kind, not_admitted, number, refuse, ◌and_then◌, each_to}
use Rattle.answer.specs.Word.{Holds}
use Rattle.answer.specs.Numbers.{among, covers, small, placed, Numbered}

-- ---- numbers in a list

either : (a b : Bool) (P : Type 0) → (a || b) ≡ true → (a ≡ true → P) → (b ≡ true → P) → P
either true b P e f g = f refl
either false b P e f g = g e

among_covered : (listed few : List ℕ) (n : ℕ) → covers listed few ≡ true → among few n ≡ true → among listed n ≡ true
unfolding among covers
among_covered listed [] n c e = absurd (true≢false (sym e))
among_covered listed (m ∷ few) n c e =
    either (eqb n m) (among few n) (among listed n ≡ true) e
    (λ t. ap (among listed) (eqb-true n m t) ∙ and_left (among listed m) (covers listed few) c)
    (λ t. among_covered listed few n (and_right (among listed m) (covers listed few) c) t)

among_small : (listed : List ℕ) (n : ℕ) → small listed ≡ true → among listed n ≡ true → n < 256
unfolding among small
among_small [] n s e = absurd (true≢false (sym e))
among_small (m ∷ l) n s e =
    either (eqb n m) (among l n) (n < 256) e (λ t. omega (arith, eqb-true n m t, ltb-true m 256 (and_left (ltb m 256) (small l) s)))
    (λ t. among_small l n (and_right (ltb m 256) (small l) s) t)

-- 0 comes with no place
some_place : (n : ℕ) → among placed n ≡ true → n ≢ 0
unfolding among
some_place n e z = absurd (true≢false (sym (rw z at e)))

-- ---- each answer

is_good : (w : Refusal) → No w ≡ Good → ⊥
is_good w e = let z : ◌≡◌ {A = ℕ} 0 1 = cc in omega arith

module _ (listed : List ℕ) where
  pub good_numbered : Numbered listed Good
  good_numbered =
      record {
        good = (λ e. refl, λ e. refl);
        its_number = λ w e. absurd (is_good w (sym e));
        its_place = λ e. refl;
        place_most = omega arith;
        its_excess = λ e. refl;
        excess_most = omega arith;
        its_slice = λ e. refl;
        slice_most = omega arith;
      }

  pub bare_numbered : (n : ℕ) → n ≢ 0 → among listed n ≡ true → Numbered listed (bare n)
  bare_numbered n z m =
      record {
        good = (λ e. absurd (z e), λ e. absurd (is_good _ e));
        its_number = λ w e. m;
        its_place = λ e. refl;
        place_most = omega arith;
        its_excess = λ e. refl;
        excess_most = omega arith;
        its_slice = λ e. refl;
        slice_most = omega arith;
      }

  pub project_numbered : (n j : ℕ) → among placed n ≡ true → among listed n ≡ true → j < 16 → Numbered listed (at_project n j)
  project_numbered n j p m l =
      record {
        good = (λ e. absurd (some_place n p e), λ e. absurd (is_good _ e));
        its_number = λ w e. m;
        its_place = λ e. absurd (true≢false (sym p ∙ e));
        place_most = l;
        its_excess = λ e. refl;
        excess_most = omega arith;
        its_slice = λ e. refl;
        slice_most = omega arith;
      }

  pub kind_numbered : (n i : ℕ) → among placed n ≡ true → among listed n ≡ true → i < 16 → Numbered listed (at_kind n i)
  kind_numbered n i p m l =
      record {
        good = (λ e. absurd (some_place n p e), λ e. absurd (is_good _ e));
        its_number = λ w e. m;
        its_place = λ e. absurd (true≢false (sym p ∙ e));
        place_most = l;
        its_excess = λ e. refl;
        excess_most = omega arith;
        its_slice = λ e. refl;
        slice_most = omega arith;
      }

  pub eight_numbered : (i x a : ℕ) → among listed 8 ≡ true → i < 16 → x < 16777216 → a < 64 → Numbered listed (not_admitted i x a)
  unfolding among
  eight_numbered i x a m l h s =
      record {
        good = (λ e. absurd (omega arith), λ e. absurd (is_good _ e));
        its_number = λ w e. m;
        its_place = λ e. absurd (true≢false e);
        place_most = l;
        its_excess = λ e. absurd (e refl);
        excess_most = h;
        its_slice = λ e. absurd (e refl);
        slice_most = s;
      }

  -- ---- answers in an order

  pub refuse_numbered : (t : Bool) (a : Answer) → Numbered listed a → Numbered listed (refuse t a)
  refuse_numbered true a k = k
  refuse_numbered false a k = good_numbered

  pub and_then_numbered : (a b : Answer) → Numbered listed a → (a ≡ Good → Numbered listed b) → Numbered listed (a and_then b)
  and_then_numbered Good b p q = q refl
  and_then_numbered (No w) b p q = p

  pub each_numbered : (n : ℕ) (f : ℕ → Answer) → ((i : ℕ) → i < n → Numbered listed (f i)) → Numbered listed (each_to n f)
  unfolding each_to
  each_numbered zero f h = good_numbered
  each_numbered (suc n) f h = and_then_numbered (each_to n f) (f n) (each_numbered n f (λ i l. h i (omega arith))) (λ e. h n (omega arith))

  -- a call that lists these and more
  pub wider : (few : List ℕ) (a : Answer) → covers listed few ≡ true → Numbered few a → Numbered listed a
  wider few a c k =
      record {
        good = k.good;
        its_number = λ w e. among_covered listed few (number a) c (k.its_number w e);
        its_place = k.its_place;
        place_most = k.place_most;
        its_excess = k.its_excess;
        excess_most = k.excess_most;
        its_slice = k.its_slice;
        slice_most = k.slice_most;
      }

  -- ---- the word can hold it

  pub numbered_holds : (a : Answer) → small listed ≡ true → Numbered listed a → Holds a
  numbered_holds a s k =
      record {
        number_most = most a k;
        place_most = omega (arith, k.place_most);
        excess_most = k.excess_most;
        slice_most = omega (arith, k.slice_most);
      }
    where
      most : (b : Answer) → Numbered listed b → number b < 256
      most Good t = omega arith
      most (No w) t = among_small listed (number (No w)) s (t.its_number w refl)
