-- Laws of lists whose turns rise.
-- Assumes nothing.
use Rattle.std.specs.Prelude.{◌≡◌, refl, ◌≢◌, Bool, true, false, cond, List, [], ◌∷◌, ◌++◌, eqb, length}
use Rattle.std.proofs.Common.{mul-suc, mul-zero, arith, eqb-true}
use Prim.Native.Nat.{ℕ, zero, suc, ◌+◌, ◌*◌, ◌≤◌, ◌<◌}
use Rattle.std.proofs.Math.Decide.{ℕ_discrete}
use Rattle.laws.specs.Tests.{and_left, and_right}
use Rattle.plan.specs.declared.Plan.{Plan}
use Rattle.rescue.specs.Entry.{Entry, entry, change, entries_to}
use Rattle.rescue.specs.Entry.Properties.{change_none, change_some}
use Rattle.rescue.specs.Applied.{names, about}
use Rattle.rescue.specs.Turns.{turn_of, turn, Rising, places_of, Says, Every}

-- ---- turns that rise

later : (a b c : ℕ) (es : List Entry) → a ≤ b → Rising b c es → Rising a c es
later a b c [] l r = omega arith
later a b c (e ∷ es) l r = (omega (arith, r.0), r.1)

pub rising_wider : (a b c : ℕ) (es : List Entry) → Rising a b es → b ≤ c → Rising a c es
rising_wider a b c [] r l = omega arith
rising_wider a b c (e ∷ es) r l = (r.0, rising_wider (suc (turn e)) b c es r.1 l)

pub rising_append : (a b c : ℕ) (xs ys : List Entry) → Rising a b xs → Rising b c ys → Rising a c (xs ++ ys)
rising_append a b c [] ys r t = later a b c ys r t
rising_append a b c (e ∷ xs) ys r t = (r.0, rising_append (suc (turn e)) b c xs ys r.1 t)

pub rising_each : (n w a : ℕ) (g : ℕ → List Entry) → ((k : ℕ) → k < n → Rising (a + w * k) (a + w * k + w) (g k))
    → Rising a (a + w * n) (entries_to n g)
unfolding entries_to
rising_each zero w a g h = omega (arith, mul-zero w)
rising_each (suc n) w a g h =
    rising_append a (a + w * n) (a + w * suc n) (entries_to n g) (g n) (rising_each n w a g (λ k l. h k (omega arith)))
    (rising_wider (a + w * n) (a + w * n + w) (a + w * suc n) (g n) (h n (omega arith)) (omega (arith, mul-suc w n)))

pub rising_one : (t : ℕ) (e : Entry) → turn e ≡ t → Rising t (t + 1) (e ∷ [])
rising_one t e q = (omega arith, omega arith)

pub rising_change : (t f j a b : ℕ) → turn_of f j ≡ t → Rising t (t + 1) (change f j a b)
rising_change t f j a b q =
    elim (ℕ_discrete a b) [
      | yes e ↦ rw (change_none f j a b e) (let l : t ≤ t + 1 = omega arith in l)
      | no n ↦ rw (change_some f j a b n) (rising_one t (entry f j a b) q)
    ]

-- so there are no more of them than turns
pub rising_length : (a b : ℕ) (es : List Entry) → Rising a b es → a + length es ≤ b
rising_length a b [] r = omega arith
rising_length a b (e ∷ es) r = omega (arith, r.0, rising_length (suc (turn e)) b es r.1)

-- and no field of a place has two

named_turn : (e : Entry) (f j : ℕ) → names e f j ≡ true → turn e ≡ turn_of f j
named_turn e f j t =
    let a = eqb-true e.field f (and_left (eqb e.field f) (eqb e.place j) t) in
    let b = eqb-true e.place j (and_right (eqb e.field f) (eqb e.place j) t) in
    rw (a, b)

past : (a b f j : ℕ) (es : List Entry) → Rising a b es → turn_of f j < a → about f j es ≡ []
unfolding about
past a b f j [] r l = refl
past a b f j (e ∷ es) r l = go (names e f j) refl (past (suc (turn e)) b f j es r.1 (omega (arith, r.0)))
  where
    go : (t : Bool) → names e f j ≡ t → about f j es ≡ [] → cond t (e ∷ about f j es) (about f j es) ≡ []
    go true q h = absurd (omega (arith, named_turn e f j q, r.0, l))
    go false q h = h

pub rising_once : (a b f j : ℕ) (es : List Entry) → Rising a b es → length (about f j es) ≤ 1
unfolding about
rising_once a b f j [] r = omega arith
rising_once a b f j (e ∷ es) r = go (names e f j) refl (rising_once (suc (turn e)) b f j es r.1)
  where
    go : (t : Bool) → names e f j ≡ t → length (about f j es) ≤ 1 → length (cond t (e ∷ about f j es) (about f j es)) ≤ 1
    go true q h =
        let n : about f j es ≡ [] = past (suc (turn e)) b f j es r.1 (omega (arith, named_turn e f j q)) in
        rw n (let l : 1 ≤ 1 = omega arith in l)
    go false q h = h

-- ---- each entry of a list

module _ (P : Entry → Type 0) where
  pub every_append : (xs ys : List Entry) → Every P xs → Every P ys → Every P (xs ++ ys)
  every_append [] ys a b = b
  every_append (e ∷ xs) ys a b = (a.0, every_append xs ys a.1 b)

  pub every_each : (n : ℕ) (g : ℕ → List Entry) → ((k : ℕ) → k < n → Every P (g k)) → Every P (entries_to n g)
  unfolding entries_to
  every_each zero g h = tt
  every_each (suc n) g h = every_append (entries_to n g) (g n) (every_each n g (λ k l. h k (omega arith))) (h n (omega arith))

  pub every_change : (f j a b : ℕ) → (a ≢ b → P (entry f j a b)) → Every P (change f j a b)
  every_change f j a b h =
      elim (ℕ_discrete a b) [
        | yes e ↦ rw (change_none f j a b e) tt
        | no n ↦ rw (change_some f j a b n) (h n, tt)
      ]

-- a change of field f of place j says what an entry may say
pub change_says : (p : Plan) (f j a b : ℕ) → 0 < f → f < 7 → j < places_of p f → a ≢ b → Says p (entry f j a b)
change_says p f j a b s m l n =
    record { some_field = s; field_most = omega arith; place_most = l; differs = λ x. n; no_values = λ e. absurd (omega arith) }

pub drop_says : (p : Plan) (j : ℕ) → j < places_of p 7 → Says p (entry 7 j 0 0)
drop_says p j l =
    record {
      some_field = omega arith;
      field_most = omega arith;
      place_most = l;
      differs = λ x. absurd (x refl);
      no_values = λ e. (refl, refl);
    }
