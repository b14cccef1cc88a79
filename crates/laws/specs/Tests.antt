-- A test from a fact, in one set: what a branch of the code learnt, as the Boolean that a definition looks at.
-- Assumes nothing.
use Rattle.std.specs.Prelude.{◌≡◌, refl, Bool, true, false, not, cond, ◌&&◌}
use Rattle.std.proofs.Common.{sym, ◌∙◌, true≢false, lt-ltb, le-ltb, le-leb, eq-eqb, ne_eqb}
use Rattle.std.proofs.lemmas.Bool.{lt-leb, not-true, not-false}

pub ruleset tests = (lt-ltb, le-ltb, le-leb, lt-leb, eq-eqb, ne_eqb)

-- both halves of a conjunction that holds

pub and_left : (a b : Bool) → (a && b) ≡ true → a ≡ true
and_left true b e = refl
and_left false b e = absurd (true≢false (cc))

pub and_right : (a b : Bool) → (a && b) ≡ true → b ≡ true
and_right true b e = e
and_right false b e = absurd (true≢false (cc))

pub and_both : (a b : Bool) → a ≡ true → b ≡ true → (a && b) ≡ true
and_both a b p q = rw (p, q)

-- ---- a conjunction that the code goes through part by part: r is what a part answered, and a what it should

pub and_stops : (a b r : Bool) → r ≡ a → not r ≡ true → false ≡ (a && b)
and_stops true b true e t = absurd (true≢false (sym t))
and_stops true b false e t = absurd (true≢false (sym e))
and_stops false b r e t = refl

pub and_goes : (a b r x : Bool) → r ≡ a → not r ≡ false → x ≡ b → x ≡ (a && b)
and_goes true b r x e t q = q
and_goes false b true x e t q = absurd (true≢false e)
and_goes false b false x e t q = absurd (true≢false t)

-- the same where the code has `&&` between them

pub and_false : (a b r x : Bool) → r ≡ a → r ≡ false → x ≡ false → x ≡ (a && b)
and_false a b r x e t q = rw (← e, t) q

pub and_true : (a b r x : Bool) → r ≡ a → r ≡ true → x ≡ b → x ≡ (a && b)
and_true a b r x e t q = rw (← e, t) q

pub ruleset conjunction = (and_stops, and_goes, and_false, and_true)

-- ---- a branch of the code, as the `cond` or the conjunction that a definition makes of the same test

pub cond_yes : {A : Type 0} (t : Bool) (a b r : A) → t ≡ true → r ≡ a → r ≡ cond t a b
cond_yes t a b r e q = rw e q

pub cond_no : {A : Type 0} (t : Bool) (a b r : A) → t ≡ false → r ≡ b → r ≡ cond t a b
cond_no t a b r e q = rw e q

pub not_stops : (t b : Bool) → t ≡ true → false ≡ (not t && b)
not_stops t b e = rw e

pub not_goes : (t b r : Bool) → t ≡ false → r ≡ b → r ≡ (not t && b)
not_goes t b r e q = rw e q

pub ruleset picks = (cond_yes, cond_no, not_stops, not_goes)

-- ---- r is what a test answered, and a what it should

pub told_no : (a r : Bool) → r ≡ a → not r ≡ true → a ≡ false
told_no a r e t = sym e ∙ not-true r t

pub told_yes : (a r : Bool) → r ≡ a → not r ≡ false → a ≡ true
told_yes a r e t = sym e ∙ not-false r t

-- ---- the second half of a conjunction settles it

pub second_no : (a b : Bool) → false ≡ b → false ≡ (a && b)
second_no true b e = e
second_no false b e = refl

pub second_yes : (a b : Bool) → a ≡ true → true ≡ b → true ≡ (a && b)
second_yes a b e q = rw e q
