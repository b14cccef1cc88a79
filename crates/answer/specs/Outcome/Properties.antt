-- A contract that says what is handed back, and what is left in each lent buffer, admits one outcome.
-- Assumes nothing.
use Rattle.std.specs.Prelude.{ℕ, ◌≡◌, refl, List}
use Rattle.answer.specs.Outcome.{One, Lent, LentTwo, Leaves, LeavesTwo}

pub is_one : {A : Type 0} (a : A) → One (λ r. r ≡ a)
is_one a = record { outcome = a; meets = refl; only = λ r e. e }

pub leaves_one : {A : Type 0} (a : A) (b : List ℕ) → One (λ (o : Lent A). Leaves a b o.result o.buffer)
leaves_one a b =
    record {
      outcome = record { result = a; buffer = b };
      meets = record { result = refl; buffer = refl };
      only = λ o c. λ i. record { result = c.result i; buffer = c.buffer i };
    }

pub leaves_two_one : {A : Type 0} (a : A) (b d : List ℕ) → One (λ (o : LentTwo A). LeavesTwo a b d o.result o.buffer o.second)
leaves_two_one a b d =
    record {
      outcome = record { result = a; buffer = b; second = d };
      meets = record { result = refl; buffer = refl; second = refl };
      only = λ o c. λ i. record { result = c.result i; buffer = c.buffer i; second = c.second i };
    }
