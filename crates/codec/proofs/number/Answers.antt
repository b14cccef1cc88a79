-- `codec::number` meets its contract.
-- Assumes nothing.
use Rattle.std.specs.Prelude.{◌≡◌, List, ℕ, ◌≤◌, min, length, take}
use Rattle.std.proofs.Common.{ap, ◌∙◌, length-take-le}
use Rattle.codec.specs.Bytes.{number_to}
use Rattle.codec.specs.Bytes.Properties.{number_take, number_all, number_short}
use Rattle.codec.proofs.number.Goals as goal

-- the bytes that are meant, cut out
number_part : (x count limited : ℕ) (s : List ℕ) → x ≡ number_to (length (take limited s)) (take limited s) → limited ≡ min count 8
    → limited ≤ length s → x ≡ number_to (min (min count 8) (length s)) s
number_part x count limited s p a h =
    number_all x count limited s
    (p ∙ ap (λ (k : ℕ). number_to k (take limited s)) (length-take-le limited s h) ∙ number_take limited s) a h

pub returns-then-limited-bytes : goal.returns-then-limited-bytes
returns-then-limited-bytes c = search number_part

pub returns : goal.returns
returns c = search number_short
