-- Laws of a part moved to the front: each way out, and what a caller knows.
-- Assumes nothing.
use Rattle.std.specs.Prelude.{◌≡◌, List, ◌++◌, ℕ, ◌+◌, ◌-◌, ◌≤◌, ◌<◌, length, take, drop}
use Rattle.std.proofs.Common.{sym, ap, ◌∙◌, arith, length-drop, length-take-le, take_at, le-leb}
use Rattle.std.specs.List.{copy_within}
use Rattle.std.proofs.lemmas.Bool.{lt-leb}
use Rattle.commands.specs.Kept.{within, in_front, Keeps}

pub keeps_none : (bytes : List ℕ) (from to : ℕ) → to < from → Keeps bytes from to 0 bytes
unfolding within
keeps_none bytes from to l = record { result = rw (lt-leb from to l); buffer = rw (lt-leb from to l) }

pub keeps_outside : (bytes : List ℕ) (from to : ℕ) → from ≤ to → length bytes < to → Keeps bytes from to 0 bytes
unfolding within
keeps_outside bytes from to k l =
    record { result = rw (le-leb from to k, lt-leb to (length bytes) l); buffer = rw (le-leb from to k, lt-leb to (length bytes) l) }

pub keeps_part : (bytes m : List ℕ) (from to : ℕ) → from ≤ to → to ≤ length bytes → m ≡ copy_within bytes from to 0
    → Keeps bytes from to (to - from) m
unfolding within in_front
keeps_part bytes m from to k l e =
    let z : 0 + (to - from) ≡ to - from = omega arith in
    record {
      result = rw (le-leb from to k, le-leb to (length bytes) l);
      buffer = rw (le-leb from to k, le-leb to (length bytes) l) (e ∙ rw z);
    }

-- the count lies within the buffer
pub keeps_within : (bytes after : List ℕ) (from to count : ℕ) → Keeps bytes from to count after → from ≤ to → to ≤ length bytes
    → count ≡ to - from
unfolding within
keeps_within bytes after from to count p k l = p.result ∙ rw (le-leb from to k, le-leb to (length bytes) l)

-- and the part stands in front of it
pub keeps_front : (bytes after : List ℕ) (from to count : ℕ) → Keeps bytes from to count after → from ≤ to → to ≤ length bytes
    → take count after ≡ take (to - from) (drop from bytes)
unfolding within in_front
keeps_front bytes after from to count p k l =
    let n : count ≡ to - from = keeps_within bytes after from to count p k l in
    let part = take (to - from) (drop from bytes) in
    let e : after ≡ part ++ drop (to - from) bytes = p.buffer ∙ rw (le-leb from to k, le-leb to (length bytes) l) in
    let m : length part ≡ count = length-take-le (to - from) (drop from bytes) (omega (arith, length-drop from bytes)) ∙ sym n in
    ap (take count) e ∙ take_at part (drop (to - from) bytes) count m
