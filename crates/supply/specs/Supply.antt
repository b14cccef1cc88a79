-- Document 01, "Supply and verdict": the supply of a project that holds h(s) cards at slice s. Document 001's Definition 2. And document
-- 02's (ii): the bad slice to arrive in.
-- The cards held are any function of the slice; the laws ask that it has the frame as its period.
-- Assumes nothing.
use Rattle.std.specs.Prelude.{◌≡◌, ℕ, ◌+◌, min}
use Rattle.laws.specs.Sum.{sum_to}
use Rattle.laws.specs.Least.{least_to, least_place}

-- "h(s) .., taken modulo F": a frame later as many cards are held
abbrev pub Periodic : ℕ → (ℕ → ℕ) → Type 0
Periodic frame h = (s : ℕ) → h (s + frame) ≡ h s

-- "the sum over x = 0..t-1 of min(k, h(a+x))"
unfoldable pub window : ℕ → (ℕ → ℕ) → ℕ → ℕ → ℕ
window k h a t = sum_to t (λ x. min k (h (a + x)))

-- "Its supply S(k,t) .. is the least, over the F starting slices a, of the sum over x = 0..t-1 of min(k, h(a+x))"
unfoldable pub supply : ℕ → (ℕ → ℕ) → ℕ → ℕ → ℕ
supply frame h k t = least_to frame (λ a. window k h a t)

-- "The supply figure should come with the earliest starting slice that attains it"
unfoldable pub bad_slice : ℕ → (ℕ → ℕ) → ℕ → ℕ → ℕ
bad_slice frame h k t = least_place frame (λ a. window k h a t)
