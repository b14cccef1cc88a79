-- Document 01, "Running": where each kind sits, from arrays that say for each kind its project plus 1, or 0 where nothing is left, and
-- the slices until it is due; and for each project its lowest card and the card after its last.
-- Assumes nothing.
use Rattle.std.specs.Prelude.{ℕ, ◌+◌, ◌-◌, cond, List, ltb, eqb, get_or, replicate}
use Rattle.laws.specs.Written.{written}
use Rattle.laws.specs.Ranking.{rank_in, sooner}
pub mod Properties

-- what stands in an array at place k
abbrev pub at : List ℕ → ℕ → ℕ
at l k = get_or l k 0

-- how many kinds of the same project outrank kind i
unfoldable pub rank_by : List ℕ → List ℕ → ℕ → ℕ → ℕ
rank_by works until n i = rank_in n (λ k. eqb (at works k) (at works i)) (sooner (at until)) i

-- a card below the end of a project's, plus 1, or 0
unfoldable pub seat_at : ℕ → ℕ → ℕ
seat_at card end = cond (ltb card end) (card + 1) 0

-- where kind i sits: its project's card of its rank, or nowhere; there are eight projects at most
unfoldable pub seat_by : List ℕ → List ℕ → List ℕ → List ℕ → ℕ → ℕ → ℕ
seat_by works until low end n i =
    let project = at works i - 1 in
    cond (eqb (at works i) 0) 0 (cond (ltb 8 (at works i)) 0 (seat_at (at low project + rank_by works until n i) (at end project)))

-- where each of n kinds sits; there are sixteen at most
unfoldable pub seats_by : List ℕ → List ℕ → List ℕ → List ℕ → ℕ → List ℕ
seats_by works until low end n = cond (ltb 16 n) (replicate 16 0) (written n (seat_by works until low end n) (replicate 16 0))
