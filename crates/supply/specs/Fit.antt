-- Document 01, "Supply and verdict": whether a unit fits at k, and the least such k. Document 001's equation 4. The excess is that of
-- document 02's (iii), and the bad slice beside them its (ii).
-- Assumes nothing.
use Rattle.std.specs.Prelude.{ℕ, zero, suc, ◌+◌, ◌-◌, ◌*◌, ◌/◌, ◌%◌, Bool, cond, not, ◌||◌, List, eqb, leb, ltb, get_or, min}
use Rattle.laws.specs.Sum.{sum_to}
use Rattle.laws.specs.Least.{least_to, least_place}
use Rattle.laws.specs.First.{first_to}
use Rattle.supply.specs.Supply.{supply, bad_slice}
use Rattle.supply.specs.Greatest.{greatest_to}
use Rattle.supply.specs.declared.Fit.{Fit}
use Rattle.supply.specs.declared.Supplied.{Supplied}
use Rattle.supply.specs.declared.Least.{Least}

module _ (frame : ℕ) (h : ℕ → ℕ) (length workload deadline : ℕ) where
  -- "Kind i fits at k when kCi + W <= S(k,Di)"
  unfoldable pub fits_at : ℕ → Bool
  fits_at k = leb (k * length + workload) (supply frame h k deadline)

  -- "the least such k", of 1..q; 0 where there is none
  unfoldable pub least_width : ℕ → ℕ
  least_width ceiling = first_to ceiling fits_at

module _ (frame : ℕ) (h : ℕ → ℕ) (length workload deadline : ℕ) where
  -- "the greatest C' of at least 0 with kC' + W <= S(k,D) for some k"; 0 also where there is none
  unfoldable pub allowed_length : ℕ → ℕ
  allowed_length ceiling = greatest_to length (λ c. not (eqb (least_width frame h c workload deadline ceiling) 0))

  -- "excess as C minus the greatest C' .., or the whole C where there is none"
  unfoldable pub least_excess : ℕ → ℕ
  least_excess ceiling = length - allowed_length ceiling

  -- "the least k that allows C'": C itself where it fits; 0 where there is none
  unfoldable pub named_width : ℕ → ℕ
  named_width ceiling = least_width frame h (allowed_length ceiling) workload deadline ceiling

  -- "every verdict and excess should pass that slice on for the k it names"
  unfoldable pub named_slice : ℕ → ℕ
  named_slice ceiling = bad_slice frame h (named_width ceiling) deadline

-- "h(s) .., taken modulo F", where a list has the cards held at each slice of a frame
unfoldable pub held_at : ℕ → List ℕ → ℕ → ℕ
held_at frame held s = get_or held (s % frame) 0

-- "frame length F 1..64": out of range
abbrev pub no_frame : ℕ → Bool
no_frame frame = eqb frame 0 || ltb 64 frame

-- the least k, the excess and the bad slice, all 0 where the frame is out of range
unfoldable pub fit_of : ℕ → List ℕ → ℕ → ℕ → ℕ → ℕ → Fit
fit_of frame held ceiling length workload deadline =
    cond (no_frame frame)
    (record { width = 0; excess = 0; slice = 0 })
    (record {
      width = least_width frame (held_at frame held) length workload deadline ceiling;
      excess = least_excess frame (held_at frame held) length workload deadline ceiling;
      slice = named_slice frame (held_at frame held) length workload deadline ceiling;
    })

-- "Its supply S(k,t)", and "the earliest starting slice that attains it"; both 0 where the frame is out of range
unfoldable pub supplied_of : ℕ → List ℕ → ℕ → ℕ → Supplied
supplied_of frame held k t =
    cond (no_frame frame)
    (record { value = 0; slice = 0 })
    (record { value = supply frame (held_at frame held) k t; slice = bad_slice frame (held_at frame held) k t })

-- ---- the steps of the search

-- the least of what came before place i and the value there, with the slice of the first place
abbrev pub least_with : ℕ → Least → ℕ → ℕ → Least
least_with i least value slice = cond (eqb i 0 || ltb value least.value) (record { value = value; slice = slice }) least

-- the least of f over n places, and what g has for the first that attains it
abbrev pub least_of : ℕ → (ℕ → ℕ) → (ℕ → ℕ) → Least
least_of n f g = record { value = least_to n f; slice = g (least_place n f) }

-- the cards that count at k of the first n slices of a list
abbrev pub counted_to : ℕ → List ℕ → ℕ → ℕ
counted_to k cards n = sum_to n (λ x. min k (get_or cards x 0))

-- the supply over the first n starts, and its bad slice
abbrev pub supplied_to : ℕ → (ℕ → ℕ) → ℕ → ℕ → Least
supplied_to n h k t = record { value = supply n h k t; slice = bad_slice n h k t }

-- how much longer a unit is than k allows, with the bad slice of k; where k allows not even 0, one more than the whole, and no slice
abbrev pub short_by : ℕ → ℕ → ℕ → ℕ → ℕ → Least
short_by k length workload supply slice =
    cond (ltb supply workload)
    (record { value = length + 1; slice = 0 })
    (record { value = length - (supply - workload) / k; slice = slice })

module _ (frame : ℕ) (h : ℕ → ℕ) (length workload deadline : ℕ) where
  -- the same on the cards held
  unfoldable pub short_at : ℕ → Least
  short_at k = short_by k length workload (supply frame h k deadline) (bad_slice frame h k deadline)

  -- the least of them over the k of 1..n
  unfoldable pub short_to : ℕ → Least
  short_to zero = record { value = length + 1; slice = 0 }
  short_to (suc n) = least_of (suc n) (λ j. (short_at (j + 1)).value) (λ j. (short_at (j + 1)).slice)
