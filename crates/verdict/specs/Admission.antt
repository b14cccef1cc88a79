-- Document 01, "Supply and verdict", as statements: what admitting a plan, giving a k and refusing with 8 mean. The excess is that of
-- document 02's (iii). And its (ii): which slice is the bad one to arrive in.
-- Assumes nothing.
use Rattle.std.specs.Prelude.{◌≡◌, ℕ, ◌+◌, ◌-◌, ◌*◌, ◌≤◌, ◌<◌}
use Rattle.plan.specs.declared.Plan.{Plan}
use Rattle.plan.specs.Order.{kind_of}
use Rattle.supply.specs.Supply.{window}
use Rattle.workload.specs.Workload.{workload}
use Rattle.verdict.specs.Verdict.{ceiling_on, held_on, supply_on}
pub mod Properties

-- "kCi + W"
abbrev pub asked : Plan → ℕ → ℕ → ℕ
asked p i k = k * (kind_of p i).length + workload p i

-- "S(k,Di)"
abbrev pub given : Plan → ℕ → ℕ → ℕ
given p i k = supply_on p i k (kind_of p i).deadline

-- "k in 1..q"
pub record Width (p : Plan) (i k : ℕ) : Type 0 where
  pub some : 0 < k
  pub most : k ≤ ceiling_on p i

-- "Kind i fits at k when kCi + W <= S(k,Di)", for k in 1..q
pub record Fits (p : Plan) (i k : ℕ) : Type 0 where
  pub width : Width p i k
  pub room : asked p i k ≤ given p i k

-- "kC' + W <= S(k,D)", for k in 1..q: k allows kind i a length of c
pub record Allows (p : Plan) (i c k : ℕ) : Type 0 where
  pub width : Width p i k
  pub room : k * c + workload p i ≤ given p i k

-- "C minus the greatest C' of at least 0 with kC' + W <= S(k,D) for some k, or the whole C where there is none": C - x is allowed, or
-- nothing of at least 1, and nothing longer is
pub record Excess (p : Plan) (i x : ℕ) : Type 0 where
  pub most : x ≤ (kind_of p i).length
  pub allowed : x < (kind_of p i).length → (k : ℕ) × Allows p i ((kind_of p i).length - x) k
  pub greatest : (c k : ℕ) → c ≤ (kind_of p i).length → Allows p i c k → c + x ≤ (kind_of p i).length

-- "8: not admitted: first kind with no k, with its excess"
pub record NotAdmitted (p : Plan) (i x : ℕ) : Type 0 where
  pub its_kind : i < p.kinds
  pub first : (j : ℕ) → j < i → (k : ℕ) × Fits p j k
  pub no_width : (k : ℕ) → Fits p i k → ⊥
  pub excess : Excess p i x

-- "the sum over x = 0..t-1 of min(k, h(a+x))": what a unit of kind i that arrives at slice a has until its deadline
abbrev pub seen : Plan → ℕ → ℕ → ℕ → ℕ
seen p i k a = window k (held_on p i) a (kind_of p i).deadline

-- "The supply figure should come with the earliest starting slice that attains it": slice a, with S(k,Di)
pub record BadSlice (p : Plan) (i k a : ℕ) : Type 0 where
  pub in_frame : a < p.frame
  pub attained : seen p i k a ≡ given p i k
  -- every earlier start sees more, and every start as much
  pub earliest : (b : ℕ) → b < a → given p i k < seen p i k b
  pub least : (b : ℕ) → given p i k ≤ seen p i k b

-- "the least k that allows C'": the excess x of kind i names k
pub record Names (p : Plan) (i x k : ℕ) : Type 0 where
  pub allows : Allows p i ((kind_of p i).length - x) k
  pub first : (j : ℕ) → j < k → Allows p i ((kind_of p i).length - x) j → ⊥
