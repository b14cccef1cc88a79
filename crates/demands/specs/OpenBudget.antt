-- Document 02 (i), as statements: what it means that a budget serves a project, that it is the least, and that none serves.
-- Assumes nothing.
use Rattle.std.specs.Prelude.{◌≡◌, ℕ, ◌+◌, ◌-◌, ◌*◌, ◌≤◌, ◌<◌}
use Rattle.plan.specs.declared.Plan.{Plan}
use Rattle.plan.specs.Order.{kind_of}
use Rattle.supply.specs.Supply.{supply}
use Rattle.workload.specs.Workload.{workload}
use Rattle.verdict.specs.Admission.{asked, Width}
use Rattle.smallest_budget.specs.Smallest.{held_with, most_budget}
pub mod Written
pub mod Told
pub mod Exactly
pub mod Believed

-- "S(k,Di)", where project j has a budget of b
abbrev pub given_with : Plan → ℕ → ℕ → ℕ → ℕ → ℕ
given_with p j b i k = supply p.frame (held_with p j b) k (kind_of p i).deadline

-- "Kind i fits at k when kCi + W <= S(k,Di)", for k in 1..q, where project j has a budget of b
pub record FitsWith (p : Plan) (j b i k : ℕ) : Type 0 where
  pub width : Width p i k
  pub room : asked p i k ≤ given_with p j b i k

-- "all its unit kinds fit": those of project j, with a budget of b
abbrev pub Serves : Plan → ℕ → ℕ → Type 0
Serves p j b = (i : ℕ) → i < p.kinds → (kind_of p i).project ≡ j → (k : ℕ) × FitsWith p j b i k

-- "the least B, from 1 to qF, at which all its unit kinds fit"
pub record Least (p : Plan) (j b : ℕ) : Type 0 where
  pub some : 0 < b
  pub most : b ≤ most_budget p j
  pub serves : Serves p j b
  pub least : (c : ℕ) → 0 < c → Serves p j c → b ≤ c

-- "kC' + W <= S(k,D)", for k in 1..q, where project j has a budget of b: k allows kind i a length of c
pub record AllowsWith (p : Plan) (j b i c k : ℕ) : Type 0 where
  pub width : Width p i k
  pub room : k * c + workload p i ≤ given_with p j b i k

-- "8 .. (place and excess at qF)": kind i is the project's first with no k at qF, and x its excess there: C - x is allowed, or nothing of
-- at least 1, and nothing longer is
pub record NotServed (p : Plan) (j i x : ℕ) : Type 0 where
  pub its_kind : i < p.kinds
  pub its_project : (kind_of p i).project ≡ j
  pub first : (h : ℕ) → h < i → (kind_of p h).project ≡ j → (k : ℕ) × FitsWith p j (most_budget p j) h k
  pub no_width : (k : ℕ) → FitsWith p j (most_budget p j) i k → ⊥
  pub most : x ≤ (kind_of p i).length
  pub allowed : x < (kind_of p i).length → (k : ℕ) × AllowsWith p j (most_budget p j) i ((kind_of p i).length - x) k
  pub greatest : (c k : ℕ) → c ≤ (kind_of p i).length → AllowsWith p j (most_budget p j) i c k → c + x ≤ (kind_of p i).length
