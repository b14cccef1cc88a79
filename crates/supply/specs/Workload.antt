-- Document 000's equation 3: what another kind adds to W, here "with t the judged kind's deadline" (document 02's (v)).
-- A difference below 0 is 0 here, so a deadline beyond the separation counts as the separation.
-- Assumes nothing.
use Rattle.std.specs.Prelude.{ℕ, ◌+◌, ◌-◌, ◌*◌, ◌/◌, min, max}
pub mod Properties

-- "floor((t + (Ti - Di))/Ti)": the whole units of a kind of this separation and deadline
abbrev pub whole_units : ℕ → ℕ → ℕ → ℕ
whole_units separation deadline t = (t + (separation - deadline)) / separation

-- "CIi(t) = min{Ci, max{0, t - floor((t + (Ti - Di))/Ti)Ti}}": the carry-in
abbrev pub carry_in : ℕ → ℕ → ℕ → ℕ → ℕ
carry_in separation deadline length t = min length (max 0 (t - whole_units separation deadline t * separation))

-- "Wi(t) = floor((t + (Ti - Di))/Ti)Ci + CIi(t)"
unfoldable pub workload_part : ℕ → ℕ → ℕ → ℕ → ℕ
workload_part separation deadline length t = whole_units separation deadline t * length + carry_in separation deadline length t
