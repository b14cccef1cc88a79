-- The test that admits a project: document 01, "Supply and verdict".
-- It compares with S(k,t) alone. Which cards a project holds when is said of its moments (`Supplied`); so it stands however the slices
-- of a frame are numbered, and where an idle project is given other cards with the same supply.
-- Assumes nothing.
use Rattle.std.specs.Prelude.{ℕ, ◌+◌, ◌*◌, ◌≤◌}
use Rattle.analysis.specs.Setup.{Setup, Own, Timed}

-- with W for the workload: "Kind i fits at k when kCi + W <= S(k,Di)", its reach for Di
pub record Admitted (S : Setup) (workload : ℕ → ℕ) : Type 0 where
  pub timed : (i : ℕ) → Own S i → Timed S i
  pub some_width : (i : ℕ) → Own S i → 1 ≤ S.width i
  pub fits : (i : ℕ) → Own S i → S.width i * S.length i + workload i ≤ S.supply (S.width i) (S.reach i)
