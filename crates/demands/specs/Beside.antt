-- A state of the rules with a clock beside one of the rules without: what document 02 (ix) replaces, and that the rest is the same.
-- Assumes nothing.
use Rattle.std.specs.Prelude.{ℕ, ◌-◌, ◌%◌, ◌≤◌, ◌<◌, min, ◌≡◌, true, false, length}
use Rattle.rack.specs.declared.State.{State}
use Rattle.rack.specs.State.{unit_of, kind_at, InUse}
use Rattle.demands.specs.AbsoluteClock.State as Old
pub mod Properties
pub mod Runs

-- kind i's unit in both
pub record UnitBeside (old : Old.State) (new : State) (i : ℕ) : Type 0 where
  pub released : (unit_of new i).released ≡ (Old.unit_of old i).released
  pub left : (unit_of new i).left ≡ (Old.unit_of old i).left
  -- "and each release clock by the slices gone since then, held at T": the lesser of T and clock less release clock
  pub gone : (Old.unit_of old i).released ≡ true →
      (unit_of new i).gone ≡ min (kind_at new i).separation (old.clock - (Old.unit_of old i).at)
  -- "0 if never released"
  pub never : (Old.unit_of old i).released ≡ false → (unit_of new i).gone ≡ 0

-- the whole states
pub record Beside (old : Old.State) (new : State) : Type 0 where
  pub plan : new.plan ≡ old.plan
  -- "Replace it by the slice within the frame": clock mod F
  pub slice : new.slice ≡ old.clock % old.plan.frame
  pub unit : (i : ℕ) → InUse new i → UnitBeside old new i
  pub sum : new.sum ≡ old.sum

-- what the old state's own form says of its clocks
pub record Clocked (old : Old.State) : Type 0 where
  pub clock_most : old.clock ≤ Old.last_clock
  pub release_clock : (i : ℕ) → i < old.plan.kinds → (Old.unit_of old i).at ≤ old.clock
  pub never : (i : ℕ) → i < old.plan.kinds → (Old.unit_of old i).released ≡ false → (Old.unit_of old i).at ≡ 0
  pub unused : (i : ℕ) → i < 16 → old.plan.kinds ≤ i → Old.unit_of old i ≡ Old.no_unit
  pub sixteen : length old.unit ≡ 16
