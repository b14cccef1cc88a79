-- Document 01, "Running": what a slice and an accepted release do, as one project sees it.
-- Assumes nothing.
use Rattle.std.specs.Prelude.{◌≡◌, ◌≢◌, Bool, true, false, cond, ◌&&◌, ℕ, ◌+◌, ◌-◌, ◌≤◌, ◌<◌}
use Rattle.laws.specs.Count.{count_to}
use Rattle.analysis.specs.Setup.{Setup, Own}
use Rattle.analysis.specs.Moment.{Moment}

-- who goes first: at a moment, kind j's unit before kind i's
abbrev pub Priority : Type 0
Priority = Moment → ℕ → ℕ → Bool

-- whom a slice serves: kinds with slices left, and one that waits does so for as many before it as the project holds cards
pub record Serves (S : Setup) (prior : Priority) (m : Moment) (served : ℕ → Bool) : Type 0 where
  pub some_left : (i : ℕ) → Own S i → served i ≡ true → 0 < m.left i
  pub waits : (i : ℕ) → Own S i → 0 < m.left i → served i ≡ false → m.cards 0 ≤ count_to S.kinds (λ j. served j && prior m j i)

-- "Each chosen kind's left falls by one", and everything is one slice nearer
pub record Slice (S : Setup) (prior : Priority) (served : ℕ → Bool) (before after : Moment) : Type 0 where
  pub serves : Serves S prior before served
  pub cards : (x : ℕ) → after.cards x ≡ before.cards (1 + x)
  pub left : (i : ℕ) → Own S i → after.left i ≡ before.left i - cond (served i) 1 0
  pub until : (i : ℕ) → Own S i → 0 < after.left i → after.until i ≡ before.until i - 1
  pub wait : (i : ℕ) → Own S i → after.wait i ≡ before.wait i - 1

-- "Release of a kind with a length e (1..C) .. sets left to e"; not refused with 13 or 14
pub record Started (S : Setup) (j e : ℕ) (before after : Moment) : Type 0 where
  pub some : 1 ≤ e
  pub fits : e ≤ S.length j
  pub left : after.left j ≡ e
  -- due in D slices, or in fewer where the unit comes later than it is released
  pub until : after.until j ≤ S.deadline j
  -- its reach is still to come, and begins a separation after the last one's or later
  pub may : before.wait j + S.reach j ≤ after.until j
  -- the next one's begins a separation after its own
  pub wait : after.wait j + S.reach j ≡ after.until j + S.separation j

-- nothing of kind i changes
pub record Kept (i : ℕ) (before after : Moment) : Type 0 where
  pub left : after.left i ≡ before.left i
  pub until : after.until i ≡ before.until i
  pub wait : after.wait i ≡ before.wait i

-- a release of kind j with length e, of whichever project: a neighbour's starts nothing here
pub record Release (S : Setup) (j e : ℕ) (before after : Moment) : Type 0 where
  pub cards : (x : ℕ) → after.cards x ≡ before.cards x
  pub started : Own S j → Started S j e before after
  pub others : (i : ℕ) → Own S i → i ≢ j → Kept i before after
