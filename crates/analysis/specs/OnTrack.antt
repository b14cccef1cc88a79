-- The invariant behind the deadlines: a unit within its reach still gets, before it is due, all that it needs with all that can get ahead.
-- Assumes nothing.
use Rattle.std.specs.Prelude.{ℕ, ◌+◌, ◌*◌, ◌≤◌, ◌<◌}
use Rattle.supply.specs.Supply.{window}
use Rattle.analysis.specs.Setup.{Setup, Own}
use Rattle.analysis.specs.Moment.{Moment, Supplied, UnderWay}
use Rattle.analysis.specs.Step.{Priority}
use Rattle.analysis.specs.Policy.{Policy}

module _ {S : Setup} {prior : Priority} {workload : ℕ → ℕ} (P : Policy S prior workload) (m : Moment) where
  -- what it needs, width times, and all that can get ahead of it: the cards held until it is due have room for both
  abbrev pub Enough : ℕ → Type 0
  Enough i = S.width i * m.left i + P.ahead m i ≤ window (S.width i) m.cards 0 (m.until i)

  pub record OnTrack : Type 0 where
    pub supplied : Supplied S m
    pub running : UnderWay S m
    pub enough : (i : ℕ) → Own S i → 0 < m.left i → m.until i ≤ S.reach i → Enough i
