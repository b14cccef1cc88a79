-- The theorem: in an admitted project, whatever its steps lead to from an idle moment, no unit comes late.
-- Assumes nothing.
use Rattle.std.specs.Prelude.{◌≡◌, ℕ, ◌+◌, ◌≤◌}
use Rattle.analysis.specs.Setup.{Setup, Own}
use Rattle.analysis.specs.Moment.{Moment}
use Rattle.analysis.specs.Reached.{Reached}
use Rattle.analysis.specs.EarliestFirst.{no_later, workload}
use Rattle.analysis.proofs.Laws.EarliestFirst.{earliest_first}
use Rattle.analysis.specs.Admitted.{Admitted}
use Rattle.analysis.proofs.Laws.OnTrack as Properties
use Rattle.analysis.proofs.Laws.OnTrack.{on_track, none_late}

module _ (S : Setup) (admitted : Admitted S (workload S)) (m : Moment) (reached : Reached S (no_later S) m) (i : ℕ) (own : Own S i) where
  -- what is left of a unit is at most the slices until it is due
  pub in_time : m.left i ≤ m.until i
  in_time = let P = earliest_first S admitted.timed in none_late P admitted m (on_track P admitted reached) i own

  -- and nothing is left where the kind's next unit may come
  pub next_clear : m.wait i + S.reach i ≤ S.deadline i → m.left i ≡ 0
  next_clear = let P = earliest_first S admitted.timed in Properties.next_clear P admitted m (on_track P admitted reached) i own
