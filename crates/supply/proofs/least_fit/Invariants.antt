-- `supply::least_fit` meets its contract.
-- Assumes nothing.
use Rattle.supply.specs.Supply.{window}
use Rattle.supply.specs.Fit.{held_at, least_width, supplied_to, counted_to, short_to}
use Rattle.std.proofs.Math.Path.{◌≡◌}
use Prim.Native.Nat.{◌≤◌, ◌<◌, ◌*◌, min}
use Rattle.supply.proofs.least_fit.Given as goal

abbrev pub invariant-loop-here : goal.invariant-loop-here
invariant-loop-here l =
    (l.sum ≡ counted_to l.width l.here-items l.here-index) × (l.sum ≤ 255 * l.here-index)

abbrev pub invariant-loop-start : goal.invariant-loop-start
invariant-loop-start l =
    (l.one_frame ≡ window l.width (held_at l.slices l.cards) 0 l.start) ×
    (l.least ≡ supplied_to l.start (held_at l.slices l.cards) l.width l.rest) × (l.one_frame ≤ 255 * l.start) × (l.least.value ≤ 16320)

abbrev pub invariant-widths : goal.invariant-widths
invariant-widths l =
    (l.rest < l.slices) × (l.found ≡ 0) × (0 ≡ least_width l.slices (held_at l.slices l.cards) l.length l.workload l.deadline l.below) ×
    (l.short ≡ short_to l.slices (held_at l.slices l.cards) l.length l.workload l.deadline l.below) ×
    (l.excess ≡ min l.short.value l.length) ×
    (l.short.value ≤ 65536)
