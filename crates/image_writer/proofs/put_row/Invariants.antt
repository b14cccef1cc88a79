-- `image_writer::put_row` meets its contract.
-- Assumes nothing.
use Rattle.std.proofs.Common.{◌≡◌, length, slice_index_or}
use Rattle.codec.specs.Places.{put_to}
use Rattle.image_writer.proofs.put_row.Given as goal

abbrev pub invariant-loop-j : goal.invariant-loop-j
invariant-loop-j g l =
    (length l.out ≡ length l.initial.out)
    × ((d : _) → l.out ≡ put_to l.j (λ j. g.T.Placed.bytes (slice_index_or l.row j d)) l.start g.T.Placed.BYTES l.initial.out)
