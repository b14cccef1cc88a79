-- `plan_writer::store` meets its contract.
-- Assumes nothing.
use Rattle.std.specs.Prelude.{◌≡◌, length, get_or}
use Rattle.codec.specs.Bytes.{bytes_of}
use Rattle.codec.specs.Places.{put_to}
use Rattle.plan_writer.proofs.store.Given as goal

abbrev pub invariant-loop-j : goal.invariant-loop-j
invariant-loop-j g l =
    let t = g.T.Place in
    (l.out ≡ put_to l.j (λ k. bytes_of t.WIDTH (t.packed (get_or l.places k t.none))) l.start t.WIDTH l.initial.out)
    × (length l.out ≡ length l.initial.out)
