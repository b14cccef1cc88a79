-- `plan_reader::fill` meets its contract.
-- Assumes nothing.
use Rattle.std.specs.Prelude.{◌≡◌, ◌==◌, ◌*◌, drop}
use Rattle.laws.specs.All.{all_to}
use Rattle.laws.specs.Written.{written}
use Rattle.plan_reader.proofs.fill.Given as goal

abbrev pub invariant-loop-j : goal.invariant-loop-j
invariant-loop-j g l =
    let t = g.T.Place in
    (l.places ≡ written l.j (λ k. t.read (drop (t.WIDTH * k) l.s)) l.initial.places)
    × (l.clean ≡ all_to l.j (λ k. t.spare (drop (t.WIDTH * k) l.s) == 0))
