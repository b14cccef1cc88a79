-- `plan_reader::fill` meets its contract.
-- Assumes nothing.
use Rattle.std.specs.Prelude.{Bool, ◌==◌, ◌&&◌, List, ℕ, ◌*◌}
use Rattle.std.proofs.Common.{ap, ◌∙◌, arith}
use Rattle.laws.specs.All.Properties.{all_none, all_again, all_stop}
use Rattle.laws.specs.Written.Properties.{written_none, written_again, written_stop}
use Rattle.codec.specs.Places.Properties.{handed_on}
use Rattle.plan_reader.proofs.fill.Goals as goal

pub loop-j-init : goal.loop-j-init
loop-j-init g c = (written_none _ _, all_none _)

pub loop-j-preserved : goal.loop-j-preserved
loop-j-preserved g c =
    let t = g.T.Place in
    let l = c.loop-j in
    let h = handed_on c.args.s.now (t.WIDTH * l.j) in
    let e = rw c.WIDTH.ensures at c.from_front-part.ensures in (
      written_again _ _ _ _ _ l.invariant.0 (e.0 ∙ ap t.read h),
      all_again _ _ _ _ l.invariant.1 (ap (λ (b : Bool). l.clean && b) (e.1 ∙ ap (λ (s : List ℕ). t.spare s == 0) h)),
    )

pub returns : goal.returns
returns g c =
    let l = c.loop-j in
    (written_stop _ _ _ _ _ l.invariant.0 (omega arith) (omega arith), all_stop _ _ _ _ l.invariant.1 (omega arith) (omega arith))
