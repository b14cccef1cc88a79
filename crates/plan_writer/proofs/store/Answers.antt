-- `plan_writer::store` meets its contract.
-- Assumes nothing.
use Rattle.std.specs.Prelude.{◌≡◌, refl, ◌+◌, ◌*◌, ◌≤◌, suc, length, get_or}
use Rattle.std.proofs.Common.{ap, ◌∙◌, arith, le_refl, mul-suc, mul-le-mul}
use Rattle.std.proofs.Math.Seq.{length-sets}
use Rattle.std.proofs.lemmas.List.Edits.{sets}
use Rattle.codec.specs.Bytes.{bytes_of}
use Rattle.codec.specs.Places.Properties.{number_lent, put_none, put_again}
use Rattle.plan_writer.proofs.Places.{get_or_any}
use Rattle.plan_writer.proofs.store.Goals as goal

pub loop-j-init : goal.loop-j-init
loop-j-init g c = (put_none _ _ _ _, refl)

pub loop-j-preserved : goal.loop-j-preserved
loop-j-preserved g c =
    let t = g.T.Place in
    let l = c.loop-j in
    let xs = c.args.places.now in
    let q : suc l.j ≤ length xs = omega arith in
    let w : t.WIDTH * suc l.j ≤ t.WIDTH * length xs = mul-le-mul (le_refl t.WIDTH) q in
    let a = c.WIDTH.ensures in
    let b = c.WIDTH-in-loop-j.ensures in
    let k : c.WIDTH.result * l.j ≡ t.WIDTH * l.j = rw a in
    let i = c.index-places-j.is ∙ get_or_any xs l.j c.index-places-j.result t.none (omega arith) in
    let n = number_lent c.WIDTH-in-loop-j.result (c.args.start + c.WIDTH.result * l.j) c.fields.result l.out c.put_number.new.out
    (omega (arith, w, mul-suc t.WIDTH l.j, k, b)) c.put_number.ensures.buffer in
    let at = c.args.start + t.WIDTH * l.j in
    let v = bytes_of t.WIDTH (t.packed (get_or xs l.j t.none)) in
    let m : sets l.out (c.args.start + c.WIDTH.result * l.j) (bytes_of c.WIDTH-in-loop-j.result c.fields.result) ≡ sets l.out at v =
    rw (a, b, c.fields.ensures, i) in
    let h = n ∙ m in
    (put_again _ _ _ _ _ _ _ l.invariant.0 h, ap length h ∙ length-sets l.out at v ∙ l.invariant.1)
