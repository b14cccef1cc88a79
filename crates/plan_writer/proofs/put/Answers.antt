-- `plan_writer::put` meets its contract.
-- Assumes nothing.
use Rattle.std.specs.Prelude.{ℕ, ◌+◌, ◌*◌}
use Rattle.std.proofs.Common.{ap, ◌∙◌, arith, length-take-le}
use Rattle.codec.specs.Places.{put_to}
use Rattle.plan.specs.Record.{no_project, no_kind}
use Rattle.plan_bytes.specs.Parts.{size, project_bytes, kind_bytes, project_bytes_at, kind_bytes_at}
use Rattle.plan_bytes.specs.Parts.Properties.{put_plan}
use Rattle.plan_writer.proofs.Places.{put_front}
use Rattle.plan_writer.proofs.put.Goals as goal

pub put_header-requires : goal.put_header-requires
unfolding size
put_header-requires c = omega arith

pub store-requires : goal.store-requires
unfolding size
store-requires c = omega (arith, length-take-le c.from.result c.args.plan.project (omega arith), c.put_header.auto.out)

pub store-requires-2 : goal.store-requires-2
unfolding size
store-requires-2 c =
    omega (arith, length-take-le c.from-3.result c.args.plan.kind (omega arith), c.put_header.auto.out, c.store.auto.out)

pub returns : goal.returns
unfolding project_bytes kind_bytes
returns c =
    let v = c.args.plan in
    let a = c.put_header.new.out in
    let b = c.store.new.out in
    let start = 3 + 2 * c.from-2.result in
    let projects = put_front c.from.result v.project no_project project_bytes 3 2 a b (omega arith) c.store.ensures
    ∙ ap (λ (n : ℕ). put_to n (project_bytes_at v) 3 2 a) c.from.ensures in
    let kinds = put_front c.from-3.result v.kind no_kind kind_bytes start 5 b c.store-2.new.out (omega arith) c.store-2.ensures
    ∙ ap (λ (n : ℕ). put_to n (kind_bytes_at v) start 5 b) c.from-3.ensures in
    put_plan v c.args.out.now a b c.store-2.new.out c.requires.2 c.put_header.ensures projects (rw c.from-2.ensures at kinds)
