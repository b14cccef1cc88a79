-- `plan_reader::body` meets its contract.
-- Assumes nothing.
use Rattle.std.specs.Prelude.{refl, Bool, not, ◌&&◌}
use Rattle.std.proofs.Common.{ap, arith}
use Rattle.plan.specs.Order.Properties.{sizes_says}
use Rattle.plan_bytes.specs.Reading.{header_spare}
use Rattle.plan_bytes.specs.Reading.Properties.{refused_reading, good_reading, body_short, body_spare, body_checked}
use Rattle.plan_reader.proofs.body.Goals as goal

pub returns-then-bytes-total : goal.returns-then-bytes-total
returns-then-bytes-total c = search (refused_reading, body_short)

pub places-placed-requires : goal.places-placed-requires
places-placed-requires c = let s = sizes_says _ c.requires.2 in (search, s.projects_most, s.kinds_most, omega arith)

pub returns-then-not-clean-placed : goal.returns-then-not-clean-placed
returns-then-not-clean-placed c =
    let s = c.args.bytes.now in
    let p = c.places-placed in
    let r = c.refused-then-not-clean-placed.ensures in
    let three = body_spare s _ c.requires.0 _ c.size-total.ensures (header_spare s) p.result.clean _ refl p.ensures.1
    (ap (λ (b : Bool). b && p.result.clean) c.requires.1) _ c.bare-then-not-clean-placed.ensures c.if-bytes-total.false
    (ap not c.if-not-clean-placed.true) in
    refused_reading _ _ _ _ _ _ r.0 r.1 r.2 c.bare-then-not-clean-placed.ensures three

pub returns-in_default : goal.returns-in_default
returns-in_default c =
    let s = c.args.bytes.now in
    let p = c.places-placed in
    let r = c.refused-in_default.ensures in
    let rest = body_checked s _ c.requires.0 _ c.size-total.ensures (header_spare s) p.result.clean _ refl p.ensures.1
    (ap (λ (b : Bool). b && p.result.clean) c.requires.1) _ p.result.value c.if-bytes-total.false (ap not c.if-not-clean-placed.false)
    p.ensures.0 c.check-checked.ensures c.requires.2 in
    refused_reading _ _ _ _ _ _ r.0 r.1 r.2 c.in_default.is rest

pub returns : goal.returns
returns c =
    let s = c.args.bytes.now in
    let p = c.places-placed in
    let rest = body_checked s _ c.requires.0 _ c.size-total.ensures (header_spare s) p.result.clean _ refl p.ensures.1
    (ap (λ (b : Bool). b && p.result.clean) c.requires.1) _ p.result.value c.if-bytes-total.false (ap not c.if-not-clean-placed.false)
    p.ensures.0 c.check-checked.ensures c.requires.2 in
    good_reading _ _ _ _ _ _ c.in-Good.is rest p.ensures.0 c.size-total.ensures
