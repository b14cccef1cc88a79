-- `rack::State::release` meets its contract.
-- Assumes nothing.
use Rattle.std.proofs.Common.{◌≡◌, ◌+◌, ◌<◌, sym, arith, get_or}
use Rattle.answer.specs.declared.Answer.TheVariants.{Good}
use Rattle.rack.specs.State.{kind_at}
use Rattle.rack.specs.Form.{ready}
use Rattle.rack.specs.Form.Properties.{ready_place}
use Rattle.rack.specs.Release.Properties.{release_unready, release_no_kind, release_unstarted, release_started}
use Rattle.rack.specs.Release.Properties.{starts_length, starts_project, starts_room}
use Rattle.rack.proofs.Laws.Found.{answered_ready, answered_no}
use Rattle.rack.proofs.State.release.Goals as goal

pub returns-in_default : goal.returns-in_default
returns-in_default c =
    release_unready _ _ _ _ (answered_ready _ _ _ _ c.in_default.is (search) c.in_default.ensures) _
    (answered_no _ _ _ c.in_default.is (search))

pub returns-then-not-in_use : goal.returns-then-not-in_use
returns-then-not-in_use c =
    let told : Good ≡ ready c.args.self = sym c.in-Ok.ensures.0 in
    search release_no_kind

pub bounds-self-kind : goal.bounds-self-kind
bounds-self-kind c =
    let told : Good ≡ ready c.args.self = sym c.in-Ok.ensures.0 in
    let place : c.args.kind < 16 = search ready_place in omega arith

pub bounds-self-kind-2 : goal.bounds-self-kind-2
bounds-self-kind-2 c =
    let told : Good ≡ ready c.args.self = sym c.in-Ok.ensures.0 in
    let place : c.args.kind < 16 = search ready_place in omega arith

pub returns-in_default-answer : goal.returns-in_default-answer
returns-in_default-answer c =
    let told : Good ≡ ready c.args.self = sym c.in-Ok.ensures.0 in
    search release_unstarted

pub overflow_cast-self : goal.overflow_cast-self
overflow_cast-self c =
    let told : Good ≡ ready c.args.self = sym c.in-Ok.ensures.0 in
    let small : c.args.length < 65536 = search starts_length in omega arith

pub bounds-self-kind-3 : goal.bounds-self-kind-3
bounds-self-kind-3 c =
    let told : Good ≡ ready c.args.self = sym c.in-Ok.ensures.0 in
    let place : c.args.kind < 16 = search ready_place in omega arith

pub overflow_cast-self-2 : goal.overflow_cast-self-2
overflow_cast-self-2 c =
    let told : Good ≡ ready c.args.self = sym c.in-Ok.ensures.0 in
    let small : c.args.length < 65536 = search starts_length in omega arith

pub offset_bounds-self-from : goal.offset_bounds-self-from
offset_bounds-self-from c =
    let told : Good ≡ ready c.args.self = sym c.in-Ok.ensures.0 in
    let small : (kind_at c.args.self c.args.kind).project < 8 = search starts_project in omega (arith, c.from.ensures)

pub bounds-self-from : goal.bounds-self-from
bounds-self-from c =
    let told : Good ≡ ready c.args.self = sym c.in-Ok.ensures.0 in
    let small : (kind_at c.args.self c.args.kind).project < 8 = search starts_project in omega (arith, c.from.ensures)

pub overflow_add-self : goal.overflow_add-self
overflow_add-self c =
    let told : Good ≡ ready c.args.self = sym c.in-Ok.ensures.0 in
    let room : get_or c.args.self.sum c.from.result 0 + c.args.length < 65536 = search starts_room in omega arith

pub bounds-self-from-2 : goal.bounds-self-from-2
bounds-self-from-2 c =
    let told : Good ≡ ready c.args.self = sym c.in-Ok.ensures.0 in
    let small : (kind_at c.args.self c.args.kind).project < 8 = search starts_project in omega (arith, c.from.ensures)

pub returns : goal.returns
returns c =
    let told : Good ≡ ready c.args.self = sym c.in-Ok.ensures.0 in
    search release_started
