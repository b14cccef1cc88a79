-- `rack::State::check` meets its contract.
-- Assumes nothing.
use Rattle.std.proofs.Common.{ap, not, arith}
use Rattle.laws.specs.Tests.{told_yes}
use Rattle.rack.specs.Form.Properties.{place_found, projects_most}
use Rattle.rack.proofs.Laws.Found.{looked_none, looked_project, looked_same, looked_room, looked_more}
use Rattle.rack.proofs.Laws.Found.{found_order, found_past, found_place, found_sums, found_differ, found_good}
use Rattle.rack.proofs.State.check.Goals as goal

pub returns-in-No : goal.returns-in-No
returns-in-No c = search found_order

pub returns-then-self : goal.returns-then-self
returns-then-self c = search found_past

pub loop-i-init : goal.loop-i-init
loop-i-init c = (omega arith, search looked_none)

pub returns-then-not-fits_place : goal.returns-then-not-fits_place
returns-then-not-fits_place c = search found_place

pub loop-i-preserved-then-unit-eq0 : goal.loop-i-preserved-then-unit-eq0
loop-i-preserved-then-unit-eq0 c =
    let tested = c in
    let told = tested in
    let here = told in
    let start = here in
    let fits = told_yes _ told.fits_place.result (place_found start.args.self here.loop-i.i told.in_use.result
    told.fits_place.result told.in_use.ensures told.fits_place.ensures) (ap not tested.if-not-fits_place.false) in
    (omega arith, looked_same _ _ _ _ _ here.loop-i.invariant.1 (omega arith) fits (search))

pub overflow_add-works : goal.overflow_add-works
overflow_add-works c =
    let here = c in
    let start = here in
    omega (arith, looked_project start.args.self here.loop-i.i _ _ _ here.loop-i.invariant.1 (omega arith))

pub bounds-left-from : goal.bounds-left-from
bounds-left-from c = rw c.from.ensures (search looked_project)

pub overflow_add-left : goal.overflow_add-left
overflow_add-left c = search (looked_room, told_yes, place_found)

pub bounds-left-from-in-loop-i : goal.bounds-left-from-in-loop-i
bounds-left-from-in-loop-i c = rw c.from.ensures (search looked_project)

pub loop-i-preserved : goal.loop-i-preserved
loop-i-preserved c =
    let tested = c in
    let told = tested in
    let here = told in
    let start = here in
    let fits = told_yes _ told.fits_place.result (place_found start.args.self here.loop-i.i told.in_use.result
    told.fits_place.result told.in_use.ensures told.fits_place.ensures) (ap not tested.if-not-fits_place.false) in
    (omega arith, looked_more _ _ _ _ _ here.loop-i.invariant.1 (omega arith) fits (search) _ _ (search) (search))

pub returns-then-not-sums_fit : goal.returns-then-not-sums_fit
returns-then-not-sums_fit c =
    let fits = rw c.from-projects.ensures at c.sums_fit.ensures in
    search found_sums

pub sums_agree-requires : goal.sums_agree-requires
sums_agree-requires c = rw c.from-projects.ensures (search projects_most)

pub returns-then-not-sums_agree : goal.returns-then-not-sums_agree
returns-then-not-sums_agree c =
    let fits = rw c.from-projects.ensures at c.sums_fit.ensures in
    let agree = rw c.from-projects.ensures at c.sums_agree.ensures in
    search found_differ

pub returns : goal.returns
returns c =
    let fits = rw c.from-projects.ensures at c.sums_fit.ensures in
    let agree = rw c.from-projects.ensures at c.sums_agree.ensures in
    found_good _ _ _ _ _ c.loop-i.invariant.1 (omega arith) (omega arith) _ fits (search) _ agree (search)
