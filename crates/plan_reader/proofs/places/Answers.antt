-- `plan_reader::places` meets its contract.
-- Assumes nothing.
use Rattle.std.specs.Prelude.{◌≡◌, ◌==◌, refl, List, ◌++◌, ℕ, ◌+◌, ◌-◌, ◌*◌, replicate, length, take, drop}
use Rattle.std.proofs.Common.{ap, ap₂, ◌∙◌, arith, length-take-le}
use Rattle.laws.specs.All.{all_to}
use Rattle.laws.specs.Written.{written}
use Rattle.plan.specs.declared.Project.{Project}
use Rattle.plan.specs.declared.Kind.{Kind}
use Rattle.plan.specs.declared.Plan.{Plan}
use Rattle.plan.specs.Record.{no_project, no_kind}
use Rattle.plan_bytes.specs.Parts.{size, headed, project_from, kind_from, projects_from, kinds_from}
use Rattle.plan_bytes.specs.Parts.Properties.{size_after_header, size_after_projects, plan_placed}
use Rattle.plan_bytes.specs.Reading.{project_spare, kind_spare, projects_spare, kinds_spare}
use Rattle.plan_bytes.specs.Reading.Properties.{places_spare_law}
use Rattle.plan_reader.proofs.Front.{front_filled}
use Rattle.plan_reader.proofs.places.Goals as goal

pub slice_bounds-fill-count : goal.slice_bounds-fill-count
unfolding size
slice_bounds-fill-count c = omega arith

pub slice_bounds-fill-start : goal.slice_bounds-fill-start
unfolding size
slice_bounds-fill-start c = omega arith

pub fill-projects-requires : goal.fill-projects-requires
fill-projects-requires c =
    omega (
      arith,
      length-take-le c.from-2.result c.args.plan.project
          (omega arith),
      size_after_header c.args.plan c.args.bytes.now c.requires.3,
    )

pub slice_bounds-fill-count-2 : goal.slice_bounds-fill-count-2
unfolding size
slice_bounds-fill-count-2 c = omega arith

pub slice_bounds-fill-start-2 : goal.slice_bounds-fill-start-2
unfolding size
slice_bounds-fill-start-2 c = omega arith

pub fill-kinds-requires : goal.fill-kinds-requires
fill-kinds-requires c =
    rw c.from.ensures (omega (
      arith,
      length-take-le c.from-3.result c.args.plan.kind
          (omega arith),
      size_after_projects c.args.plan c.args.bytes.now c.requires.3,
    ))

pub returns : goal.returns
unfolding headed projects_from kinds_from projects_spare kinds_spare
returns c =
    let v = c.args.plan in
    let s = take (length c.args.bytes.now - 3) (drop 3 c.args.bytes.now) in
    let t = take (length c.args.bytes.now - (3 + 2 * c.from.result)) (drop (3 + 2 * c.from.result) c.args.bytes.now) in
    let f = λ (j : ℕ). project_from (drop (2 * j) s) in
    let g = λ (i : ℕ). kind_from (drop (5 * i) t) in
    let a : v.project ≡ replicate 8 no_project = ap (λ (p : Plan). p.project) c.requires.0 in
    let b : v.kind ≡ replicate 16 no_kind = ap (λ (p : Plan). p.kind) c.requires.0 in
    let x = c.fill-projects in
    let y = c.fill-kinds in
    let n = length-take-le c.from-2.result v.project (omega arith) ∙ c.from-2.ensures in
    let m = length-take-le c.from-3.result v.kind (omega arith) ∙ c.from-3.ensures in
    let projects : x.new.places ++ drop c.from-2.result v.project ≡ projects_from v.projects s =
    front_filled _ c.from-2.result f v.project x.new.places (omega arith) refl x.ensures.0
    ∙ ap₂ (λ (k : ℕ) (l : List Project). written k f l) c.from-2.ensures a in
    let kinds : y.new.places ++ drop c.from-3.result v.kind ≡ kinds_from v.kinds t =
    front_filled _ c.from-3.result g v.kind y.new.places (omega arith) refl y.ensures.0
    ∙ ap₂ (λ (k : ℕ) (l : List Kind). written k g l) c.from-3.ensures b in
    let clean : x.result ≡ projects_spare v.projects s = x.ensures.1
    ∙ ap (λ (k : ℕ). all_to k (λ j. project_spare (drop (2 * j) s) == 0)) n in
    let rest : y.result ≡ kinds_spare v.kinds t = y.ensures.1 ∙ ap (λ (k : ℕ). all_to k (λ i. kind_spare (drop (5 * i) t) == 0)) m in (
      plan_placed _ _ _ _ c.requires.0 projects (rw c.from.ensures at kinds),
      places_spare_law _ _ _ _ _ c.requires.0 clean (rw c.from.ensures at rest) refl,
    )
