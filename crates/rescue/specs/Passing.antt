-- "gives a plan that passes 2 to 6": the record order has nothing but 7 to say of the plan that is made.
-- Assumes nothing.
use Rattle.std.specs.Prelude.{◌≡◌, true, not, ◌&&◌, List, ℕ, ◌*◌, ◌≤◌, ◌<◌, ltb, leb, eqb, replicate}
use Rattle.std.proofs.Math.Path.{refl}
use Rattle.std.proofs.Common.{ap, ◌∙◌, mul-pos, arith, ltb-true, leb-true}
use Rattle.std.proofs.Math.Decide.{dec_lt}
use Rattle.std.proofs.Math.ListN.{length-replicate, get_or-replicate}
use Rattle.std.proofs.lemmas.Bool.{eqb-false, not-true}
use Rattle.laws.specs.Tests.{and_left, and_right}
use Rattle.laws.specs.All.Properties.{all_of}
use Rattle.laws.specs.Count.Properties.{count_le}
use Rattle.laws.specs.Written.Properties.{written_at, written_kept, written_length}
use Rattle.codec.specs.Pack.{unpack}
use Rattle.codec.specs.Pack.Properties.{unpack_fits}
use Rattle.codec.specs.Bytes.{number_to}
use Rattle.answer.specs.Answer.Properties.{each_of}
use Rattle.plan.specs.declared.Project.{Project}
use Rattle.plan.specs.declared.Kind.{Kind}
use Rattle.plan.specs.declared.Plan.{Plan}
use Rattle.plan.specs.Record.{no_project, no_kind}
use Rattle.plan.specs.Order.{project_of, kind_of, empty_project, empty_kind, tidy_project, tidy_kind, tidy_projects, tidy_kinds, unused}
use Rattle.plan.specs.Order.{ranges, project_in_range, projects_in_range, kind_in_range_at, kinds_in_range, budgets_fit, checked, Sized}
use Rattle.plan.specs.Order.{ProjectInRange, KindInRange}
use Rattle.plan.specs.Order.Properties.{sizes_of, sized_same, project_of_law, kind_of_law, used_place, kept_empty, no_project_empty}
use Rattle.plan.specs.Order.Properties.{no_kind_empty}
use Rattle.plan_bytes.specs.Parts.{Shaped, kind_widths, kind_fields, kind_from, kind_at, kinds_from, headed, after_projects, decoded}
use Rattle.plan_bytes.specs.RoundTrip.Reads.{Passes}
use Rattle.rescue.specs.Mended.{raised, lowered, project_for, kind_for, kept, project_for_at, kept_at, kinds_kept}
use Rattle.rescue.specs.Mended.{plan_for}
use Rattle.rescue.specs.Mended.Properties.{lowered_most}
use Rattle.rescue.specs.Kept.{kept_length, kept_beyond, kept_from}

-- a plan that passes 2 to 6 passes all but 7
pub passes_checked : (p : Plan) → Passes p → checked p ≡ budgets_fit p
unfolding checked unused ranges projects_in_range kinds_in_range tidy_projects tidy_kinds
passes_checked p o =
    rw (
      sizes_of p o.counts,
      all_of 8 (tidy_project p) o.projects_tidy,
      all_of 16 (tidy_kind p) o.kinds_tidy,
      each_of p.projects (project_in_range p) (λ j l. project_of_law p j (o.project_at_law j l)),
      each_of p.kinds (kind_in_range_at p) (λ i l. kind_of_law p i (o.kind_at_law i l)),
    )

-- ---- a project and a kind

limited_some : (most x : ℕ) → 0 < most → 0 < lowered most (raised x)
unfolding lowered raised
limited_some most x l = omega arith

ceiling_is : (m F : ℕ) (v : Project) → (project_for m F v).ceiling ≡ lowered m (raised v.ceiling)
unfolding project_for
ceiling_is m F v = refl

budget_is : (m F : ℕ) (v : Project) → (project_for m F v).budget ≡ lowered ((project_for m F v).ceiling * F) (raised v.budget)
unfolding project_for
budget_is m F v = refl

pub project_fits : (p : Plan) (v : Project) → 0 < p.cards → 0 < p.frame → ProjectInRange p (project_for p.cards p.frame v)
project_fits p v some slice =
    let w = project_for p.cards p.frame v in
    let q = ceiling_is p.cards p.frame v in
    let b = budget_is p.cards p.frame v in
    let c : 0 < w.ceiling = omega (arith, limited_some p.cards v.ceiling some) in
    let room = mul-pos c slice in
    record {
      some_ceiling = c;
      ceiling_most = omega (arith, lowered_most p.cards (raised v.ceiling));
      some_budget = omega (arith, limited_some (w.ceiling * p.frame) v.budget room);
      budget_most = omega (arith, lowered_most (w.ceiling * p.frame) (raised v.budget));
    }

pub kind_fits : (p : Plan) (v : Kind) → v.separation ≤ 4095 → kept p.projects v ≡ true → KindInRange p (kind_for v)
unfolding kept kind_for
kind_fits p v t e =
    let one = ltb v.project p.projects in
    let two = not (eqb v.length 0) in
    let three = leb v.length (kind_for v).deadline in
    let r = and_right one (two && three) e in
    let z = eqb-false v.length 0 (not-true (eqb v.length 0) (and_left two three r)) in
    record {
      its_project = ltb-true v.project p.projects (and_left one (two && three) e);
      some_length = omega arith;
      length_most = leb-true v.length (kind_for v).deadline (and_right two three r);
      deadline_most = lowered_most v.separation v.deadline;
      separation_most = t;
    }

-- ---- the plan that is made, of one whose counts are in range and whose separations are of twelve bits

-- what stands in bytes that pass 1 and 2
pub record Damaged (p : Plan) : Type 0 where
  pub counts : Sized p
  pub separation_most : (i : ℕ) → i < p.kinds → (kind_of p i).separation ≤ 4095

module _ (p : Plan) (d : Damaged p) where
  -- the made plan's places
  pub made_project : (j : ℕ) → j < p.projects → project_of (plan_for p) j ≡ project_for_at p j
  unfolding plan_for
  made_project j l =
      written_at p.projects (project_for_at p) (replicate 8 no_project) no_project j l
      (omega (arith, length-replicate 8 no_project, d.counts.projects_most))

  pub made_shaped : Shaped (plan_for p)
  unfolding plan_for
  made_shaped =
      record {
        eight = written_length p.projects (project_for_at p) (replicate 8 no_project);
        sixteen = kept_length p p.kinds;
      }

  made_projects : (plan_for p).projects ≡ p.projects
  unfolding plan_for
  made_projects = refl

  made_kinds : (plan_for p).kinds ≡ kinds_kept p p.kinds
  unfolding plan_for
  made_kinds = refl

  -- "20 when no kind remains" and nothing else but 7
  module _ (some : 0 < (plan_for p).kinds) where
    made_sized : Sized (plan_for p)
    unfolding plan_for
    made_sized =
        record {
          some_card = d.counts.some_card;
          cards_most = d.counts.cards_most;
          some_project = d.counts.some_project;
          projects_most = d.counts.projects_most;
          some_kind = some;
          kinds_most = omega (arith, count_le p.kinds (kept_at p), d.counts.kinds_most);
          some_slice = d.counts.some_slice;
          frame_most = d.counts.frame_most;
        }

    project_tidy : (j : ℕ) → j < 8 → tidy_project (plan_for p) j ≡ true
    unfolding plan_for
    project_tidy j l =
        elim (dec_lt j p.projects) [
          | yes q ↦ used_place j p.projects p.projects (empty_project (project_of (plan_for p) j)) refl q
          | no q ↦ kept_empty j p.projects (empty_project (project_of (plan_for p) j))
              (ap empty_project
              (written_kept p.projects (project_for_at p) (replicate 8 no_project) no_project j (omega arith)
              ∙ get_or-replicate 8 j no_project no_project l) ∙ no_project_empty)
        ]

    kind_tidy : (i : ℕ) → i < 16 → tidy_kind (plan_for p) i ≡ true
    unfolding plan_for
    kind_tidy i l =
        let n = kinds_kept p p.kinds in
        elim (dec_lt i n) [
          | yes q ↦ used_place i n n (empty_kind (kind_of (plan_for p) i)) refl q
          | no q ↦ kept_empty i n (empty_kind (kind_of (plan_for p) i))
              (ap empty_kind (kept_beyond p p.kinds i (omega arith) l) ∙ no_kind_empty)
        ]

    in_range : (j : ℕ) → j < p.projects → ProjectInRange (plan_for p) (project_of (plan_for p) j)
    unfolding plan_for
    in_range j l = rw (made_project j l) (project_fits (plan_for p) (project_of p j) d.counts.some_card d.counts.some_slice)

    timed : (i : ℕ) → i < kinds_kept p p.kinds → KindInRange (plan_for p) (kind_of (plan_for p) i)
    unfolding plan_for
    timed i l =
        let t = kept_from p p.kinds i d.counts.kinds_most l in
        rw t.3 (kind_fits (plan_for p) (kind_of p t.0) (d.separation_most t.0 t.1) t.2)

    pub made_passes : Passes (plan_for p)
    made_passes =
        record {
          counts = made_sized;
          projects_tidy = project_tidy;
          kinds_tidy = kind_tidy;
          project_at_law = λ j l. in_range j (rw made_projects at l);
          kind_at_law = λ i l. timed i (rw made_kinds at l);
        }

-- ---- what stands in bytes is so

twelve_bits : (s : List ℕ) → (kind_from s).separation < 4096
unfolding kind_from kind_fields unpack
twelve_bits s = (unpack_fits kind_widths (number_to 5 s)).1.0

pub decoded_damaged : (s : List ℕ) → Sized (headed s) → Damaged (decoded s)
unfolding decoded kinds_from
decoded_damaged s c =
    record {
      counts = sized_same (decoded s) (headed s) refl refl refl refl c;
      separation_most = λ i l.
          let e = written_at (headed s).kinds (λ k. kind_from (kind_at (after_projects s) k)) (replicate 16 no_kind) no_kind i l
          (omega (arith, length-replicate 16 no_kind, c.kinds_most)) in
          rw e (let t = twelve_bits (kind_at (after_projects s) i) in omega arith);
    }
