-- Every plan that is read or found, and every state that is found or that a fresh start, a release and an advance hand back, is of the
-- language's type.
-- Assumes nothing.
use Rattle.std.specs.Prelude.{◌≡◌, Bool, true, false, cond, List, [], ◌∷◌, ℕ, ◌+◌, ◌*◌, ◌≤◌, ◌<◌, drop, replicate}
use Rattle.std.proofs.Math.Path.{refl}
use Rattle.std.proofs.Common.{sym, mul-le-mul, arith}
use Rattle.std.proofs.Math.Nat.{mod-lt}
use Rattle.std.proofs.Math.Decide.{dec_lt, ℕ_discrete}
use Rattle.std.proofs.lemmas.List.{get_or-replicate}
use Rattle.laws.specs.Written.Properties.{written_at, written_kept, written_length}
use Rattle.codec.specs.Pack.{unpack, Fitting}
use Rattle.codec.specs.Place.{fields_of}
use Rattle.codec.specs.Place.Properties.{fields_fit}
use Rattle.answer.specs.declared.Answer.{Answer}
use Rattle.answer.specs.declared.Answer.TheVariants.{Good, No}
use Rattle.answer.specs.declared.Refusal.{Refusal}
use Rattle.plan.specs.declared.Plan.{Plan}
use Rattle.plan.specs.Record.{no_project, no_kind, no_plan}
use Rattle.plan.specs.Order.{project_of, kind_of, empty_project, empty_kind}
use Rattle.plan.specs.Order.Properties.{in_order}
use Rattle.plan_bytes.specs.Parts.{Shaped}
use Rattle.plan_bytes.specs.Reading.{read_of}
use Rattle.plan_bytes.specs.RoundTrip.Reads.{Passes, order_passes, empty_project_law, empty_kind_law, unused_place}
use Rattle.plan_bytes.specs.RoundTrip.Writes.{read_shaped, read_checked}
use Rattle.rack.specs.declared.State.{State}
use Rattle.unit.specs.Unit.{no_unit}
use Rattle.unit.specs.Step.Properties.{gone_never, gone_more}
use Rattle.rack.specs.State.{fresh_of, unit_of, kind_at, kind_places, sum_at}
use Rattle.rack.specs.Start.Properties.{fresh_places}
use Rattle.rack.specs.Form.Properties.{places_most, place_most}
use Rattle.rack.specs.Release.{release_answer, released, Releasable}
use Rattle.rack.specs.Release.Properties.{release_says, release_unit, release_others, release_places, release_room, release_sum}
use Rattle.rack.specs.Release.Properties.{release_sum_others}
use Rattle.rack.specs.Advance.{unit_after, advanced, advance_answer}
use Rattle.rack.proofs.Laws.Advance.{advance_says, advance_places, sum_falls, after_released, after_gone, after_left}
use Rattle.images.specs.Image.{count_widths, project_widths, kind_widths, slice_widths, unit_widths, sum_widths, project_place, kind_place}
use Rattle.images.specs.Image.{slice_place, unit_place, sum_place, sum_from}
use Rattle.images.specs.Image.{project_from, kind_from, slice_from, unit_from, plan_from, state_from, project_fields, kind_fields}
use Rattle.images.specs.Image.{unit_fields}
use Rattle.images.specs.Typed.{PlanTyped, StateTyped}

-- ---- found in an image

flag_fits : (b : Bool) → cond b 1 0 < 256
flag_fits true = omega arith
flag_fits false = omega arith

project_fitting : (s : List ℕ) → Fitting project_widths (project_fields (project_from s))
unfolding project_from fields_of unpack
project_fitting s = fields_fit project_widths s

kind_fitting : (s : List ℕ) → Fitting kind_widths (kind_fields (kind_from s))
unfolding kind_from fields_of unpack
kind_fitting s = fields_fit kind_widths s

unit_fitting : (s : List ℕ) → Fitting unit_widths (unit_fields (unit_from s))
unfolding unit_from fields_of unpack
unit_fitting s = (flag_fits (unit_from s).released, (fields_fit unit_widths s).1)

sum_fitting : (s : List ℕ) → Fitting sum_widths (sum_from s ∷ [])
unfolding sum_from fields_of unpack
sum_fitting s = fields_fit sum_widths s

-- a plan
pub plan_found_typed : (s : List ℕ) → PlanTyped (plan_from s)
unfolding plan_from fields_of unpack
plan_found_typed s =
    record {
      shaped = record {
        eight = written_length 8 (λ j. project_from (drop (project_place j) s)) (replicate 8 no_project);
        sixteen = written_length 16 (λ i. kind_from (drop (kind_place i) s)) (replicate 16 no_kind);
      };
      counts_fit = fields_fit count_widths s;
      project_fits = λ j l.
          rw (written_at 8 (λ k. project_from (drop (project_place k) s)) (replicate 8 no_project) no_project j l (omega arith))
          (project_fitting (drop (project_place j) s));
      kind_fits = λ i l.
          rw (written_at 16 (λ k. kind_from (drop (kind_place k) s)) (replicate 16 no_kind) no_kind i l (omega arith))
          (kind_fitting (drop (kind_place i) s));
    }

-- a state
pub state_found_typed : (s : List ℕ) → StateTyped (state_from s)
unfolding state_from slice_from fields_of unpack
state_found_typed s =
    record {
      plan_typed = plan_found_typed s;
      slice_fits = fields_fit slice_widths (drop slice_place s);
      places = record {
        sixteen = written_length 16 (λ i. unit_from (drop (unit_place i) s)) (replicate 16 no_unit);
        eight = written_length 8 (λ j. sum_from (drop (sum_place j) s)) (replicate 8 0);
      };
      unit_fits = λ i l.
          rw (written_at 16 (λ k. unit_from (drop (unit_place k) s)) (replicate 16 no_unit) no_unit i l (omega arith))
          (unit_fitting (drop (unit_place i) s));
      sum_fits = λ j l.
          rw (written_at 8 (λ k. sum_from (drop (sum_place k) s)) (replicate 8 0) 0 j l (omega arith))
          (sum_fitting (drop (sum_place j) s));
    }

-- ---- read from plan bytes

none_typed : PlanTyped no_plan
none_typed =
    record {
      shaped = record { eight = refl; sixteen = refl };
      counts_fit = (omega arith, (omega arith, (omega arith, (omega arith, tt))));
      project_fits = λ j l. rw (get_or-replicate 8 j no_project no_project l) (omega arith, (omega arith, tt));
      kind_fits = λ i l. rw (get_or-replicate 16 i no_kind no_kind l) (omega arith, (omega arith, (omega arith, (omega arith, tt))));
    }

module _ (p : Plan) (shaped : Shaped p) (order : Passes p) where
  order_project : (j : ℕ) → j < 8 → Dec (j < p.projects) → Fitting project_widths (project_fields (project_of p j))
  order_project j l (yes u) =
      let v = project_of p j in
      let c = order.counts in
      let r = order.project_at_law j u in
      let q : v.ceiling ≤ 8 = omega (arith, r.ceiling_most, c.cards_most) in
      let b : v.budget ≤ 8 * 64 = omega (arith, r.budget_most, mul-le-mul q c.frame_most) in
      (omega arith, (omega arith, tt))
  order_project j l (no u) =
      rw (empty_project_law (project_of p j)
      (unused_place j p.projects (empty_project (project_of p j)) (omega arith) (order.projects_tidy j l)))
      (omega arith, (omega arith, tt))

  order_kind : (i : ℕ) → i < 16 → Dec (i < p.kinds) → Fitting kind_widths (kind_fields (kind_of p i))
  order_kind i l (yes u) =
      let r = order.kind_at_law i u in
      let a = r.its_project in
      let n = order.counts.projects_most in
      let t = r.separation_most in
      let d = r.deadline_most in
      let c = r.length_most in
      (omega arith, (omega arith, (omega arith, (omega arith, tt))))
  order_kind i l (no u) =
      rw (empty_kind_law (kind_of p i) (unused_place i p.kinds (empty_kind (kind_of p i)) (omega arith) (order.kinds_tidy i l)))
      (omega arith, (omega arith, (omega arith, (omega arith, tt))))

  -- a plan that passes 2 to 6
  pub passes_typed : PlanTyped p
  passes_typed =
      let c = order.counts in
      let m = c.cards_most in
      let k = c.projects_most in
      let n = c.kinds_most in
      let f = c.frame_most in
      record {
        shaped = shaped;
        counts_fit = (omega arith, (omega arith, (omega arith, (omega arith, tt))));
        project_fits = λ j l. order_project j l (dec_lt j p.projects);
        kind_fits = λ i l. order_kind i l (dec_lt i p.kinds);
      }

read_none : (s : List ℕ) (w : Refusal) → (read_of s).answer ≡ No w → (read_of s).plan ≡ no_plan
unfolding read_of
read_none s w e = rw e

-- what reading gives, good or refused
pub read_typed : (s : List ℕ) → PlanTyped (read_of s).plan
read_typed s = go (read_of s).answer refl
  where
    go : (a : Answer) → (read_of s).answer ≡ a → PlanTyped (read_of s).plan
    go Good e =
        passes_typed (read_of s).plan (read_shaped s e) (order_passes (read_of s).plan (in_order (read_of s).plan (read_checked s e)))
    go (No w) e = rw (read_none s w e) none_typed

-- ---- handed back by the rack

-- by a fresh start
pub start_typed : (p : Plan) → PlanTyped p → StateTyped (fresh_of p)
start_typed p t =
    record {
      plan_typed = t;
      slice_fits = (omega arith, tt);
      places = fresh_places p;
      unit_fits = λ i l. rw (get_or-replicate 16 i no_unit no_unit l) (omega arith, (omega arith, (omega arith, tt)));
      sum_fits = λ j l. (omega (arith, get_or-replicate {A = ℕ} 8 j 0 0 l), tt);
    }

module _ (s : State) (t : StateTyped s) where
  -- by a release
  module _ (i e : ℕ) (good : release_answer s i e ≡ Good) where
    r : Releasable s i e
    r = release_says s i e good

    release_fits : (k : ℕ) → k < 16 → Dec (k ≡ i) → Fitting unit_widths (unit_fields (unit_of (released s i e) k))
    release_fits k l (yes z) =
        let slice = t.slice_fits in
        let kind = t.plan_typed.kind_fits i (place_most s i r.ready r.its_kind) in
        let most = r.start.length_most in
        rw (z, release_unit s i e r t.places) (omega arith, (omega arith, (omega arith, tt)))
    release_fits k l (no z) = rw (release_others s i e r t.places k z) (t.unit_fits k l)

    raised_fits : (j : ℕ) → j < 8 → Dec (j ≡ (kind_at s i).project) → Fitting sum_widths (sum_at (released s i e) j ∷ [])
    raised_fits j l (yes z) =
        let room = release_room s i e (kind_at s i).project Good refl (sym good) refl in
        rw z (omega (arith, release_sum s i e r t.places), tt)
    raised_fits j l (no z) = rw (release_sum_others s i e r t.places j z) (t.sum_fits j l)

    pub release_typed : StateTyped (released s i e)
    unfolding released
    release_typed =
        record {
          plan_typed = t.plan_typed;
          slice_fits = t.slice_fits;
          places = release_places s i e r t.places;
          unit_fits = λ k l. release_fits k l (ℕ_discrete k i);
          sum_fits = λ j l. raised_fits j l (ℕ_discrete j (kind_at s i).project);
        }

  -- by an advance
  module _ (good : advance_answer s ≡ Good) where
    -- held at T, a number of 16 bits
    gone_fits : (k : ℕ) → k < 16 → (b : Bool) → (unit_of s k).released ≡ b → (unit_after s k).gone < 65536
    gone_fits k l true e =
        let separation = (t.plan_typed.kind_fits k l).1.0 in
        omega (arith, after_gone s k, gone_more (kind_at s k).separation (unit_of s k) e)
    gone_fits k l false e =
        let gone = (t.unit_fits k l).1.0 in
        omega (arith, after_gone s k, gone_never (kind_at s k).separation (unit_of s k) e)

    after_fits : (k : ℕ) → k < 16 → Fitting unit_widths (unit_fields (unit_after s k))
    after_fits k l =
        let u = t.unit_fits k l in
        let left = u.1.1.0 in (
          rw (after_released s k) u.0,
          (gone_fits k l (unit_of s k).released refl, (omega (arith, after_left s k), tt)),
        )

    advance_fits : (k : ℕ) → k < 16 → Dec (k < kind_places s) → Fitting unit_widths (unit_fields (unit_of (advanced s) k))
    unfolding advanced
    advance_fits k l (yes z) =
        let n = places_most s (kind_places s) (advance_says s good) refl in
        rw (written_at (kind_places s) (unit_after s) s.unit no_unit k z (omega (arith, t.places.sixteen))) (after_fits k l)
    advance_fits k l (no z) = rw (written_kept (kind_places s) (unit_after s) s.unit no_unit k (omega arith)) (t.unit_fits k l)

    pub advance_typed : StateTyped (advanced s)
    unfolding advanced
    advance_typed =
        let may = advance_says s good in
        let next = mod-lt (s.slice + 1) may.order.counts.some_slice in
        record {
          plan_typed = t.plan_typed;
          slice_fits = (omega (arith, next, may.order.counts.frame_most), tt);
          places = advance_places s may t.places;
          unit_fits = λ k l. advance_fits k l (dec_lt k (kind_places s));
          sum_fits = λ j l. (omega (arith, (t.sum_fits j l).0, sum_falls s may t.places j), tt);
        }
