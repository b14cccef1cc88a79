-- "The test is sufficient and not necessary. A refused plan may run well; it is refused all the same": a plan that is, and does.
-- Assumes nothing.
use Rattle.std.specs.Prelude.{◌≡◌, refl, ◌≢◌, true, List, ◌∷◌, ℕ, zero, suc, ◌-◌, ◌≤◌, ◌<◌, length, take, replicate}
use Rattle.std.proofs.Math.Path.{ap}
use Rattle.std.proofs.Common.{ap₂, ◌∙◌, arith}
use Rattle.std.proofs.Math.Decide.{ℕ_discrete}
use Rattle.laws.specs.Sum.{sum_to}
use Rattle.laws.specs.Least.{least_to}
use Rattle.laws.specs.First.{first_to}
use Rattle.laws.specs.Count.{count_to}
use Rattle.laws.specs.Count.Properties.{count_le}
use Rattle.laws.specs.All.{all_to}
use Rattle.answer.specs.declared.Answer.TheVariants.{Good}
use Rattle.answer.specs.Answer.{number, place, excess, each_to}
use Rattle.plan.specs.declared.Plan.{Plan}
use Rattle.plan.specs.Record.{no_project, no_kind}
use Rattle.plan.specs.Example.{project, kind}
use Rattle.plan.specs.Order.{kind_of, InOrder, within, sized, empty_project, empty_kind, tidy_projects, tidy_kinds, in_range, timed}
use Rattle.plan.specs.Order.{budgets, sizes, unused, projects_in_range, kind_in_range, kinds_in_range, budgets_fit, ranges, checked}
use Rattle.plan.specs.Order.Properties.{in_order}
use Rattle.layout.specs.Layout.{cell_at, first_cell, owns, held}
use Rattle.layout.proofs.Laws.Layout.{held_least}
use Rattle.supply.specs.Supply.{window, supply}
use Rattle.supply.specs.Workload.{workload_part}
use Rattle.supply.specs.Greatest.{greatest_to}
use Rattle.supply.specs.Fit.{fits_at, least_width, allowed_length, least_excess}
use Rattle.workload.specs.Workload.{besides, part_of, workload}
use Rattle.verdict.specs.Verdict.{width_of, excess_of, fitted, admitted, judged}
use Rattle.unit.specs.declared.Unit.{Unit}
use Rattle.rack.specs.declared.State.{State}
use Rattle.rack.specs.State.{fresh_of, unit_of, kind_at, InUse, Places}
use Rattle.rack.specs.Form.{Ready}
use Rattle.rack.specs.Form.Properties.{unit_form}
use Rattle.rack.specs.Rank.{active, active_kinds, served}
use Rattle.rack.specs.Start.Properties.{fresh_form, fresh_places}
use Rattle.rack.specs.Release.{released, release_answer, release_of}
use Rattle.rack.specs.Release.Properties.{release_says, release_unit, release_others, release_form, release_places}
use Rattle.rack.specs.Advance.{unit_after, advanced, advance_answer}
use Rattle.rack.proofs.Laws.Advance.{after_left, advance_form, advance_places}
use Rattle.demands.specs.View.{cards_from}
use Rattle.demands.specs.Stands.{enough_served}
use Rattle.demands.specs.Run.{Call, run_from, accepted, slices_of}
use Rattle.demands.specs.Run.Properties.{Claim, WithSlice, WithRelease, along, now_at}
use Rattle.demands.specs.Named.{names_kind, bytes_naming}
use Rattle.demands.specs.Named.Properties.{kind_named}

-- as many cards as kinds: two cards, frame 1; one project q 2, B 2; kinds (0,1,1,1), (0,1,1,1)
abbrev pub enough_cards : Plan
enough_cards = record {
  cards = 2;
  projects = 1;
  kinds = 2;
  frame = 1;
  project = project 2 2 ∷ replicate 7 no_project;
  kind = kind 0 1 1 1 ∷ kind 0 1 1 1 ∷ replicate 14 no_kind;
}

-- it is refused: with k 1 kind 0 asks 1 + 1 against 1, with k 2 it asks 2 + 1 against 2
pub refused_all_the_same : let a = (judged enough_cards).answer in (number a ≡ 8) × (place a ≡ 0) × (excess a ≡ 1)
unfolding sum_to least_to first_to count_to all_to each_to within sized empty_project empty_kind tidy_projects tidy_kinds in_range timed
    budgets sizes unused projects_in_range kind_in_range kinds_in_range budgets_fit ranges checked cell_at first_cell owns held window
    supply workload_part fits_at least_width greatest_to allowed_length least_excess besides part_of workload width_of excess_of fitted
    admitted judged
refused_all_the_same = (refl, refl, refl)

order : InOrder enough_cards
unfolding sum_to all_to each_to within sized empty_project empty_kind tidy_projects tidy_kinds in_range timed budgets sizes unused
    projects_in_range kind_in_range kinds_in_range budgets_fit ranges checked
order = in_order enough_cards refl

-- each kind's separation and deadline
one_slice : (i : ℕ) → i < 2 → ((kind_of enough_cards i).separation ≡ 1) × ((kind_of enough_cards i).deadline ≡ 1)
one_slice zero l = (refl, refl)
one_slice (suc zero) l = (refl, refl)
one_slice (suc (suc i)) l = absurd (omega arith)

-- ---- what a run keeps

pub record Running (s : State) : Type 0 where
  pub plan : s.plan ≡ enough_cards
  pub ready : Ready s
  pub places : Places s

-- ---- every kind with slices left is served

all_served : (s : State) (i : ℕ) → Running s → InUse s i → 0 < (unit_of s i).left → served s i ≡ true
unfolding active_kinds
all_served s i r l w =
    let j = (kind_at s i).project in
    let its = (r.ready.order.kind_at_law i l).its_project in
    let first : j ≡ 0 = omega (arith, its, ap (λ (p : Plan). p.projects) r.plan) in
    let cards = ap₂ (λ (p : Plan) (x : ℕ). held p x s.slice) r.plan first in
    let two = held_least enough_cards order 0 (omega arith) s.slice in
    let most = count_le s.plan.kinds (active s j) in
    enough_served s i r.ready l w (omega (arith, cards, two, most, ap (λ (p : Plan). p.kinds) r.plan))

-- ---- what every call keeps

-- a unit has one slice, so after a slice nothing is left
none_late : (s : State) → Running s → (i : ℕ) → InUse s i → 0 < (unit_after s i).left → (unit_after s i).gone < (kind_at s i).deadline
none_late s r i l w =
    let v = unit_form s i r.ready l in
    let k = r.ready.order.kind_at_law i l in
    let below : i < 2 = omega (arith, l, ap (λ (p : Plan). p.kinds) r.plan) in
    let same = ap (λ (p : Plan). (kind_of p i).deadline) r.plan in
    let some : 0 < (unit_of s i).left = omega (arith, after_left s i) in
    let fallen : (unit_after s i).left ≡ (unit_of s i).left - 1 = rw (all_served s i r l some) at (after_left s i) in
    absurd (omega (arith, fallen, v.left_most, k.length_most, same, (one_slice i below).1))

advance_running : (s : State) → advance_answer s ≡ Good → Running s → Running (advanced s)
unfolding advanced
advance_running s good r = record {
  plan = r.plan;
  ready = advance_form s r.ready r.places (none_late s r);
  places = advance_places s r.ready r.places;
}

release_running : (s : State) (k e : ℕ) → release_answer s k e ≡ Good → Running s → Running (released s k e)
unfolding released
release_running s k e good r =
    let may = release_says s k e good in
    record { plan = r.plan; ready = release_form s k e may r.places; places = release_places s k e may r.places }

run_running : (calls : List Call) (s : State) → Running s → Running (run_from s calls)
run_running =
    along Keeps (λ s h. h)
    (λ s end slices g h t. h (advance_running s g t))
    (λ s end i e slices g h t. h (release_running s i e g t))
  where
    Keeps : Claim
    Keeps s slices end = Running s → Running end

fresh_running : Running (fresh_of enough_cards)
fresh_running = record { plan = refl; ready = fresh_form enough_cards order; places = fresh_places enough_cards }

-- ---- a unit that waits for its first slice gets it

pub record Waits (i : ℕ) (s : State) : Type 0 where
  pub running : Running s
  pub its_kind : InUse s i
  pub released : (unit_of s i).released ≡ true
  pub now : (unit_of s i).gone ≡ 0
  pub left : (unit_of s i).left ≡ 1

module _ (i : ℕ) where
  abbrev Served : Claim
  Served s slices end = Waits i s → 1 ≤ length slices → bytes_naming (names_kind i) (take 1 slices) ≡ 1

  step_slice : WithSlice Served
  unfolding bytes_naming
  step_slice s end slices good h u enough =
      let n = kind_named s.plan (λ j. cards_from s j 0) (accepted s) (now_at s good) i u.its_kind in
      omega (arith, rw (all_served s i u.running u.its_kind (omega (arith, u.left))) at n)

  step_release : WithRelease Served
  unfolding released
  step_release s end k e slices good h u enough =
      elim (ℕ_discrete i k) [ yes q ↦ absurd (again (rw (← q) at (release_says s k e good).start.separated)) | no q ↦ h (other q) enough ]
    where
      below : i < 2
      below = omega (arith, u.its_kind, ap (λ (p : Plan). p.kinds) u.running.plan)

      -- "fewer than T slices ago": none is gone
      again : ((unit_of s i).released ≡ true → (kind_at s i).separation ≤ (unit_of s i).gone) → ⊥
      again separated =
          let same = ap (λ (p : Plan). (kind_of p i).separation) u.running.plan in
          omega (arith, separated u.released, u.now, same, (one_slice i below).0)

      other : i ≢ k → Waits i (released s k e)
      other q =
          let v = release_others s k e (release_says s k e good) u.running.places i q in
          record {
            running = release_running s k e good u.running;
            its_kind = u.its_kind;
            released = ap (λ (x : Unit). x.released) v ∙ u.released;
            now = ap (λ (x : Unit). x.gone) v ∙ u.now;
            left = ap (λ (x : Unit). x.left) v ∙ u.left;
          }

  served_next : (calls : List Call) (s : State) → Waits i s → 1 ≤ length (slices_of s calls) →
      bytes_naming (names_kind i) (take 1 (slices_of s calls)) ≡ 1
  served_next = along Served (λ s u enough. absurd (omega arith)) step_slice step_release

-- an accepted release leaves such a unit, of one slice
released_waits : (s : State) (i e : ℕ) → Running s → release_answer s i e ≡ Good → (e ≡ 1) × Waits i (released s i e)
unfolding released
released_waits s i e r good =
    let may = release_says s i e good in
    let v = release_unit s i e may r.places in
    let below : i < 2 = omega (arith, may.its_kind, ap (λ (p : Plan). p.kinds) r.plan) in
    let fits = (may.ready.order.kind_at_law i may.its_kind).length_most in
    let same = ap (λ (p : Plan). (kind_of p i).deadline) r.plan in
    let one : e ≡ 1 = omega (arith, may.start.some, may.start.length_most, fits, same, (one_slice i below).1) in (
      one,
      record {
        running = release_running s i e good r;
        its_kind = may.its_kind;
        released = ap (λ (x : Unit). x.released) v;
        now = ap (λ (x : Unit). x.gone) v;
        left = ap (λ (x : Unit). x.left) v ∙ one;
      },
    )

-- ---- the statement: as `in_time` of an admitted plan

-- from the fresh state of the refused plan, after any calls a release of kind i with length e is accepted: the rows of the next D
-- accepted slices name the kind e times
pub runs_well : (calls more : List Call) (i e : ℕ) →
    let next = release_of (run_from (fresh_of enough_cards) calls) i e in
    let slices = slices_of next.state more in
    let deadline = (kind_of enough_cards i).deadline in
    next.answer ≡ Good →
    deadline ≤ length slices →
    bytes_naming (names_kind i) (take deadline slices) ≡ e
unfolding release_of
runs_well calls more i e good = rw good at_once
  where
    s : State
    s = run_from (fresh_of enough_cards) calls

    running : Running s
    running = run_running calls (fresh_of enough_cards) fresh_running

    at_once : (kind_of enough_cards i).deadline ≤ length (slices_of (released s i e) more) →
        bytes_naming (names_kind i) (take (kind_of enough_cards i).deadline (slices_of (released s i e) more)) ≡ e
    at_once =
        let t = released_waits s i e running good in
        let below : i < 2 = omega (arith, t.1.its_kind, ap (λ (p : Plan). p.kinds) t.1.running.plan) in
        rw ((one_slice i below).1, t.0) (served_next i more (released s i 1) (rw t.0 at t.1))
