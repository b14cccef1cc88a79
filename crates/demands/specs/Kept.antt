-- The layers together: what a run from a fresh start on an admitted plan keeps.
-- Assumes nothing.
use Rattle.std.specs.Prelude.{◌≡◌, ◌≢◌, true, false, List, ℕ, ◌+◌, ◌-◌, ◌%◌, ◌≤◌, ◌<◌, min, length, get_or, take, drop}
use Rattle.std.proofs.Math.Path.{sym, ap}
use Rattle.std.proofs.Common.{ap₂, ◌∙◌, zero-add, arith}
use Rattle.std.proofs.lemmas.List.{get_or-replicate}
use Rattle.plan.specs.declared.Plan.{Plan}
use Rattle.plan.specs.declared.Kind.{Kind}
use Rattle.answer.specs.declared.Answer.TheVariants.{Good}
use Rattle.answer.specs.Answer.{number}
use Rattle.plan.specs.Order.{budget_of, kind_of, within, InOrder}
use Rattle.layout.specs.Layout.{held}
use Rattle.unit.specs.declared.Unit.{Unit}
use Rattle.rack.specs.declared.State.{State}
use Rattle.unit.specs.Unit.{no_unit}
use Rattle.rack.specs.State.{unit_of, kind_at}
use Rattle.rack.specs.State.Properties.{good_moves}
use Rattle.rack.specs.Start.{start_of}
use Rattle.rack.specs.Start.Properties.{start_good}
use Rattle.rack.specs.Rank.{active_kinds}
use Rattle.unit.specs.Start.{early}
use Rattle.rack.specs.Release.{released, release_answer, release_of}
use Rattle.rack.specs.Row.{row_of}
use Rattle.rack.specs.Advance.{advance_answer, advance_of}
use Rattle.rack.proofs.Laws.Advance.{advance_moves}
use Rattle.demands.specs.Run.{Call, show, advance, release, next_after, run_from, after, no_slice, slices_of}
use Rattle.demands.specs.Since.{Since, never, since_from, fewer}
use Rattle.demands.specs.Run.Properties.{run_slice, run_plan, At, slices_at}
use Rattle.demands.specs.Shown.{shown, restarted}
use Rattle.demands.specs.View.{cards_from}
use Rattle.demands.specs.Named.{names_kind, names_project, bytes_in, bytes_naming, Orderly}
use Rattle.demands.specs.Served.{named_falls}
use Rattle.demands.specs.Named.Properties.{orderly}
use Rattle.demands.specs.Budget.{named_most, named_all}
use Rattle.demands.specs.Safe.Properties.{start_safe, after_safe}
use Rattle.demands.specs.InTime.{OnTime, release_named, release_gone, release_left}
use Rattle.demands.specs.Refusals.{is_ready, release_not_ten, fourteen_early, early_fourteen, show_not}
use Rattle.demands.specs.Since.Properties.{tells_early, Told, told_run}

-- an accepted release hands back the state that it says
release_moves : (s : State) (i e : ℕ) → (release_of s i e).answer ≡ Good → (release_of s i e).state ≡ released s i e
unfolding release_of
release_moves s i e good = good_moves (release_answer s i e) (released s i e) s good

release_good : (s : State) (i e : ℕ) → (release_of s i e).answer ≡ Good → release_answer s i e ≡ Good
unfolding release_of
release_good s i e good = good

advance_good : (s : State) → (advance_of s).answer ≡ Good → advance_answer s ≡ Good
unfolding advance_of
advance_good s good = good

module _ (p : Plan) (admitted : (start_of p).answer ≡ Good) where
  abbrev fresh : State
  fresh = (start_of p).state

  start_plan : fresh.plan ≡ p
  start_plan = ap (λ (s : State). s.plan) (start_good p admitted)

  start_order : InOrder fresh.plan
  start_order = (start_safe p admitted).ready.order

  after_plan : (calls : List Call) → (after p calls).plan ≡ p
  after_plan calls = run_plan calls fresh ∙ start_plan

  kinds_kept : (calls : List Call) → (after p calls).plan.kinds ≡ p.kinds
  kinds_kept calls = ap (λ (q : Plan). q.kinds) (after_plan calls)

  kind_kept : (calls : List Call) (i : ℕ) → kind_at (after p calls) i ≡ kind_of p i
  kind_kept calls i = ap (λ (q : Plan). kind_of q i) (after_plan calls)

  -- the slice starts at 0, and counts within the frame
  start_slice : fresh.slice ≡ 0
  start_slice = ap (λ (s : State). s.slice) (start_good p admitted)

  pub slice_counts : (calls : List Call) → (after p calls).slice ≡ length (slices_of fresh calls) % p.frame
  slice_counts calls =
      run_slice calls fresh (start_safe p admitted).ready.form.slice_below
      ∙ ap₂ (λ (n : ℕ) (q : Plan). (n + length (slices_of fresh calls)) % q.frame) start_slice start_plan
      ∙ ap (λ (n : ℕ). n % p.frame) (zero-add (length (slices_of fresh calls)))

  -- ---- a unit

  module _ (calls more : List Call) (i e : ℕ) (good : (release_of (after p calls) i e).answer ≡ Good) where
    abbrev next : State
    next = (release_of (after p calls) i e).state

    deadline_kept : (kind_at (after p calls) i).deadline ≡ (kind_of p i).deadline
    deadline_kept = ap (λ (k : Kind). k.deadline) (kind_kept calls i)

    pub unit_named : OnTime i e (kind_of p i).deadline (slices_of next more)
    unit_named =
        rw (release_moves (after p calls) i e good, ← deadline_kept)
        (release_named (after p calls) (after_safe p admitted calls) i e (release_good (after p calls) i e good) more)

    separation_kept : (kind_at (after p calls) i).separation ≡ (kind_of p i).separation
    separation_kept = ap (λ (k : Kind). k.separation) (kind_kept calls i)

    pub unit_gone : restarted i (shown next more) ≡ false →
        (unit_of (run_from next more) i).gone ≡ min (kind_of p i).separation (length (slices_of next more))
    unit_gone =
        rw (release_moves (after p calls) i e good, ← separation_kept)
        (release_gone (after p calls) (after_safe p admitted calls) i e (release_good (after p calls) i e good) more)

    pub unit_left : restarted i (shown next more) ≡ false →
        (unit_of (run_from next more) i).left ≤ (kind_of p i).deadline - length (slices_of next more)
    unit_left =
        rw (release_moves (after p calls) i e good, ← deadline_kept)
        (release_left (after p calls) (after_safe p admitted calls) i e (release_good (after p calls) i e good) more)

  -- ---- a row

  pub row_serves : (calls : List Call) (i : ℕ) →
      let s = after p calls in
      let next = advance_of s in
      next.answer ≡ Good → i < p.kinds →
      (unit_of next.state i).left + bytes_in (names_kind i) (row_of s) ≡ (unit_of s i).left
  row_serves calls i good l =
      let s = after p calls in
      rw (advance_moves s good)
      (named_falls s (after_safe p admitted calls) (advance_good s good) i (omega (arith, kinds_kept calls)))

  pub row_orderly : (calls : List Call) (x : ℕ) →
      x < length (slices_of fresh calls) →
      Orderly p (get_or (slices_of fresh calls) x no_slice).row
  row_orderly calls x l =
      let holds : ℕ → ℕ = λ j. cards_from fresh j x in
      let at : At p holds (get_or (slices_of fresh calls) x no_slice) = rw start_plan at (slices_at no_slice calls fresh x l) in
      orderly p holds (get_or (slices_of fresh calls) x no_slice) at

  -- ---- a project

  module _ (calls : List Call) (x j : ℕ) (l : j < p.projects) (enough : x + p.frame ≤ length (slices_of fresh calls)) where
    pub project_most : bytes_naming (names_project p j) (take p.frame (drop x (slices_of fresh calls))) ≤ budget_of p j
    project_most = rw start_plan at (named_most fresh start_order calls x j (rw start_plan l) (rw start_plan enough))

    pub project_all :
        ((y : ℕ) → y < p.frame → let s = (get_or (slices_of fresh calls) (x + y) no_slice).before in held p j s.slice ≤ active_kinds s j) →
        bytes_naming (names_project p j) (take p.frame (drop x (slices_of fresh calls))) ≡ budget_of p j
    project_all busy =
        rw start_plan at (named_all fresh start_order calls x j (rw start_plan l) (rw start_plan enough) (rw start_plan busy))

  -- ---- a refusal

  -- "A rack runs for ever": every advance is accepted
  pub advance_always : (calls : List Call) → (advance_of (after p calls)).answer ≡ Good
  unfolding advance_of
  advance_always calls = is_ready (after p calls) (after_safe p admitted calls).ready

  pub not_ten : (calls : List Call) (call : Call) → number (next_after (after p calls) call).answer ≢ 10
  unfolding advance_of release_of
  not_ten calls (show bytes) = show_not (after p calls) (after_safe p admitted calls).ready (length bytes) 10 (omega arith) (omega arith)
  not_ten calls advance = λ h. omega (arith, ap number (is_ready (after p calls) (after_safe p admitted calls).ready), h)
  not_ten calls (release i e) = release_not_ten (after p calls) (after_safe p admitted calls).ready i e

  module _ (calls : List Call) (i e : ℕ) where
    -- what the run tells of the kind
    abbrev since : Since
    since = since_from i fresh never calls

    -- "14: released before, and fewer than T slices ago", by what the run tells
    abbrev Early : Type 0
    Early = (i < p.kinds) × (within (kind_of p i).length e ≡ true) × (fewer (kind_of p i).separation since ≡ true)

    told : i < p.kinds → Told i (after p calls) since
    told l = told_run i calls fresh never (record { safe = start_safe p admitted; its_kind = rw start_plan l; tells = never_yet })
      where
        below : i < 16
        below = omega (arith, start_order.counts.kinds_most, ap (λ (q : Plan). q.kinds) start_plan)

        never_yet : (unit_of fresh i).released ≡ false
        never_yet = rw (start_good p admitted) (ap (λ (v : Unit). v.released) (get_or-replicate 16 i no_unit no_unit below))

    -- the slices since, as the state and as the run count them
    counted : i < p.kinds →
        let s = after p calls in
        early (kind_at s i).separation (unit_of s i) ≡ fewer (kind_of p i).separation since
    counted l = tells_early (after p calls) i since (told l).tells ∙ ap (λ (k : Kind). fewer k.separation since) (kind_kept calls i)

    fits_kept : within (kind_at (after p calls) i).length e ≡ within (kind_of p i).length e
    fits_kept = ap (λ (k : Kind). within k.length e) (kind_kept calls i)

    pub fourteen_says : number (release_of (after p calls) i e).answer ≡ 14 → Early
    unfolding release_of
    fourteen_says h =
        let t = fourteen_early (after p calls) (after_safe p admitted calls).ready i e h in
        let l : i < p.kinds = omega (arith, t.0, kinds_kept calls) in
        (l, sym fits_kept ∙ t.1, sym (counted l) ∙ t.2)

    pub fourteen_of : Early → number (release_of (after p calls) i e).answer ≡ 14
    unfolding release_of
    fourteen_of h =
        early_fourteen (after p calls) (after_safe p admitted calls).ready i e
        (omega (arith, h.0, kinds_kept calls)) (fits_kept ∙ h.1) (counted h.0 ∙ h.2)
