-- The layers together, of the row of sums: what a run from a fresh start on an admitted plan keeps in it.
-- Assumes nothing.
use Rattle.std.specs.Prelude.{◌≡◌, ◌≢◌, Bool, List, ℕ, ◌+◌, ◌-◌, ◌≤◌, ◌<◌, eqb, length, replicate}
use Rattle.std.proofs.Math.Path.{refl, ap}
use Rattle.std.proofs.Common.{sym, ◌∙◌, arith, ext_get_or, eq-eqb, ne_eqb}
use Rattle.std.proofs.Math.Bool.{true, false, cond}
use Rattle.std.proofs.Math.Decide.{dec_lt, ℕ_discrete}
use Rattle.std.proofs.lemmas.List.{get_or-replicate}
use Rattle.laws.specs.Sum.Properties.{sum_zero}
use Rattle.laws.specs.Count.{count_to}
use Rattle.laws.specs.Count.Properties.{count_cong}
use Rattle.laws.specs.Written.Properties.{written_length, stored_at}
use Rattle.plan.specs.declared.Plan.{Plan}
use Rattle.plan.specs.Order.{kind_of}
use Rattle.answer.specs.declared.Answer.TheVariants.{Good}
use Rattle.answer.specs.Answer.{number}
use Rattle.rack.specs.declared.State.{State}
use Rattle.rack.specs.State.{kind_at, kind_places, ProjectInUse, project_places, sum_at}
use Rattle.rack.specs.State.Properties.{good_moves}
use Rattle.rack.specs.Sums.{left_for, project_left, left_row}
use Rattle.rack.specs.Sums.Properties.{left_other}
use Rattle.rack.specs.Form.{Ready}
use Rattle.rack.specs.View.{chosen, active_in}
use Rattle.rack.proofs.Laws.View.{chosen_active, chosen_count}
use Rattle.rack.specs.Rank.{served, active_kinds, view_of}
use Rattle.rack.proofs.Laws.Rank.{active_project, ranked}
use Rattle.rack.specs.Row.{row_of}
use Rattle.rack.specs.Start.{start_of}
use Rattle.rack.specs.Start.Properties.{start_good}
use Rattle.rack.specs.Release.{release_answer, released, release_of}
use Rattle.rack.specs.Release.Properties.{release_says, release_sum, release_sum_others}
use Rattle.rack.specs.Advance.{served_for, sum_after, advance_answer, advance_of}
use Rattle.rack.proofs.Laws.Advance.{advance_says, advance_moves, sum_after_law, advance_left}
use Rattle.demands.specs.Run.{Call, next_after, after, accepted}
use Rattle.demands.specs.Run.Properties.{run_plan, now_at}
use Rattle.demands.specs.View.{cards_from}
use Rattle.demands.specs.View.Properties.{cards_now}
use Rattle.demands.specs.Named.{names_project, bytes_in}
use Rattle.demands.specs.Named.Properties.{project_named}
use Rattle.demands.specs.Safe.Properties.{after_safe}
use Rattle.demands.specs.SumsTold.{sixteen_exactly}

-- ---- a ready state

module _ (s : State) (r : Ready s) where
  -- no kind is of a project beyond p
  none_beyond : (j : ℕ) → project_places s ≤ j → project_left s j ≡ 0
  unfolding project_left
  none_beyond j l =
      sum_zero (kind_places s) (left_for s j)
      (λ i m. left_other s j i (λ e. omega (arith, (r.order.kind_at_law i m).its_project)))

  pub sum_is : (j : ℕ) → j < 8 → sum_at s j ≡ project_left s j
  sum_is j l =
      elim (dec_lt j (project_places s)) [
        | yes m ↦ r.sums j m
        | no m ↦ r.form.sums_unused j l m ∙ sym (none_beyond j (omega arith))
      ]

  pub row_is : length s.sum ≡ 8 → s.sum ≡ left_row s
  row_is e =
      let n = written_length 8 (project_left s) (replicate 8 0) in
      ext_get_or 0 s.sum (left_row s) (e ∙ sym n)
      (λ j l. sum_is j (omega arith) ∙ sym (stored_at 8 8 (project_left s) j (omega arith) (omega arith)))

  -- a project's kinds that are served are those that its view chooses
  served_chosen : (j i : ℕ) → served_for s j i ≡ chosen (view_of s j) i
  unfolding served_for served view_of
  served_chosen j i =
      elim (ℕ_discrete (kind_at s i).project j) [
        | yes e ↦ rw (eq-eqb (kind_at s i).project j e) (ap (λ (x : ℕ). chosen (view_of s x) i) e)
        | no e ↦ rw (ne_eqb (kind_at s i).project j e) (sym (go (chosen (view_of s j) i) refl e))
      ]
    where
      go : (b : Bool) → chosen (view_of s j) i ≡ b → (kind_at s i).project ≢ j → chosen (view_of s j) i ≡ false
      go true q z = absurd (z (active_project s j i (chosen_active (view_of s j) i q)))
      go false q z = q

  -- and the row names as many
  pub served_named : advance_answer s ≡ Good → (j : ℕ) → ProjectInUse s j →
      count_to (kind_places s) (served_for s j) ≡ bytes_in (names_project s.plan j) (row_of s)
  unfolding active_in active_kinds view_of
  served_named good j l =
      let named = project_named s.plan (λ k. cards_from s k 0) (accepted s) (now_at s good) j l in
      count_cong (kind_places s) (served_for s j) (chosen (view_of s j)) (λ i m. served_chosen j i)
      ∙ chosen_count (view_of s j) (ranked s)
      ∙ omega (arith, named, cards_now s j)

advance_good : (s : State) → (advance_of s).answer ≡ Good → advance_answer s ≡ Good
unfolding advance_of
advance_good s e = e

lowered : (s : State) (k : ℕ) → sum_after s k ≡ sum_at s k - count_to (kind_places s) (served_for s k)
unfolding sum_after
lowered s k = refl

-- ---- a run

module _ (p : Plan) (admitted : (start_of p).answer ≡ Good) where
  start_plan : (start_of p).state.plan ≡ p
  start_plan = ap (λ (s : State). s.plan) (start_good p admitted)

  after_plan : (calls : List Call) → (after p calls).plan ≡ p
  after_plan calls = run_plan calls (start_of p).state ∙ start_plan

  pub run_row : (calls : List Call) → (after p calls).sum ≡ left_row (after p calls)
  run_row calls = let safe = after_safe p admitted calls in row_is (after p calls) safe.ready safe.places.eight

  pub run_sum : (calls : List Call) (j : ℕ) → j < 8 → sum_at (after p calls) j ≡ project_left (after p calls) j
  run_sum calls = sum_is (after p calls) (after_safe p admitted calls).ready

  pub not_sixteen : (calls : List Call) (call : Call) → number (next_after (after p calls) call).answer ≢ 16
  not_sixteen calls call e =
      let off = ((sixteen_exactly (after p calls) call).0 e).2 in off.2 ((after_safe p admitted calls).ready.sums off.0 off.1)

  pub start_zero : (j : ℕ) → j < 8 → sum_at (start_of p).state j ≡ 0
  start_zero j l = rw (start_good p admitted) (get_or-replicate 8 j 0 0 l)

  pub release_adds : (calls : List Call) (i e j : ℕ) →
      let s = after p calls in
      let next = release_of s i e in
      next.answer ≡ Good → sum_at next.state j ≡ sum_at s j + cond (eqb (kind_of p i).project j) e 0
  unfolding release_of
  release_adds calls i e j good =
      let s = after p calls in
      let safe = after_safe p admitted calls in
      let may = release_says s i e good in
      let same : (kind_at s i).project ≡ (kind_of p i).project = ap (λ (q : Plan). (kind_of q i).project) (after_plan calls) in
      ap (λ (x : State). sum_at x j) (good_moves (release_answer s i e) (released s i e) s good)
      ∙ elim (ℕ_discrete (kind_at s i).project j) [
        | yes z ↦
            ap (sum_at (released s i e)) (sym z) ∙ release_sum s i e may safe.places
            ∙ omega (arith, ap (sum_at s) z, own (kind_of p i).project (sym same ∙ z))
        | no z ↦
            release_sum_others s i e may safe.places j (λ q. z (sym q))
            ∙ omega (arith, another (kind_of p i).project (λ q. z (same ∙ q)))
      ]
    where
      own : (c : ℕ) → c ≡ j → cond (eqb c j) e 0 ≡ e
      own c z = rw (eq-eqb c j z)

      another : (c : ℕ) → c ≢ j → cond (eqb c j) e 0 ≡ 0
      another c z = rw (ne_eqb c j z)

  pub advance_takes : (calls : List Call) (j : ℕ) →
      let s = after p calls in
      let next = advance_of s in
      next.answer ≡ Good → j < p.projects → sum_at next.state j + bytes_in (names_project p j) (row_of s) ≡ sum_at s j
  advance_takes calls j good l =
      let s = after p calls in
      let safe = after_safe p admitted calls in
      let given = advance_good s good in
      let may = advance_says s given in
      let used : ProjectInUse s j = omega (arith, ap (λ (q : Plan). q.projects) (after_plan calls)) in
      let named = served_named s safe.ready given j used in
      let row = ap (λ (q : Plan). bytes_in (names_project q j) (row_of s)) (after_plan calls) in
      let fell = sum_after_law s may safe.places j used in
      let most = advance_left s may safe.places j in
      rw (advance_moves s good) (omega (arith, fell, lowered s j, named, row, safe.ready.sums j used, most))
