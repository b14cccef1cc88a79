-- Laws of a project's view: an admitted plan admits each of its projects, and its cards give it its supply, and in a frame its budget.
-- Assumes nothing.
use Rattle.std.specs.Prelude.{◌≡◌, ℕ, ◌+◌, ◌*◌, ◌%◌, ◌≤◌, ◌<◌, eqb, get_or}
use Rattle.std.proofs.Math.Path.{refl, ap}
use Rattle.std.proofs.Common.{sym, ◌∙◌, add_assoc, add-zero, arith, eqb-true}
use Rattle.std.proofs.Math.Nat.{mod-add-mod}
use Rattle.laws.specs.Count.{count_to}
use Rattle.laws.specs.Least.Properties.{least_cong}
use Rattle.laws.specs.Sum.{sum_to}
use Rattle.laws.specs.Sum.Properties.{sum_cong}
use Rattle.laws.specs.Where.{sum_where}
use Rattle.plan.specs.declared.Plan.{Plan}
use Rattle.answer.specs.declared.Answer.TheVariants.{Good}
use Rattle.plan.specs.Order.{budget_of, kind_of, InOrder}
use Rattle.layout.specs.Cards.{held_from}
use Rattle.layout.specs.Cards.Properties.{run_period, run_frame}
use Rattle.layout.specs.Layout.{first_cell, held}
use Rattle.layout.proofs.Laws.Layout.{held_from_law}
use Rattle.supply.specs.Supply.{window, supply}
use Rattle.supply.proofs.Laws.Supply.{supply_everywhere}
use Rattle.workload.specs.Workload
use Rattle.workload.specs.Workload.{besides, part_of}
use Rattle.verdict.specs.Verdict.{judged}
use Rattle.verdict.specs.Admission.Properties.{judged_in_order, given_fits}
use Rattle.rack.specs.declared.State.{State}
use Rattle.rack.specs.View.{cards_held}
use Rattle.rack.specs.Rank.{view_of}
use Rattle.rack.specs.Release.{released}
use Rattle.rack.specs.Advance.{advanced}
use Rattle.analysis.specs.Setup.{Own, Timed, other}
use Rattle.analysis.specs.Moment.{Supplied}
use Rattle.analysis.proofs.Laws.Moment.{window_same}
use Rattle.analysis.specs.EarliestFirst.{workload}
use Rattle.analysis.specs.Admitted.{Admitted}
use Rattle.demands.specs.View.{setup_of, cards_from, moment_of}

-- kind i's project is j
pub own_project : (p : Plan) (i j : ℕ) → Own (setup_of p j) i → (kind_of p i).project ≡ j
own_project p i j o = eqb-true (kind_of p i).project j o.mine

-- ---- the verdict's test is the theory's

-- the workload of the verdict is that of the project's view
workload_view : (p : Plan) (i j : ℕ) → (kind_of p i).project ≡ j → Workload.workload p i ≡ workload (setup_of p j) i
unfolding Workload.workload part_of besides workload sum_where other
workload_view p i j e = rw (← e)

-- and so is the supply: the project's cells are a run
supply_view : (p : Plan) → InOrder p → (j k t : ℕ) → j < p.projects → supply p.frame (held p j) k t ≡ (setup_of p j).supply k t
unfolding supply
supply_view p order j k t l =
    let run : ℕ → ℕ = held_from (first_cell p j) (budget_of p j) p.frame in
    least_cong p.frame (λ a. window k (held p j) a t) (λ a. window k run a t)
    (λ a m. window_same k (held p j) run a a t (λ x. held_from_law p order j l (a + x)))

module _ (p : Plan) (good : (judged p).answer ≡ Good) where
  pub view_admitted : (j : ℕ) → Admitted (setup_of p j) (workload (setup_of p j))
  view_admitted j = record { timed = timed; some_width = λ i o. (given_fits p good i o.below).width.some; fits = fits }
    where
      order : InOrder p
      order = judged_in_order p good

      timed : (i : ℕ) → Own (setup_of p j) i → Timed (setup_of p j) i
      timed i o =
          let k = order.kind_at_law i o.below in
          record { some_length = k.some_length; length_fits = k.length_most; reach_fits = omega arith; deadline_fits = k.deadline_most }

      fits : (i : ℕ) → Own (setup_of p j) i → let k = get_or (judged p).width i 0 in
          k * (kind_of p i).length + workload (setup_of p j) i ≤ (setup_of p j).supply k (kind_of p i).deadline
      fits i o =
          let k = get_or (judged p).width i 0 in
          let e = own_project p i j o in
          let its = ap (λ (x : ℕ). supply p.frame (held p x) k (kind_of p i).deadline) e in
          let run = supply_view p order j k (kind_of p i).deadline (omega (arith, e, (order.kind_at_law i o.below).its_project)) in
          omega (arith, (given_fits p good i o.below).room, workload_view p i j e, its, run)

-- ---- the cards from now on

-- a slice's cards are those of its place in the frame
turned : (first budget frame a x : ℕ) → held_from first budget frame (a % frame + x) ≡ held_from first budget frame (a + x)
unfolding held_from
turned first budget frame a x = ap (λ (n : ℕ). count_to budget (λ y. eqb ((first + y) % frame) n)) (mod-add-mod a frame x)

module _ (s : State) (j : ℕ) where
  -- what the project holds at a slice of the frame, or of a later one
  abbrev run : ℕ → ℕ
  run x = held_from (first_cell s.plan j) (budget_of s.plan j) s.plan.frame x

  -- "the cards a project holds": this slice's
  pub cards_now : cards_from s j 0 ≡ cards_held (view_of s j)
  unfolding cards_from cards_held view_of
  cards_now = ap run (add-zero s.slice)

  -- a slice later
  pub cards_later : (x : ℕ) → cards_from (advanced s) j x ≡ cards_from s j (1 + x)
  unfolding cards_from view_of advanced
  cards_later x =
      turned (first_cell s.plan j) (budget_of s.plan j) s.plan.frame (s.slice + 1) x
      ∙ ap run (add_assoc s.slice 1 x)

  -- a release takes no time
  pub cards_kept : (k e x : ℕ) → cards_from (released s k e) j x ≡ cards_from s j x
  unfolding cards_from view_of released
  cards_kept k e x = refl

  module _ (some : 0 < s.plan.frame) where
    abbrev slice : ℕ
    slice = s.slice

    later : (x y : ℕ) → run (slice + (x + y)) ≡ run (slice + x + y)
    later x y = ap run (sym (add_assoc slice x y))

    -- they give the supply from every slice on
    pub cards_supplied : Supplied (setup_of s.plan j) (moment_of s j)
    unfolding cards_from view_of
    cards_supplied start k t =
        let period = run_period (first_cell s.plan j) (budget_of s.plan j) s.plan.frame in
        rw (window_same k (λ x. run (slice + x)) run start (slice + start) t (later start))
        (supply_everywhere s.plan.frame run period some k (slice + start) t)

    -- over F slices in a row, from any on, they are exactly B
    pub cards_frame : (x : ℕ) → sum_to s.plan.frame (λ y. cards_from s j (x + y)) ≡ budget_of s.plan j
    unfolding cards_from view_of
    cards_frame x =
        sum_cong s.plan.frame (λ y. run (slice + (x + y))) (λ y. run (slice + x + y)) (λ y m. later x y)
        ∙ run_frame (first_cell s.plan j) (budget_of s.plan j) s.plan.frame (slice + x) some
