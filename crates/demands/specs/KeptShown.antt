-- The layers together, of what a run from a fresh start on an admitted plan shows, and of whom its cards serve.
-- Assumes nothing.
use Rattle.std.specs.Prelude.{◌≡◌, ◌↔◌, true, false, not, ◌&&◌, List, ℕ, ◌+◌, ◌%◌, ◌<◌, eqb, length, get_or}
use Rattle.std.proofs.Common.{ap, ap₂, ◌∙◌, zero-add, arith}
use Rattle.std.proofs.Math.Nat.{mod-mod}
use Rattle.std.proofs.lemmas.List.{get_or-replicate}
use Rattle.laws.specs.Count.{count_to}
use Rattle.laws.specs.Count.Properties.{count_cong}
use Rattle.plan.specs.declared.Plan.{Plan}
use Rattle.answer.specs.declared.Answer.TheVariants.{Good}
use Rattle.plan.specs.Order.{kind_of}
use Rattle.layout.specs.Layout.{cell_at, owns, held}
use Rattle.unit.specs.declared.Unit.{Unit}
use Rattle.unit.specs.Unit.{no_unit}
use Rattle.rack.specs.declared.State.{State}
use Rattle.rack.specs.State.{unit_of}
use Rattle.rack.specs.State.Properties.{good_moves}
use Rattle.rack.specs.Start.{start_of}
use Rattle.rack.specs.Start.Properties.{start_good}
use Rattle.rack.specs.Rank.{working, active, active_kinds}
use Rattle.rack.specs.Release.{started_unit, released, release_answer, release_of}
use Rattle.rack.specs.Release.Properties.{release_says, release_unit}
use Rattle.rack.specs.Row.{row_of, takes}
use Rattle.rack.proofs.Laws.Row.{card_kind}
use Rattle.rack.specs.Advance.{advance_of}
use Rattle.demands.specs.Run.{Call, run_from, after, no_slice, slices_of}
use Rattle.demands.specs.Run.Properties.{run_plan, slices_at}
use Rattle.demands.specs.Named.{names_kind, bytes_naming}
use Rattle.demands.specs.Safe.Properties.{start_safe, after_safe, release_safe}
use Rattle.demands.specs.Cards.{named_takes, takes_named}
use Rattle.demands.specs.Shown.{shown, up_to, none, last_from, left_of, restarted, kinds_left}
use Rattle.demands.specs.Shown.Properties.{slice_before, Its, left_told, left_before, left_falls}

-- "taken modulo F"
held_turned : (p : Plan) (j x : ℕ) → held p j (x % p.frame) ≡ held p j x
unfolding held
held_turned p j x = ap (λ (n : ℕ). count_to p.cards (λ card. owns p j (cell_at p.frame card n))) (mod-mod x p.frame)

module _ (p : Plan) (admitted : (start_of p).answer ≡ Good) where
  abbrev fresh : State
  fresh = (start_of p).state

  start_plan : fresh.plan ≡ p
  start_plan = ap (λ (s : State). s.plan) (start_good p admitted)

  after_plan : (calls : List Call) → (after p calls).plan ≡ p
  after_plan calls = run_plan calls fresh ∙ start_plan

  after_kinds : (calls : List Call) → (after p calls).plan.kinds ≡ p.kinds
  after_kinds calls = ap (λ (q : Plan). q.kinds) (after_plan calls)

  -- ---- the cards

  pub one_kind_each : (calls : List Call) (card i k : ℕ) → i < p.kinds → k < p.kinds →
      takes (after p calls) i card ≡ true → takes (after p calls) k card ≡ true → i ≡ k
  one_kind_each calls card i k l m =
      let ready = (after_safe p admitted calls).ready in
      card_kind (after p calls) ready i k card (omega (arith, after_kinds calls)) (omega (arith, after_kinds calls))

  pub row_names : (calls : List Call) (card i : ℕ) →
      let s = after p calls in
      (advance_of s).answer ≡ Good → card < p.cards →
      (names_kind i (get_or (row_of s) card 0) ≡ true) ↔ ((i < p.kinds) × (takes s i card ≡ true))
  unfolding advance_of
  row_names calls card i good l = (says, of)
    where
      s : State
      s = after p calls

      its_card : card < s.plan.cards
      its_card = omega (arith, ap (λ (q : Plan). q.cards) (after_plan calls))

      says : names_kind i (get_or (row_of s) card 0) ≡ true → (i < p.kinds) × (takes s i card ≡ true)
      says e = let t = named_takes s good card i its_card e in (omega (arith, t.0, after_kinds calls), t.1)

      of : (i < p.kinds) × (takes s i card ≡ true) → names_kind i (get_or (row_of s) card 0) ≡ true
      of t = takes_named s good card i its_card (omega (arith, t.0, after_kinds calls), t.1)

  -- ---- what is left

  its_start : (i : ℕ) → i < p.kinds → Its i fresh
  its_start i l = record { safe = start_safe p admitted; its_kind = rw start_plan l }

  nothing_yet : (i : ℕ) → i < p.kinds → (unit_of fresh i).left ≡ 0
  nothing_yet i l =
      let most = (start_safe p admitted).ready.order.counts.kinds_most in
      let below : i < 16 = omega (arith, most, ap (λ (q : Plan). q.kinds) start_plan) in
      rw (start_good p admitted) (ap (λ (v : Unit). v.left) (get_or-replicate 16 i no_unit no_unit below))

  pub shown_left : (calls : List Call) (i : ℕ) → i < p.kinds →
      (unit_of (after p calls) i).left ≡ left_of (last_from i none (shown fresh calls))
  shown_left calls i l = left_told i calls fresh (its_start i l) none (nothing_yet i l)

  -- ---- a unit

  module _ (calls more : List Call) (i e : ℕ) (good : (release_of (after p calls) i e).answer ≡ Good) where
    abbrev s : State
    s = after p calls

    abbrev next : State
    next = (release_of s i e).state

    accepted : release_answer s i e ≡ Good
    unfolding release_of
    accepted = good

    moved : next ≡ released s i e
    unfolding release_of
    moved = good_moves (release_answer s i e) (released s i e) s good

    its_unit : unit_of (released s i e) i ≡ started_unit e
    its_unit = release_unit s i e (release_says s i e accepted) (after_safe p admitted calls).places

    its : Its i (released s i e)
    unfolding released
    its = record { safe = release_safe s (after_safe p admitted calls) i e accepted; its_kind = (release_says s i e accepted).its_kind }

    pub shown_unit : restarted i (shown next more) ≡ false →
        (unit_of (run_from next more) i).left + bytes_naming (names_kind i) (slices_of next more) ≡ e
    shown_unit = rw moved (λ n. left_falls i more (released s i e) its n ∙ ap (λ (v : Unit). v.left) its_unit)

  -- ---- a project

  pub shown_work : (calls : List Call) (x j : ℕ) →
      let s = (get_or (slices_of fresh calls) x no_slice).before in
      x < length (slices_of fresh calls) →
      (held p j s.slice ≡ held p j x) × (active_kinds s j ≡ kinds_left p j (up_to x (shown fresh calls)))
  unfolding active_kinds active working kinds_left
  shown_work calls x j l = (cards, kinds)
    where
      s : State
      s = (get_or (slices_of fresh calls) x no_slice).before

      same : s.plan ≡ p
      same = (slices_at no_slice calls fresh x l).plan ∙ start_plan

      at_slice : s.slice ≡ x % p.frame
      at_slice =
          slice_before calls fresh (start_safe p admitted).ready.form.slice_below x l
          ∙ ap₂ (λ (n : ℕ) (q : Plan). (n + x) % q.frame) (ap (λ (t : State). t.slice) (start_good p admitted)) start_plan
          ∙ ap (λ (n : ℕ). n % p.frame) (zero-add x)

      cards : held p j s.slice ≡ held p j x
      cards = ap (held p j) at_slice ∙ held_turned p j x

      -- what is left of kind i, by the events before
      left : ℕ → ℕ
      left i = left_of (last_from i none (up_to x (shown fresh calls)))

      its_left : (i : ℕ) → i < p.kinds → (unit_of s i).left ≡ left i
      its_left i m = left_before i calls fresh (its_start i m) none (nothing_yet i m) x l

      kinds : active_kinds s j ≡ kinds_left p j (up_to x (shown fresh calls))
      kinds =
          ap (λ (q : Plan). count_to q.kinds (active s j)) same
          ∙ count_cong p.kinds (active s j) (λ i. eqb (kind_of p i).project j && not (eqb (left i) 0))
          (λ i m. ap₂ (λ (q : Plan) (n : ℕ). eqb (kind_of q i).project j && not (eqb n 0)) same (its_left i m))
