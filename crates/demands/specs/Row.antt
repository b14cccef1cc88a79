-- What a row is: each kind that is served stands in it once, and a project's cards name as many of its kinds as it holds cards,
-- or all that have slices left.
-- Assumes nothing.
use Rattle.std.specs.Prelude.{◌≡◌, refl, Bool, true, false, cond, ℕ, suc, ◌+◌, ◌≤◌, ◌<◌, min}
use Rattle.std.proofs.Common.{sym, ◌∙◌, arith}
use Rattle.std.proofs.lemmas.Bool.{false≢true}
use Rattle.std.proofs.Math.Dec.{eqb}
use borrow.Author.Tests.{eq-eqb, eqb-true}
use Rattle.laws.specs.Count.{count_to}
use Rattle.laws.specs.Count.Properties.{count_never, count_one, count_some}
use Rattle.layout.specs.Layout.{held}
use Rattle.rack.specs.declared.State.{State}
use Rattle.rack.specs.State.{InUse}
use Rattle.rack.specs.Form.{Ready}
use Rattle.rack.specs.Rank.{active_kinds, served}
use Rattle.rack.specs.Row.{row_byte, of_project, cards_taken}
use Rattle.rack.proofs.Laws.Row.{served_stands, stands_served, stands_once, taken_cards}
use Rattle.demands.specs.Named.{names_kind, names_project}

module _ (s : State) (ready : Ready s) where
  -- whether a card of the row names kind i
  abbrev names : ℕ → ℕ → Bool
  names i card = names_kind i (row_byte s card)

  -- how many do
  abbrev cards_of : ℕ → ℕ
  cards_of i = count_to s.plan.cards (names i)

  names_says : (i card : ℕ) → names i card ≡ true → row_byte s card ≡ suc i
  unfolding names_kind
  names_says i card e = omega (arith, eqb-true (row_byte s card) (i + 1) e)

  -- no unit holds two cards
  pub kind_once : (i : ℕ) → cards_of i ≤ 1
  kind_once i = count_one s.plan.cards (names i) (λ c d l m p q. stands_once s ready c d i (names_says i c p) (names_says i d q))

  kind_stands : (i : ℕ) → InUse s i → served s i ≡ true → 0 < cards_of i
  unfolding names_kind
  kind_stands i l e =
      let t = served_stands s ready i l e in
      let there = eq-eqb (row_byte s t.0) (i + 1) (omega (arith, t.2)) in
      count_some s.plan.cards (λ card. eqb (row_byte s card) (i + 1)) t.0 t.1 there

  kind_absent : (i : ℕ) → served s i ≡ false → cards_of i ≡ 0
  kind_absent i e = count_never s.plan.cards (names i) (λ card l. off card (names i card) refl)
    where
      off : (card : ℕ) (b : Bool) → names i card ≡ b → b ≡ false
      off card true t = absurd (false≢true (sym e ∙ stands_served s ready card i (names_says i card t)))
      off card false t = refl

  -- "Each chosen kind": one that is served stands in the row once, any other nowhere
  pub kind_cards : (i : ℕ) → InUse s i → cards_of i ≡ cond (served s i) 1 0
  kind_cards i l = go (served s i) refl
    where
      go : (b : Bool) → served s i ≡ b → cards_of i ≡ cond b 1 0
      go true e = omega (arith, kind_once i, kind_stands i l e)
      go false e = kind_absent i e

  -- a project's kinds: as many as it holds cards, or all that have slices left
  pub project_cards : (j : ℕ) → j < s.plan.projects →
      count_to s.plan.cards (λ card. names_project s.plan j (row_byte s card)) ≡ min (held s.plan j s.slice) (active_kinds s j)
  unfolding names_project of_project cards_taken
  project_cards j l = taken_cards s ready j l
