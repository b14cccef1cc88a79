-- Laws of the bytes that name kinds: in the row of an accepted slice, and in several rows.
-- Assumes nothing.
use Rattle.std.specs.Prelude.{◌≡◌, Bool, cond, List, [], ◌∷◌, ℕ, suc, ◌+◌, ◌≤◌, ◌<◌, min, length, get_or}
use Rattle.std.proofs.Common.{sym, ap₂, ◌∙◌, zero-add, one-add, arith, eqb-true}
use Rattle.std.proofs.Math.Path.{ap}
use Rattle.laws.specs.Count.{count_to}
use Rattle.laws.specs.Count.Properties.{count_cong}
use Rattle.laws.specs.Sum.{sum_to}
use Rattle.laws.specs.Sum.Properties.{sum_none, sum_split, sum_cong}
use Rattle.plan.specs.declared.Plan.{Plan}
use Rattle.layout.specs.Layout.{held}
use Rattle.layout.proofs.Laws.Layout.{held_ceiling}
use Rattle.rack.specs.Rank.{active_kinds, served}
use Rattle.rack.specs.Row.{row_byte}
use Rattle.demands.specs.Run.{Accepted}
use Rattle.demands.specs.Run.Properties.{At, at_held}
use Rattle.demands.specs.Row.{kind_once, kind_cards, project_cards}
use Rattle.demands.specs.Named.{names_kind, names_project, bytes_in, bytes_naming, Orderly}

-- ---- one row

module _ (p : Plan) (holds : ℕ → ℕ) (w : Accepted) (at : At p holds w) where
  -- the bytes of the row are those that the state shows
  bytes_shown : (test : ℕ → Bool) → bytes_in test w.row ≡ count_to w.before.plan.cards (λ card. test (row_byte w.before card))
  unfolding bytes_in
  bytes_shown test =
      rw at.size
      (count_cong w.before.plan.cards (λ card. test (get_or w.row card 0)) (λ card. test (row_byte w.before card))
      (λ card l. ap test (at.shows card l)))

  pub kind_at_most : (i : ℕ) → bytes_in (names_kind i) w.row ≤ 1
  kind_at_most i = omega (arith, bytes_shown (names_kind i), kind_once w.before at.ready i)

  -- one byte for a kind that is served, none for any other
  pub kind_named : (i : ℕ) → i < p.kinds → bytes_in (names_kind i) w.row ≡ cond (served w.before i) 1 0
  kind_named i l = bytes_shown (names_kind i) ∙ kind_cards w.before at.ready i (omega (arith, ap (λ (q : Plan). q.kinds) at.plan))

  -- as many as the project holds cards, or all its kinds with slices left
  pub project_named : (j : ℕ) → j < p.projects → bytes_in (names_project p j) w.row ≡ min (holds j) (active_kinds w.before j)
  project_named j l =
      ap (λ (q : Plan). bytes_in (names_project q j) w.row) (sym at.plan)
      ∙ bytes_shown (names_project w.before.plan j)
      ∙ project_cards w.before at.ready j (omega (arith, ap (λ (q : Plan). q.projects) at.plan))
      ∙ ap (λ (n : ℕ). min n (active_kinds w.before j)) (ap (λ (q : Plan). held q j w.before.slice) at.plan ∙ at_held at j l)

-- every row written
pub orderly : (p : Plan) (holds : ℕ → ℕ) (w : Accepted) → At p holds w → Orderly p w.row
unfolding names_kind
orderly p holds w at = record {
  cards = at.size ∙ ap (λ (q : Plan). q.cards) at.plan;
  one_unit = λ card i k a b. omega (arith, eqb-true (get_or w.row card 0) (i + 1) a, eqb-true (get_or w.row card 0) (k + 1) b);
  one_card = kind_at_most p holds w at;
  ceiling = λ j l. omega (
    arith,
    project_named p holds w at j l,
    at_held at j l,
    held_ceiling p (rw at.plan at at.ready.order) j l w.before.slice,
  );
}

-- ---- several rows

one_term : (f : ℕ → ℕ) → sum_to 1 f ≡ f 0
unfolding sum_to
one_term f = zero-add (f 0)

-- the first of a sum
one_first : (n : ℕ) (f : ℕ → ℕ) → sum_to (suc n) f ≡ f 0 + sum_to n (λ x. f (suc x))
one_first n f =
    ap (λ (k : ℕ). sum_to k f) (sym (one-add n))
    ∙ sum_split 1 n f
    ∙ ap₂ ◌+◌ (one_term f) (sum_cong n (λ x. f (1 + x)) (λ x. f (suc x)) (λ x l. ap f (one-add x)))

pub bytes_sum : (test : ℕ → Bool) (none : Accepted) (slices : List Accepted) →
    bytes_naming test slices ≡ sum_to (length slices) (λ x. bytes_in test (get_or slices x none).row)
unfolding bytes_naming
bytes_sum test none [] = sum_none (λ x. bytes_in test (get_or [] x none).row)
bytes_sum test none (w ∷ slices) =
    ap (λ (n : ℕ). bytes_in test w.row + n) (bytes_sum test none slices)
    ∙ sym (one_first (length slices) (λ x. bytes_in test (get_or (w ∷ slices) x none).row))
