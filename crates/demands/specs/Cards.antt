-- Whom the cards of an accepted advance serve: a card's byte names the kind that takes it, and two units stand on two cards.
-- Assumes nothing.
use Rattle.std.specs.Prelude.{◌≡◌, refl, ◌≢◌, true, false, List, length, get_or}
use Rattle.std.proofs.Common.{sym, ap, ◌∙◌, arith}
use Prim.Native.Nat.{ℕ, suc, ◌+◌, ◌<◌}
use borrow.Author.Tests.{eq-eqb, eqb-true}
use Rattle.laws.specs.Count.Properties.{count_extra, count_never}
use Rattle.answer.specs.declared.Answer.TheVariants.{Good}
use Rattle.rack.specs.declared.State.{State}
use Rattle.rack.specs.State.{InUse}
use Rattle.rack.specs.Row.{row_byte, row_of, takes}
use Rattle.rack.proofs.Laws.Row.{row_shows, row_takes, row_below, row_is}
use Rattle.rack.specs.Advance.{advance_answer}
use Rattle.rack.proofs.Laws.Advance.{advance_says}
use Rattle.demands.specs.Named.{names_kind, bytes_in, Apart}

module _ (s : State) (good : advance_answer s ≡ Good) where
  abbrev byte : ℕ → ℕ
  byte card = get_or (row_of s) card 0

  pub named_takes : (card i : ℕ) → card < s.plan.cards → names_kind i (byte card) ≡ true → (InUse s i) × (takes s i card ≡ true)
  unfolding names_kind
  named_takes card i l e =
      let b : row_byte s card ≡ suc i = omega (arith, row_shows s card l, eqb-true (byte card) (i + 1) e) in
      (row_below s card i b, row_takes s card i b)

  pub takes_named : (card i : ℕ) → card < s.plan.cards → (InUse s i) × (takes s i card ≡ true) → names_kind i (byte card) ≡ true
  unfolding names_kind
  takes_named card i l t =
      let ready = advance_says s good in
      eq-eqb (byte card) (i + 1) (omega (arith, row_shows s card l, row_is s ready card i t.0 t.1))

-- ---- two units

-- a byte that names a kind stands on some card
named_somewhere : (i : ℕ) (row : List ℕ) → 0 < bytes_in (names_kind i) row →
    (card : ℕ) × (card < length row) × (names_kind i (get_or row card 0) ≡ true)
unfolding bytes_in
named_somewhere i row l =
    let none = count_never (length row) (λ card. false) (λ x m. refl) in
    let t = count_extra (length row) (λ card. names_kind i (get_or row card 0)) (λ card. false) (omega (arith, none)) in
    (t.0, t.1, t.2)

-- and one byte names one kind
one_name : (i k byte : ℕ) → names_kind i byte ≡ true → names_kind k byte ≡ true → i ≡ k
unfolding names_kind
one_name i k byte a b = omega (arith, eqb-true byte (i + 1) a, eqb-true byte (k + 1) b)

pub named_apart : (i k : ℕ) (row : List ℕ) → i ≢ k → 0 < bytes_in (names_kind i) row → 0 < bytes_in (names_kind k) row → Apart i k row
named_apart i k row d a b =
    let c = named_somewhere i row a in
    let o = named_somewhere k row b in
    record {
      card = c.0;
      other = o.0;
      two = λ e. d (one_name i k (get_or row o.0 0) (ap (λ (x : ℕ). names_kind i (get_or row x 0)) (sym e) ∙ c.2) o.2);
      first = (c.1, c.2);
      second = (o.1, o.2);
    }
