-- What a row says is what is done: a kind's slices left fall by the bytes that name it.
-- Assumes nothing.
use Rattle.std.specs.Prelude.{◌≡◌, refl, Bool, true, false, cond, ℕ, ◌+◌, ◌-◌}
use Rattle.std.proofs.Common.{arith}
use Rattle.answer.specs.declared.Answer.TheVariants.{Good}
use Rattle.rack.specs.declared.State.{State}
use Rattle.rack.specs.State.{unit_of, InUse}
use Rattle.rack.specs.Rank.{served}
use Rattle.rack.proofs.Laws.Rank.{served_working, working_left}
use Rattle.rack.specs.Row.{row_of}
use Rattle.rack.specs.Advance.{advanced, advance_answer}
use Rattle.rack.proofs.Laws.Advance.{advance_says}
use Rattle.demands.specs.Run.{accepted}
use Rattle.demands.specs.Run.Properties.{now_at}
use Rattle.demands.specs.Named.{names_kind, bytes_in}
use Rattle.demands.specs.Named.Properties.{kind_named}
use Rattle.demands.specs.Safe.{Safe}
use Rattle.demands.specs.View.{cards_from}
use Rattle.demands.specs.View.Steps.{sliced_left}

module _ (s : State) (safe : Safe s) (good : advance_answer s ≡ Good) (i : ℕ) (l : InUse s i) where
  falls : (unit_of (advanced s) i).left ≡ (unit_of s i).left - cond (served s i) 1 0
  falls = sliced_left s (advance_says s good) safe.places i l

  named : bytes_in (names_kind i) (row_of s) ≡ cond (served s i) 1 0
  named = kind_named s.plan (λ j. cards_from s j 0) (accepted s) (now_at s good) i l

  pub named_falls : (unit_of (advanced s) i).left + bytes_in (names_kind i) (row_of s) ≡ (unit_of s i).left
  named_falls = go (served s i) refl
    where
      go : (b : Bool) → served s i ≡ b → (unit_of (advanced s) i).left + bytes_in (names_kind i) (row_of s) ≡ (unit_of s i).left
      go true e =
          let f : (unit_of (advanced s) i).left ≡ (unit_of s i).left - 1 = rw e at falls in
          let n : bytes_in (names_kind i) (row_of s) ≡ 1 = rw e at named in
          omega (arith, working_left s i (served_working s i e))
      go false e =
          let f : (unit_of (advanced s) i).left ≡ (unit_of s i).left - 0 = rw e at falls in
          let n : bytes_in (names_kind i) (row_of s) ≡ 0 = rw e at named in
          omega arith
