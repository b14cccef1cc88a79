-- What a state refuses: one in form a release of a kind with work left, always; a safe one nothing with 10, and with 14 where the last
-- release is too recent.
-- Assumes nothing.
use Rattle.std.specs.Prelude.{◌≡◌, refl, ◌≢◌, Bool, true, false, not, ℕ, ◌<◌, ltb}
use Rattle.std.proofs.Common.{sym, ◌∙◌, arith}
use Rattle.std.proofs.lemmas.Bool.{not-false}
use Rattle.answer.specs.declared.Answer.TheVariants.{Good}
use Rattle.answer.specs.Answer.{bare, number, refuse, ◌and_then◌}
use Rattle.plan.specs.Order.{within}
use Rattle.rack.specs.declared.State.{State}
use Rattle.rack.specs.State.{unit_of, kind_at, InUse, used}
use Rattle.rack.specs.Form.{ready, Ready}
use Rattle.rack.specs.Form.Properties.{ready_of, used_of, used_says, unit_form}
use Rattle.unit.specs.Start.{early, startable}
use Rattle.rack.specs.Release.{release_answer}
use Rattle.unit.specs.Start.Properties.{left_early}
use Rattle.rack.specs.Show.{room_for, show_answer}

-- ---- a release's refusals in their order

abbrev told : (twelve thirteen fourteen : Bool) → ℕ
told a b c = number (refuse a (bare 12) and_then (refuse b (bare 13) and_then refuse c (bare 14)))

no_ten : (a b c : Bool) → told a b c ≢ 10
no_ten true b c = omega arith
no_ten false true c = omega arith
no_ten false false true = omega arith
no_ten false false false = omega arith

fourteen : (a b c : Bool) → told a b c ≡ 14 → (a ≡ false) × (b ≡ false) × (c ≡ true)
fourteen true b c e = absurd (omega arith)
fourteen false true c e = absurd (omega arith)
fourteen false false true e = (refl, refl, refl)
fourteen false false false e = absurd (omega arith)

module _ (s : State) (r : Ready s) where
  pub is_ready : ready s ≡ Good
  is_ready = ready_of s r

  module _ (i e : ℕ) where
    abbrev absent : Bool
    absent = not (used s i)

    abbrev misfit : Bool
    misfit = not (within (kind_at s i).length e)

    abbrev soon : Bool
    soon = early (kind_at s i).separation (unit_of s i)

    release_told : number (release_answer s i e) ≡ told absent misfit soon
    unfolding release_answer startable
    release_told = rw is_ready

    pub release_not_ten : number (release_answer s i e) ≢ 10
    release_not_ten h = no_ten absent misfit soon (sym release_told ∙ h)

    -- "14: released before, and fewer than T slices ago"
    pub fourteen_early : number (release_answer s i e) ≡ 14 → (InUse s i) × (within (kind_at s i).length e ≡ true) × (soon ≡ true)
    fourteen_early h =
        let t = fourteen absent misfit soon (sym release_told ∙ h) in
        (used_says s i (not-false (used s i) t.0), not-false (within (kind_at s i).length e) t.1, t.2)

    pub early_fourteen : InUse s i → within (kind_at s i).length e ≡ true → soon ≡ true → number (release_answer s i e) ≡ 14
    early_fourteen l w c = release_told ∙ rw (used_of s i l, w, c)

    -- "15: slices of an earlier unit are left": 14 is told
    pub left_fourteen : InUse s i → within (kind_at s i).length e ≡ true → 0 < (unit_of s i).left → number (release_answer s i e) ≡ 14
    left_fourteen l w some =
        early_fourteen l w (left_early (kind_at s i) (unit_of s i) (unit_form s i r l) (r.order.kind_at_law i l).deadline_most some)

  -- ---- a showing

  module _ (room : ℕ) where
    show_told : number (show_answer s room) ≡ number (refuse (ltb room s.plan.cards) (bare 9))
    unfolding show_answer room_for
    show_told = rw is_ready

    -- 9 or none
    pub show_not : (n : ℕ) → 0 < n → n ≢ 9 → number (show_answer s room) ≢ n
    show_not n p q h = go (ltb room s.plan.cards) (sym show_told ∙ h)
      where
        go : (a : Bool) → number (refuse a (bare 9)) ≡ n → ⊥
        go true e = q (sym e)
        go false e = omega arith
