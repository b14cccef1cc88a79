-- 10 and 16, exactly when: what a call on a state says of the state itself.
-- Assumes nothing.
use Rattle.std.specs.Prelude.{◌≡◌, ◌≢◌, ◌↔◌, Bool, false, not, ◌&&◌, ◌||◌, List, [], ◌∷◌, ℕ, zero, suc, ◌<◌, ltb, eqb, length}
use Rattle.std.proofs.Math.Path.{refl, sym, ap}
use Rattle.std.proofs.Common.{◌∙◌, true≢false, arith, eqb-true}
use Rattle.std.proofs.Math.Bool.{true}
use Rattle.std.proofs.lemmas.Bool.{eqb-false, not-true}
use Rattle.laws.specs.Tests.{and_left, and_right}
use Rattle.laws.specs.All.{all_to}
use Rattle.answer.specs.declared.Answer.{Answer}
use Rattle.answer.specs.declared.Answer.TheVariants.{Good, No}
use Rattle.answer.specs.Answer.{bare, number, refuse, ◌and_then◌}
use Rattle.answer.specs.Numbers.{among, Numbered}
use Rattle.answer.specs.Numbers.Properties.{good_numbered, bare_numbered, refuse_numbered, and_then_numbered}
use Rattle.plan.specs.Order.{within, InOrder, checked}
use Rattle.plan.specs.Order.Properties.{in_order, in_order_good}
use Rattle.unit.specs.Start.{early, startable}
use Rattle.rack.specs.declared.State.{State}
use Rattle.rack.specs.State.{unit_of, kind_at, used, ProjectInUse, project_places, sum_at}
use Rattle.rack.specs.Sums.{project_left, sum_right, sums_right}
use Rattle.rack.specs.Sums.Properties.{sums_say}
use Rattle.rack.specs.Form.{InForm, Ready, in_form, sums_told, ready}
use Rattle.rack.specs.Form.Properties.{form_says, form_of, ready_says, ready_of}
use Rattle.rack.specs.Release.{release_answer, release_of}
use Rattle.rack.specs.Advance.{advance_of}
use Rattle.rack.specs.Show.{room_for, show_answer}
use Rattle.demands.specs.Run.{Call, show, advance, release, next_after}
use Rattle.demands.specs.Numbers.{record_order, state_order, check_numbers, ready_numbers}
use Rattle.demands.specs.Flipped.{own_numbers}

-- ---- a call answers by the state, and then by what is its own

-- what comes after the state's own refusals
rest_of : State → Call → Answer
rest_of s (show bytes) = room_for s (length bytes)
rest_of s advance = Good
rest_of s (release i e) = refuse (not (used s i)) (bare 12) and_then startable (kind_at s i) (unit_of s i) e

answered : (s : State) (call : Call) → (next_after s call).answer ≡ (ready s and_then rest_of s call)
unfolding rest_of show_answer advance_of release_answer release_of
answered s (show bytes) = refl
answered s advance = alone (ready s)
  where
    alone : (a : Answer) → a ≡ (a and_then Good)
    alone Good = refl
    alone (No w) = refl
answered s (release i e) = refl

rest_numbers : (s : State) (call : Call) → Numbered own_numbers (rest_of s call)
unfolding rest_of room_for startable among
rest_numbers s (show bytes) =
    refuse_numbered _ (ltb (length bytes) s.plan.cards) _ (bare_numbered _ 9 (λ z. omega arith) refl)
rest_numbers s advance = good_numbered _
rest_numbers s (release i e) =
    and_then_numbered _ _ _ (refuse_numbered _ (not (used s i)) _ (bare_numbered _ 12 (λ z. omega arith) refl))
    (λ b. and_then_numbered _ _ _ (refuse_numbered _ (not (within (kind_at s i).length e)) _ (bare_numbered _ 13 (λ z. omega arith) refl))
    (λ c. refuse_numbered _ (early (kind_at s i).separation (unit_of s i)) _ (bare_numbered _ 14 (λ z. omega arith) refl)))

-- a number of no such list is the state's own
own_first : (listed : List ℕ) (a b : Answer) (n : ℕ) → among listed n ≡ false → n ≢ 0 → Numbered listed b →
    (number (a and_then b) ≡ n) ↔ (number a ≡ n)
own_first listed Good b n out some k = (λ e. absurd (go b refl e), λ e. absurd (some (sym e)))
  where
    go : (x : Answer) → b ≡ x → number b ≡ n → ⊥
    go Good e q = some (sym q ∙ ap number e)
    go (No w) e q = true≢false (sym (k.its_number w e) ∙ ap (among listed) q ∙ out)
own_first listed (No w) b n out some k = (λ e. e, λ e. e)

-- ---- two lists with no number in common

unfoldable pub disjoint : List ℕ → List ℕ → Bool
disjoint listed [] = true
disjoint listed (m ∷ few) = not (among listed m) && disjoint listed few

pub apart : (listed few : List ℕ) (n : ℕ) → disjoint listed few ≡ true → among few n ≡ true → among listed n ≡ false
unfolding disjoint among
apart listed [] n d e = absurd (true≢false (sym e))
apart listed (m ∷ few) n d e = go (eqb n m) refl (apart listed few n) d e
  where
    go : (b : Bool) → eqb n m ≡ b → (disjoint listed few ≡ true → among few n ≡ true → among listed n ≡ false) →
        (not (among listed m) && disjoint listed few) ≡ true → (b || among few n) ≡ true → among listed n ≡ false
    go true q r d e =
        ap (among listed) (eqb-true n m q)
        ∙ not-true (among listed m) (and_left (not (among listed m)) (disjoint listed few) d)
    go false q r d e = r (and_right (not (among listed m)) (disjoint listed few) d) e

-- ---- of the state itself

-- the record order has neither 10 nor 16
order_first : (s : State) (b : Answer) (n : ℕ) → among record_order n ≡ false → n ≢ 0 → number (checked s.plan and_then b) ≡ n →
    (checked s.plan ≡ Good) × (number b ≡ n)
order_first s b n out some = go (checked s.plan) refl
  where
    go : (x : Answer) → checked s.plan ≡ x → number (checked s.plan and_then b) ≡ n → (checked s.plan ≡ Good) × (number b ≡ n)
    go Good e q = (e, ap (λ (a : Answer). number (a and_then b)) (sym e) ∙ q)
    go (No w) e q =
        let same : number (checked s.plan) ≡ n = ap number e ∙ ap (λ (a : Answer). number (a and_then b)) (sym e) ∙ q in
        absurd (true≢false (sym ((check_numbers s.plan).its_number w e) ∙ ap (among record_order) same ∙ out))

-- a place at which a test fails
some_fails : (n : ℕ) (f : ℕ → Bool) → all_to n f ≡ false → (j : ℕ) × (j < n) × (f j ≡ false)
unfolding all_to
some_fails zero f e = absurd (true≢false e)
some_fails (suc n) f e = go (all_to n f) (f n) refl refl (some_fails n f) e
  where
    go : (a b : Bool) → all_to n f ≡ a → f n ≡ b → (all_to n f ≡ false → (j : ℕ) × (j < n) × (f j ≡ false)) → (a && b) ≡ false →
        (j : ℕ) × (j < suc n) × (f j ≡ false)
    go true true p q r h = absurd (true≢false h)
    go true false p q r h = (n, omega arith, q)
    go false b p q r h = let t = r p in (t.0, omega (arith, t.1), t.2)

-- 10
ten_ready : (s : State) → (number (ready s) ≡ 10) ↔ (InOrder s.plan × (InForm s → ⊥))
unfolding ready sums_told among
ten_ready s = (says, of)
  where
    tests : (a b : Bool) → number (refuse (not a) (bare 10) and_then refuse (not b) (bare 16)) ≡ 10 → a ≡ false
    tests true true e = absurd (omega arith)
    tests true false e = absurd (omega arith)
    tests false b e = refl

    says : number (ready s) ≡ 10 → InOrder s.plan × (InForm s → ⊥)
    says e =
        let t = order_first s (refuse (not (in_form s)) (bare 10) and_then refuse (not (sums_right s)) (bare 16)) 10 refl (omega arith) e in
        (in_order s.plan t.0, λ f. true≢false (sym (form_of s f) ∙ tests (in_form s) (sums_right s) t.1))

    of : InOrder s.plan × (InForm s → ⊥) → number (ready s) ≡ 10
    of h = go (in_form s) refl
      where
        go : (b : Bool) → in_form s ≡ b → number (ready s) ≡ 10
        go true e = absurd (h.1 (form_says s e))
        go false e = rw (in_order_good s.plan h.0, e)

-- a stored sum that differs
abbrev pub SumDiffers : State → Type 0
SumDiffers s = (j : ℕ) × ProjectInUse s j × (sum_at s j ≢ project_left s j)

-- 16
sixteen_ready : (s : State) → (number (ready s) ≡ 16) ↔ (InOrder s.plan × InForm s × SumDiffers s)
unfolding ready sums_told sums_right among
sixteen_ready s = (says, of)
  where
    tests : (a b : Bool) → number (refuse (not a) (bare 10) and_then refuse (not b) (bare 16)) ≡ 16 → (a ≡ true) × (b ≡ false)
    tests true true e = absurd (omega arith)
    tests true false e = (refl, refl)
    tests false b e = absurd (omega arith)

    says : number (ready s) ≡ 16 → InOrder s.plan × InForm s × SumDiffers s
    says e =
        let t = order_first s (refuse (not (in_form s)) (bare 10) and_then refuse (not (sums_right s)) (bare 16)) 16 refl (omega arith) e in
        let both = tests (in_form s) (sums_right s) t.1 in
        let off = some_fails (project_places s) (sum_right s) both.1 in
        (in_order s.plan t.0, form_says s both.0, (off.0, off.1, eqb-false (sum_at s off.0) (project_left s off.0) off.2))

    of : InOrder s.plan × InForm s × SumDiffers s → number (ready s) ≡ 16
    of h = go (sums_right s) refl
      where
        go : (b : Bool) → sums_right s ≡ b → number (ready s) ≡ 16
        go true e = absurd (h.2.2 (sums_say s e h.2.0 h.2.1))
        go false e = rw (in_order_good s.plan h.0, form_of s h.1, e)

-- ---- of every call

module _ (s : State) (call : Call) where
  pub ten_exactly : (number (next_after s call).answer ≡ 10) ↔ (InOrder s.plan × (InForm s → ⊥))
  unfolding among
  ten_exactly =
      let own = own_first own_numbers (ready s) (rest_of s call) 10 refl (omega arith) (rest_numbers s call) in
      (λ e. (ten_ready s).0 (own.0 (ap number (sym (answered s call)) ∙ e)), λ h. ap number (answered s call) ∙ own.1 ((ten_ready s).1 h))

  pub sixteen_exactly : (number (next_after s call).answer ≡ 16) ↔ (InOrder s.plan × InForm s × SumDiffers s)
  unfolding among
  sixteen_exactly =
      let own = own_first own_numbers (ready s) (rest_of s call) 16 refl (omega arith) (rest_numbers s call) in (
        λ e. (sixteen_ready s).0 (own.0 (ap number (sym (answered s call)) ∙ e)),
        λ h. ap number (answered s call) ∙ own.1 ((sixteen_ready s).1 h),
      )

  -- a call that is good, or refused by 9 or by 12 to 14, found nothing wrong with the state
  pub taken_ready : among own_numbers (number (next_after s call).answer) ≡ true → Ready s
  unfolding among disjoint
  taken_ready e = ready_says s (go (ready s) refl)
    where
      go : (a : Answer) → ready s ≡ a → ready s ≡ Good
      go Good q = q
      go (No w) q =
          let same : number (next_after s call).answer ≡ number (ready s) =
          ap number (answered s call ∙ ap (λ (a : Answer). a and_then rest_of s call) q ∙ sym q) in
          let out = apart own_numbers state_order (number (ready s)) refl ((ready_numbers s).its_number w q) in
          absurd (true≢false (sym e ∙ ap (among own_numbers) same ∙ out))

  -- and every call on a state with nothing wrong is
  pub ready_taken : Ready s → among own_numbers (number (next_after s call).answer) ≡ true
  unfolding among
  ready_taken r =
      ap (λ (a : Answer). among own_numbers (number a)) (answered s call ∙ ap (λ (a : Answer). a and_then rest_of s call) (ready_of s r))
      ∙ go (rest_of s call) refl
    where
      go : (a : Answer) → rest_of s call ≡ a → among own_numbers (number (rest_of s call)) ≡ true
      go Good q = ap (λ (a : Answer). among own_numbers (number a)) q
      go (No w) q = (rest_numbers s call).its_number w q
