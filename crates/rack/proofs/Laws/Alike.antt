-- Laws of two states that a project cannot tell apart: it has the same ranks, bytes of the row and release answers in both, and the
-- states that follow are two of the kind.
-- Assumes nothing.
use Rattle.std.specs.Prelude.{◌≡◌, ◌≢◌, Bool, ℕ, ◌+◌, ◌%◌}
use Rattle.std.proofs.Math.Path.{refl, sym, ap, ap₂}
use Rattle.std.proofs.Common.{◌∙◌, arith}
use Rattle.std.proofs.Math.Bool.{true, false}
use Rattle.std.proofs.Math.Decide.{ℕ_discrete}
use Rattle.std.proofs.Math.Dec.{eqb}
use borrow.Author.Tests.{eqb-true}
use Rattle.plan.specs.declared.Kind.{Kind}
use Rattle.rack.specs.declared.State.{State}
use Rattle.rack.specs.State.{unit_of, kind_at, InUse, ProjectInUse, Places}
use Rattle.rack.specs.Form.{Ready}
use Rattle.rack.specs.Form.Properties.{ready_of, used_of}
use Rattle.rack.specs.View.{Same, has_card, rank_of, chosen, byte_on}
use Rattle.rack.proofs.Laws.View.{same_has, same_rank, same_chosen, same_byte}
use Rattle.rack.specs.Rank.{until, working, active, outranks, view_of, rank, served}
use Rattle.rack.proofs.Laws.Rank.{active_of, active_project, sooner_agree}
use Rattle.rack.specs.Row.{holds, row_byte}
use Rattle.rack.proofs.Laws.Row.{holds_has, row_own}
use Rattle.rack.specs.Release.{Releasable, release_answer, released}
use Rattle.rack.specs.Release.Properties.{release_unit, release_others}
use Rattle.rack.specs.Advance.{unit_after, advanced}
use Rattle.rack.proofs.Laws.Advance.{unit_after_law}
use Rattle.rack.specs.Alike.{Mine, Alike}

module _ (j : ℕ) (s t : State) (alike : Alike j s t) where
  same_active : (i : ℕ) → InUse s i → active s j i ≡ active t j i
  unfolding active working
  same_active i l = go (eqb (kind_at s i).project j) refl
    where
      go : (b : Bool) → eqb (kind_at s i).project j ≡ b → active s j i ≡ active t j i
      go true e = rw (← alike.mine i l, e, alike.unit i (record { its_kind = l; its_project = eqb-true (kind_at s i).project j e }))
      go false e = rw (← alike.mine i l, e)

  same_until : (i : ℕ) → Mine j s i → until s i ≡ until t i
  same_until i m = rw (alike.unit i m, alike.kind i m)

  same_order : (k i : ℕ) → Mine j s k → Mine j s i → outranks s k i ≡ outranks t k i
  unfolding outranks
  same_order k i a b = sooner_agree (until s) (until t) k i (same_until k a) (same_until i b)

  pub same_view : Same (view_of s j) (view_of t j)
  unfolding view_of
  same_view = record {
    places = alike.places;
    active = same_active;
    above = λ k i l m a b. same_order k i (own k l a) (own i m b);
    first = alike.first;
    budget = alike.budget;
    frame = alike.frame;
    slice = alike.slice;
  }
    where
      own : (i : ℕ) → InUse s i → active s j i ≡ true → Mine j s i
      own i l a = record { its_kind = l; its_project = active_project s j i a }

  -- ---- of a kind of the project

  module _ (i : ℕ) (mine : Mine j s i) where
    theirs : Mine j t i
    theirs = record {
      its_kind = omega (arith, mine.its_kind, alike.places);
      its_project = ap (λ (k : Kind). k.project) (sym (alike.kind i mine)) ∙ mine.its_project;
    }

    pub alike_rank : working s i ≡ true → rank s i ≡ rank t i
    unfolding rank view_of
    alike_rank w =
        ap (λ (x : ℕ). rank_of (view_of s x) i) mine.its_project
        ∙ same_rank (view_of s j) (view_of t j) same_view i mine.its_kind (active_of s j i mine.its_project w)
        ∙ ap (λ (x : ℕ). rank_of (view_of t x) i) (sym theirs.its_project)

    pub alike_served : served s i ≡ served t i
    unfolding served view_of
    alike_served =
        ap (λ (x : ℕ). chosen (view_of s x) i) mine.its_project
        ∙ same_chosen (view_of s j) (view_of t j) same_view i mine.its_kind
        ∙ ap (λ (x : ℕ). chosen (view_of t x) i) (sym theirs.its_project)

    -- its release is answered alike, where the whole states are in form
    pub alike_release : Ready s → Ready t → (e : ℕ) → release_answer s i e ≡ release_answer t i e
    unfolding release_answer
    alike_release r q e =
        let here = used_of s i mine.its_kind in
        let there = used_of t i theirs.its_kind in
        rw (ready_of s r, ready_of t q, here, there, alike.kind i mine, alike.unit i mine)

  -- ---- on a card that the project holds

  pub alike_byte : (card : ℕ) → byte_on (view_of s j) card ≡ byte_on (view_of t j) card
  alike_byte card = same_byte (view_of s j) (view_of t j) same_view card

  pub alike_row : (card : ℕ) → ProjectInUse s j → ProjectInUse t j → holds s.plan j s.slice card ≡ true →
      row_byte s card ≡ row_byte t card
  alike_row card l m h =
      let here : has_card (view_of s j) card ≡ true = sym (holds_has s j card) ∙ h in
      let there : has_card (view_of t j) card ≡ true = sym (same_has (view_of s j) (view_of t j) same_view card) ∙ here in
      row_own s j card l here ∙ alike_byte card ∙ sym (row_own t j card m there)

-- ---- after an advance of both

module _ (j : ℕ) (s t : State) (alike : Alike j s t) where
  pub alike_advanced : Ready s → Ready t → Places s → Places t → Alike j (advanced s) (advanced t)
  unfolding advanced unit_after
  alike_advanced a b p q = record {
    places = alike.places;
    mine = alike.mine;
    kind = λ i m. alike.kind i (before i m);
    unit = λ i m. unit_after_law s a p i m.its_kind ∙ after i (before i m) ∙ sym (unit_after_law t b q i (there i (before i m)));
    first = alike.first;
    budget = alike.budget;
    frame = alike.frame;
    slice = ap₂ (λ (x f : ℕ). (x + 1) % f) alike.slice alike.frame;
  }
    where
      before : (i : ℕ) → Mine j (advanced s) i → Mine j s i
      before i m = record { its_kind = m.its_kind; its_project = m.its_project }

      there : (i : ℕ) → Mine j s i → InUse t i
      there i m = (theirs j s t alike i m).its_kind

      after : (i : ℕ) → Mine j s i → unit_after s i ≡ unit_after t i
      after i m = rw (alike.unit i m, alike.kind i m, alike_served j s t alike i m)

  -- ---- after releases

  -- of a kind of the project, in both
  pub alike_own : (k e : ℕ) → Releasable s k e → Releasable t k e → Places s → Places t → Alike j (released s k e) (released t k e)
  unfolding released
  alike_own k e a b p q = record {
    places = alike.places;
    mine = alike.mine;
    kind = λ i m. alike.kind i (before i m);
    unit = λ i m. after i (before i m);
    first = alike.first;
    budget = alike.budget;
    frame = alike.frame;
    slice = alike.slice;
  }
    where
      before : (i : ℕ) → Mine j (released s k e) i → Mine j s i
      before i m = record { its_kind = m.its_kind; its_project = m.its_project }

      after : (i : ℕ) → Mine j s i → unit_of (released s k e) i ≡ unit_of (released t k e) i
      after i m =
          elim (ℕ_discrete i k) [
            | yes z ↦ rw z (release_unit s k e a p ∙ sym (release_unit t k e b q))
            | no z ↦ release_others s k e a p i z ∙ alike.unit i m ∙ sym (release_others t k e b q i z)
          ]

  -- of a kind of another project, in one
  pub alike_other : (k e : ℕ) → (kind_at s k).project ≢ j → Releasable s k e → Places s → Alike j (released s k e) t
  unfolding released
  alike_other k e other a p = record {
    places = alike.places;
    mine = alike.mine;
    kind = λ i m. alike.kind i (before i m);
    unit = λ i m. kept i m ∙ alike.unit i (before i m);
    first = alike.first;
    budget = alike.budget;
    frame = alike.frame;
    slice = alike.slice;
  }
    where
      before : (i : ℕ) → Mine j (released s k e) i → Mine j s i
      before i m = record { its_kind = m.its_kind; its_project = m.its_project }

      kept : (i : ℕ) → Mine j (released s k e) i → unit_of (released s k e) i ≡ unit_of s i
      kept i m = release_others s k e a p i (λ z. other (ap (λ (x : ℕ). (kind_at s x).project) (sym z) ∙ m.its_project))
