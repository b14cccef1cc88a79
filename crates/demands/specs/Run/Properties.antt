-- Laws of a run: it is its accepted advances and releases, one after the other, and the rows are those that its states show.
-- Assumes nothing.
use Rattle.std.specs.Prelude.{◌≡◌, refl, List, [], ◌∷◌, ℕ, zero, suc, ◌+◌, ◌%◌, ◌<◌, length, get_or}
use Rattle.std.proofs.Common.{sym, ap, ◌∙◌, add-zero, add_assoc, mod-lt, mod-eq_of_lt, one-add, arith}
use Rattle.std.proofs.Math.Nat.{mod-add-mod}
use Rattle.plan.specs.declared.Plan.{Plan}
use Rattle.answer.specs.declared.Answer.TheVariants.{Good}
use Rattle.rack.specs.declared.State.{State}
use Rattle.layout.specs.Layout.{held}
use Rattle.rack.specs.Form.{Ready}
use Rattle.rack.specs.View.{cards_held}
use Rattle.rack.specs.Rank.{view_of}
use Rattle.rack.proofs.Laws.Rank.{view_held}
use Rattle.rack.specs.Row.{row_byte}
use Rattle.rack.proofs.Laws.Row.{row_size, row_shows}
use Rattle.rack.specs.Release.{released, release_answer}
use Rattle.rack.specs.Advance.{advanced, advance_answer}
use Rattle.rack.proofs.Laws.Advance.{advance_says}
use Rattle.demands.specs.Shown.Along.{along_shown}
use Rattle.demands.specs.View.{cards_from}
use Rattle.demands.specs.View.Properties.{cards_now, cards_later, cards_kept}
use Rattle.demands.specs.Run.{Call, run_from, Accepted, accepted, slices_of}

-- ---- the calls that are accepted: showings and refusals change nothing

-- a claim on a run: the state that it starts from, its accepted advances, and the state that it leads to
abbrev pub Claim : Type 1
Claim = State → List Accepted → State → Type 0

-- it stays with an accepted advance before
abbrev pub WithSlice : Claim → Type 0
WithSlice P = (s end : State) (slices : List Accepted) → advance_answer s ≡ Good →
    P (advanced s) slices end → P s (accepted s ∷ slices) end

-- and with an accepted release before
abbrev pub WithRelease : Claim → Type 0
WithRelease P = (s end : State) (i e : ℕ) (slices : List Accepted) → release_answer s i e ≡ Good →
    P (released s i e) slices end → P s slices end

module _ (P : Claim) (none : (s : State) → P s [] s) (with_slice : WithSlice P) (with_release : WithRelease P) where
  -- then it holds of every run, whatever that shows
  pub along : (calls : List Call) (s : State) → P s (slices_of s calls) (run_from s calls)
  along =
      along_shown (λ s events slices end. P s slices end) none
      (λ s end events slices. with_slice s end slices) (λ s end i e events slices. with_release s end i e slices)

-- ---- how far it gets

-- an advance moves the slice by one within the frame, and nothing else does
pub run_slice : (calls : List Call) (s : State) → s.slice < s.plan.frame →
    (run_from s calls).slice ≡ (s.slice + length (slices_of s calls)) % s.plan.frame
unfolding advanced released
run_slice = along Counts (λ s l. sym (rw (add-zero s.slice) (mod-eq_of_lt l))) with_slice (λ s end i e slices g h. h)
  where
    Counts : Claim
    Counts s slices end = s.slice < s.plan.frame → end.slice ≡ (s.slice + length slices) % s.plan.frame

    with_slice : WithSlice Counts
    with_slice s end slices g h l =
        let some : 0 < s.plan.frame = omega arith in
        h (mod-lt (s.slice + 1) some)
        ∙ mod-add-mod (s.slice + 1) s.plan.frame (length slices)
        ∙ ap (λ (n : ℕ). n % s.plan.frame) (add_assoc s.slice 1 (length slices)
        ∙ ap (λ (n : ℕ). s.slice + n) (one-add (length slices)))

pub run_plan : (calls : List Call) (s : State) → (run_from s calls).plan ≡ s.plan
unfolding advanced released
run_plan = along (λ s slices end. end.plan ≡ s.plan) (λ s. refl) (λ s end slices g h. h) (λ s end i e slices g h. h)

-- ---- the rows

-- an accepted advance on a plan, at which each project holds so many cards
pub record At (p : Plan) (holds : ℕ → ℕ) (w : Accepted) : Type 0 where
  pub plan : w.before.plan ≡ p
  pub cards : (j : ℕ) → cards_held (view_of w.before j) ≡ holds j
  pub ready : Ready w.before
  pub size : length w.row ≡ w.before.plan.cards
  pub shows : (card : ℕ) → card < w.before.plan.cards → get_or w.row card 0 ≡ row_byte w.before card

pub now_at : (s : State) → advance_answer s ≡ Good → At s.plan (λ j. cards_from s j 0) (accepted s)
now_at s g = record {
  plan = refl;
  cards = λ j. sym (cards_now s j);
  ready = advance_says s g;
  size = row_size s;
  shows = row_shows s;
}

-- as the layout counts them
pub at_held : {p : Plan} {holds : ℕ → ℕ} {w : Accepted} → At p holds w → (j : ℕ) → j < p.projects → held p j w.before.slice ≡ holds j
at_held {w = w} a j l =
    let used : j < w.before.plan.projects = omega (arith, ap (λ (q : Plan). q.projects) a.plan) in
    ap (λ (q : Plan). held q j w.before.slice) (sym a.plan) ∙ sym (view_held w.before a.ready j used) ∙ a.cards j

same_cards : {p : Plan} {f g : ℕ → ℕ} {w : Accepted} → ((j : ℕ) → f j ≡ g j) → At p f w → At p g w
same_cards e a = record { plan = a.plan; cards = λ j. a.cards j ∙ e j; ready = a.ready; size = a.size; shows = a.shows }

-- the accepted advances of a run are one after the other, on one plan: at each, a project holds the cards that it was to hold then
pub slices_at : (none : Accepted) (calls : List Call) (s : State) (x : ℕ) → x < length (slices_of s calls) →
    At s.plan (λ j. cards_from s j x) (get_or (slices_of s calls) x none)
unfolding advanced released
slices_at none = along Each (λ s x l. absurd (omega arith)) first same
  where
    Each : Claim
    Each s slices end = (x : ℕ) → x < length slices → At s.plan (λ j. cards_from s j x) (get_or slices x none)

    first : WithSlice Each
    first s end slices g h zero l = now_at s g
    first s end slices g h (suc x) l = same_cards (λ j. cards_later s j x ∙ ap (cards_from s j) (one-add x)) (h x (omega arith))

    same : WithRelease Each
    same s end i e slices g h x l = same_cards (λ j. cards_kept s j i e x) (h x l)
