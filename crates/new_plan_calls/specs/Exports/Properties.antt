-- Laws of what the exported functions answer: one for each way that a function leaves. f is what was found in the image.
-- Assumes nothing.
use Rattle.std.specs.Prelude.{◌≡◌, List, ◌++◌, ℕ, ◌≤◌, ◌<◌, length}
use Rattle.std.proofs.Math.Path.{refl, sym, ap, ap₂}
use Rattle.std.proofs.Common.{◌∙◌}
use native.Mathlib.Omega.{arith}
use Rattle.std.proofs.Math.ListN.{drop}
use Rattle.plan.specs.declared.Plan.{Plan}
use Rattle.answer.specs.declared.Answer.{Answer}
use Rattle.answer.specs.declared.Answer.TheVariants.{Good, No}
use Rattle.answer.specs.declared.Refusal.{Refusal}
use Rattle.answer.specs.Answer.{bare, ◌and_then◌, if_good}
use Rattle.answer.specs.Answer.Properties.{opened_no, opened_on}
use Rattle.one_kind.specs.declared.Built.{Built}
use Rattle.one_kind.specs.Built.{built_of}
use Rattle.rescue.specs.declared.Rescued.{Rescued}
use Rattle.rescue.specs.Rescue.{rescue_answer, rescued_plan, list_size, rescue_of, list_over, Rescues}
use Rattle.rescue.specs.Roomy.{list_most, good_counts, roomy_refused, roomy_good}
use Rattle.images.specs.Image.{plan_size, plan_image}
use Rattle.images.specs.Lent.{room, StoresPlan}
use Rattle.images.specs.Lent.Properties.{short_room, long_room}
use Rattle.answer.specs.Word.{told}
use Rattle.images.specs.Outcome.Properties.{refused_outcome, stored_outcome, uncounted}
use Rattle.new_plan_calls.specs.Exports.{builds_answer, Builds}
use Rattle.new_plan_calls.specs.Exports.{rescues_answer, RescuesPlan}

-- ---- `parchbeetle_build`: v is what was built

pub build_refused : (cards : ℕ) (list plan : List ℕ) (v : Built) (w : Refusal) (r : ℕ) → v ≡ built_of cards list → v.answer ≡ No w →
    r ≡ told v.answer 0 → Builds cards list plan r plan
unfolding builds_answer
build_refused cards list plan v w r e g h =
    refused_outcome (builds_answer cards list plan) v.answer w _ _ plan r g h
    (opened_no v.answer (built_of cards list).answer (room plan plan_size) w g (ap (λ (x : Built). x.answer) e))

pub build_stored : (cards : ℕ) (list plan after : List ℕ) (v : Built) (b : Answer) (r : ℕ) → v ≡ built_of cards list → v.answer ≡ Good →
    StoresPlan v.plan plan b after → r ≡ told b 0 → Builds cards list plan r after
unfolding builds_answer
build_stored cards list plan after v b r e g t h =
    rw (← e) (stored_outcome (v.answer and_then room plan plan_size) b 0 plan_size (plan_image v.plan) plan after r t
    (opened_on v.answer v.answer (room plan plan_size) b g refl t.result) (uncounted b r h))

-- ---- `parchbeetle_rescue`: v is what rescuing did, with the lent list or with one aside

module _ (bytes list later : List ℕ) (v : Rescued) (done : Rescues bytes list v later) where
  rescue_answer_law : v.answer ≡ rescue_answer bytes list
  unfolding rescue_of
  rescue_answer_law = ap (λ (x : Rescued). x.answer) done.result

  pub rescue_count : v.count < 65536
  unfolding rescue_of
  rescue_count = rw done.result (go (rescue_answer bytes list) refl)
    where
      go : (a : Answer) → rescue_answer bytes list ≡ a → if_good a (list_size bytes) 0 < 65536
      go Good e = let m = list_most bytes (good_counts bytes list e) in omega arith
      go (No w) e = omega arith

  pub rescue_refused : (plan : List ℕ) (w : Refusal) (r : ℕ) → v.answer ≡ No w → r ≡ told v.answer 0 →
      RescuesPlan bytes plan list r plan later
  unfolding rescues_answer list_over
  rescue_refused plan w r g h =
      let e : rescue_answer bytes list ≡ No w = sym rescue_answer_law ∙ g in
      record { result = rw e (h ∙ ap (λ (x : Answer). told x 0) g); buffer = rw e; second = rw e (done.buffer ∙ rw e) }

  pub rescue_stored : (plan after : List ℕ) (b : Answer) (r : ℕ) → v.answer ≡ Good → StoresPlan v.plan plan b after →
      plan_size ≤ length plan → r ≡ told b v.count → RescuesPlan bytes plan list r after later
  unfolding rescues_answer rescue_of list_over
  rescue_stored plan after b r g t l h =
      let e : rescue_answer bytes list ≡ Good = sym rescue_answer_law ∙ g in
      let n : v.count ≡ list_size bytes = ap (λ (x : Rescued). x.count) done.result ∙ rw e in
      let p : v.plan ≡ rescued_plan bytes = ap (λ (x : Rescued). x.plan) done.result ∙ rw e in
      let q : room plan plan_size ≡ Good = sym (long_room plan plan_size l) in
      let z : b ≡ Good = t.result ∙ q in
      record {
        result = rw (e, q) (h ∙ ap₂ told z n);
        buffer = rw (e, q) (t.buffer ∙ rw q (ap (λ (x : Plan). plan_image x ++ drop plan_size plan) p));
        second = rw (e, q) (done.buffer ∙ rw e);
      }

  -- the list was made aside, where any list fits
  module _ (room-enough : 342 ≤ length list) (plan other : List ℕ) where
    pub rescue_tried : (w : Refusal) (r : ℕ) → v.answer ≡ No w → r ≡ told v.answer 0 → RescuesPlan bytes plan other r plan other
    unfolding rescues_answer
    rescue_tried w r g h =
        let e = roomy_refused bytes list other room-enough w (sym rescue_answer_law ∙ g) in
        record { result = rw e (h ∙ ap (λ (x : Answer). told x 0) g); buffer = rw e; second = rw e }

    pub rescue_short : (x : Answer) (r : ℕ) → v.answer ≡ Good → length plan < plan_size → x ≡ bare 9 → r ≡ told x 0 →
        RescuesPlan bytes plan other r plan other
    unfolding rescues_answer
    rescue_short x r g l b h =
        let q : room plan plan_size ≡ bare 9 = sym (short_room plan plan_size (bare 9) refl l) in
        let e : (rescue_answer bytes other and_then room plan plan_size) ≡ bare 9
        = ap (λ (y : Answer). rescue_answer bytes other and_then y) q
        ∙ roomy_good bytes list other room-enough (sym rescue_answer_law ∙ g) in
        record { result = rw e (h ∙ ap (λ (y : Answer). told y 0) b); buffer = rw e; second = rw e }
