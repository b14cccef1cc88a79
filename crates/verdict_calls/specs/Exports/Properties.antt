-- Laws of what the exported functions answer: one for each way that a function leaves. f is the plan or the state that the image says.
-- Assumes nothing.
use Rattle.std.specs.Prelude.{◌≡◌, refl, Ok, Err, List, ◌++◌, ℕ, ◌-◌, ◌≤◌, ◌<◌, length, take, drop, get_or}
use Rattle.std.proofs.Math.Decide.{dec_lt}
use Rattle.std.proofs.lemmas.List.{ext_get_or, get_or_append_left, get_or-append_right, get_or-drop, take_at, drop_at, drop-drop}
use borrow.Rule.Slice.PartMut.{put_mid}
use Rattle.std.proofs.Math.Path.{ap}
use Rattle.std.proofs.Common.{sym, ◌∙◌, arith, length-append, length-drop, lt-ltb, le-ltb}
use Rattle.laws.specs.Written.{written}
use Rattle.laws.specs.Written.Properties.{written_at, written_kept, written_length}
use Rattle.plan.specs.declared.Plan.{Plan}
use Rattle.answer.specs.declared.Answer.{Answer}
use Rattle.answer.specs.declared.Answer.TheVariants.{Good, No}
use Rattle.answer.specs.declared.Refusal.{Refusal}
use Rattle.answer.specs.Answer.{bare, ◌and_then◌, if_good}
use Rattle.answer.specs.Answer.Properties.{and_then_left, and_then_right, opened_no, opened_on}
use Rattle.verdict.specs.declared.Verdict.{Verdict}
use Rattle.verdict.specs.Verdict.{judged}
use Rattle.verdict.specs.declared.figures.Figures.{Figures}
use Rattle.verdict.specs.Figures.{figures_of}
use Rattle.verdict.specs.Figures.Properties.{widths_most}
use Rattle.smallest_budget.specs.declared.Smallest.{Smallest}
use Rattle.smallest_budget.specs.Smallest.{smallest_of}
use Rattle.smallest_budget.specs.Smallest.Properties.{found_most}
use Rattle.images.specs.Image.{plan_size, plan_from}
use Rattle.images.specs.Lent.{room, plan_found}
use Rattle.images.specs.Lent.Properties.{short_room, long_room, plan_is, plan_no, plan_on}
use Rattle.answer.specs.Word.{told}
use Rattle.images.specs.Outcome.Properties.{refused_outcome, good_outcome, stored_outcome}
use Rattle.verdict_calls.specs.Exports.{verdict_answer, verdict_byte, Judges, budget_answer, budget_told}
use Rattle.images.specs.FiguresImage.{figures_size, figures_image, StoresFigures}
use Rattle.verdict_calls.specs.Exports.{kind_figures_answer, WritesFigures}

-- ---- the two halves of a verdict, one after the other

both_written : (w s k : List ℕ) → length w ≡ 16 → length s ≡ 16 → 32 ≤ length k → w ++ (s ++ drop 32 k) ≡ written 32 (verdict_byte w s) k
both_written w s k lw ls lk =
    ext_get_or 0 (w ++ (s ++ drop 32 k)) (written 32 (verdict_byte w s) k)
    (omega (arith, length-append w (s ++ drop 32 k), length-append s (drop 32 k), length-drop 32 k, written_length 32 (verdict_byte w s) k))
    (λ i l. go i (dec_lt i 16) (dec_lt i 32))
  where
    go : (i : ℕ) → Dec (i < 16) → Dec (i < 32) → get_or (w ++ (s ++ drop 32 k)) i 0 ≡ get_or (written 32 (verdict_byte w s) k) i 0
    go i (yes a) q =
        get_or_append_left w (s ++ drop 32 k) 0 i (omega arith)
        ∙ sym (written_at 32 (verdict_byte w s) k 0 i (omega arith) lk ∙ rw (lt-ltb i 16 a))
    go i (no a) (yes b) =
        get_or-append_right w (s ++ drop 32 k) 16 i 0 lw (omega arith) ∙ get_or_append_left s (drop 32 k) 0 (i - 16) (omega arith)
        ∙ sym (written_at 32 (verdict_byte w s) k 0 i b lk ∙ rw (le-ltb i 16 (omega arith)))
    go i (no a) (no b) =
        get_or-append_right w (s ++ drop 32 k) 16 i 0 lw (omega arith) ∙ get_or-append_right s (drop 32 k) 16 (i - 16) 0 ls (omega arith)
        ∙ get_or-drop 32 k (i - 16 - 16) 0 ∙ ap (λ (x : ℕ). get_or k x 0) (omega arith)
        ∙ sym (written_kept 32 (verdict_byte w s) k 0 i (omega arith))

pub both_put : (w s k : List ℕ) → length w ≡ 16 → length s ≡ 16 → 32 ≤ length k →
    put_mid 16 16 (w ++ drop 16 k) s ≡ written 32 (verdict_byte w s) k
both_put w s k lw ls lk =
    let front : take 16 (w ++ drop 16 k) ≡ w = take_at w (drop 16 k) 16 lw in
    let back : drop 16 (drop 16 (w ++ drop 16 k)) ≡ drop 32 k = ap (drop 16) (drop_at w (drop 16 k) 16 lw) ∙ drop-drop 16 16 k in
    ap (λ (m : List ℕ). m ++ (s ++ drop 16 (drop 16 (w ++ drop 16 k)))) front ∙ ap (λ (m : List ℕ). w ++ (s ++ m)) back
    ∙ both_written w s k lw ls lk

-- ---- `parchbeetle_verdict`: v is the verdict

judge_is : (plan : List ℕ) (f : Plan) (v : Verdict) → Ok f ≡ plan_found plan → v ≡ judged f →
    v ≡ judged (plan_from plan)
judge_is plan f v e h = h ∙ ap judged (plan_is plan f e)

judge_stage : (plan k : List ℕ) (f : Plan) (x : Answer) → Ok f ≡ plan_found plan →
    x ≡ ((judged (plan_from plan)).answer and_then room k 32) → x ≡ verdict_answer plan k
unfolding verdict_answer
judge_stage plan k f x e h = plan_on plan f ((judged (plan_from plan)).answer and_then room k 32) x e h

pub judge_refused : (plan k : List ℕ) (f : Plan) (v : Verdict) (w : Refusal) (r : ℕ) → Ok f ≡ plan_found plan →
    v ≡ judged f → v.answer ≡ No w → r ≡ told v.answer 0 → Judges plan k r k
judge_refused plan k f v w r e h n t =
    refused_outcome (verdict_answer plan k) v.answer w _ _ k r n t
    (judge_stage plan k f v.answer e
    (opened_no v.answer (judged (plan_from plan)).answer (room k 32) w n (ap (λ (x : Verdict). x.answer) (judge_is plan f v e h))))

judge_room : (plan k : List ℕ) (f : Plan) (v : Verdict) (x : Answer) → Ok f ≡ plan_found plan → v ≡ judged f →
    v.answer ≡ Good → x ≡ room k 32 → x ≡ verdict_answer plan k
judge_room plan k f v x e h n m =
    judge_stage plan k f x e
    (opened_on v.answer (judged (plan_from plan)).answer (room k 32) x n (ap (λ (y : Verdict). y.answer) (judge_is plan f v e h)) m)

pub judge_short : (plan k : List ℕ) (f : Plan) (v : Verdict) (x : Answer) (r : ℕ) → Ok f ≡ plan_found plan →
    v ≡ judged f → v.answer ≡ Good → x ≡ bare 9 → length k < 32 → r ≡ told x 0 → Judges plan k r k
judge_short plan k f v x r e h n b l t =
    refused_outcome (verdict_answer plan k) x _ _ _ k r b t (judge_room plan k f v x e h n (short_room k 32 x b l))

pub judge_good : (plan k after : List ℕ) (f : Plan) (v : Verdict) (r : ℕ) → Ok f ≡ plan_found plan →
    v ≡ judged f → v.answer ≡ Good → 32 ≤ length k → after ≡ written 32 (verdict_byte v.width v.slice) k →
    r ≡ told v.answer 0 → Judges plan k r after
judge_good plan k after f v r e h n l m t =
    good_outcome (verdict_answer plan k) 0 _ k r after (judge_room plan k f v Good e h n (long_room k 32 l))
    (t ∙ ap (λ (x : Answer). told x 0) n)
    (m ∙ ap (λ (x : Verdict). written 32 (verdict_byte x.width x.slice) k) (judge_is plan f v e h))

-- ---- `parchbeetle_figures`: v is the figures

-- what the bits of a count hold
pub figures_most : (plan : List ℕ) (kind : ℕ) (out : List ℕ) → kind_figures_answer plan kind out ≡ Good →
    (figures_of (plan_from plan) kind).widths < 65536
unfolding kind_figures_answer
figures_most plan kind out e =
    let p = plan_from plan in
    let a = (figures_of p kind).answer in
    let good = and_then_left a (room out figures_size) (and_then_right (room plan plan_size) (a and_then room out figures_size) e) in
    omega (arith, widths_most p kind good)

module _ (plan : List ℕ) (kind : ℕ) (out : List ℕ) (f : Plan) (v : Figures) (e : Ok f ≡ plan_found plan)
    (h : v ≡ figures_of f kind) where
  figures_is : v ≡ figures_of (plan_from plan) kind
  figures_is = h ∙ ap (λ (p : Plan). figures_of p kind) (plan_is plan f e)

  figures_stage : (x : Answer) → x ≡ (v.answer and_then room out figures_size) → x ≡ kind_figures_answer plan kind out
  unfolding kind_figures_answer
  figures_stage x m =
      plan_on plan f ((figures_of (plan_from plan) kind).answer and_then room out figures_size) x e
      (m ∙ ap (λ (y : Figures). y.answer and_then room out figures_size) figures_is)

  pub figures_refused : (w : Refusal) (r : ℕ) → v.answer ≡ No w → r ≡ told v.answer 0 → WritesFigures plan kind out r out
  figures_refused w r n t =
      refused_outcome (kind_figures_answer plan kind out) v.answer w _ _ out r n t
      (figures_stage v.answer (opened_no v.answer v.answer (room out figures_size) w n refl))

  figures_stored : (after : List ℕ) (b : Answer) (r : ℕ) → v.answer ≡ Good → StoresFigures v out b after →
      r ≡ told b (if_good b v.widths 0) → WritesFigures plan kind out r after
  figures_stored after b r n s t =
      rw (← figures_is) (stored_outcome (kind_figures_answer plan kind out) b v.widths figures_size (figures_image v) out after r s
      (figures_stage b (opened_on v.answer v.answer (room out figures_size) b n refl s.result)) t)

  pub figures_short : (after : List ℕ) (b : Answer) (w : Refusal) (r : ℕ) → v.answer ≡ Good → StoresFigures v out b after → b ≡ No w →
      r ≡ told b 0 → WritesFigures plan kind out r after
  figures_short after b w r n s m t = figures_stored after b r n s (t ∙ rw m)

  pub figures_good : (after : List ℕ) (b : Answer) (r : ℕ) → v.answer ≡ Good → StoresFigures v out b after → b ≡ Good →
      r ≡ told b v.widths → WritesFigures plan kind out r after
  figures_good after b r n s m t = figures_stored after b r n s (t ∙ rw m)

-- ---- `parchbeetle_smallest_budget`: v is what was found

-- 0 on a refusal, as the operation has it
budget_is : (p : Plan) (j : ℕ) (a : Answer) → a ≡ (smallest_of p j).answer → (smallest_of p j).budget ≡ if_good a (smallest_of p j).budget 0
unfolding smallest_of
budget_is p j Good e = refl
budget_is p j (No w) e = rw (← e)

-- what the bits of a count hold
pub budget_most : (plan : List ℕ) (project : ℕ) → budget_answer plan project ≡ Good → (smallest_of (plan_from plan) project).budget < 65536
unfolding budget_answer
budget_most plan project e =
    omega (
      arith,
      found_most (plan_from plan) project (and_then_right (room plan plan_size) (smallest_of (plan_from plan) project).answer e),
    )

pub budget_unfound : (plan : List ℕ) (project : ℕ) (w : Refusal) (r : ℕ) → Err w ≡ plan_found plan →
    r ≡ told (No w) 0 → r ≡ budget_told plan project
unfolding budget_answer
budget_unfound plan project w r e h =
    let a = plan_no plan (smallest_of (plan_from plan) project).answer w e in
    h ∙ rw (← a)

pub budget_told_law : (plan : List ℕ) (project : ℕ) (f : Plan) (v : Smallest) (r : ℕ) → Ok f ≡ plan_found plan →
    v ≡ smallest_of f project → r ≡ told v.answer v.budget → r ≡ budget_told plan project
unfolding budget_answer
budget_told_law plan project f v r e h t =
    let s = smallest_of (plan_from plan) project in
    let q : v ≡ s = h ∙ ap (λ (x : Plan). smallest_of x project) (plan_is plan f e) in
    let a : s.answer ≡ (room plan plan_size and_then s.answer) = plan_on plan f s.answer s.answer e refl in
    t ∙ ap (λ (x : Smallest). told x.answer x.budget) q ∙ ap (told s.answer) (budget_is (plan_from plan) project s.answer refl)
    ∙ ap (λ (x : Answer). told x (if_good x s.budget 0)) a
