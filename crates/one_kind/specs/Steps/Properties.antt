-- The code's steps to the plan: its loop over the kinds, and its stages in the listed order.
-- Assumes nothing.
use Rattle.std.specs.Prelude.{◌≡◌, refl, List, ℕ, ◌+◌, ◌-◌, ◌*◌, ◌/◌, ◌≤◌, ◌<◌, length, drop, replicate, set}
use Rattle.std.proofs.Common.{sym, ◌∙◌, ◌++◌, mul-le-mul, arith}
use Rattle.std.proofs.Math.Path.{ap}
use Rattle.std.proofs.Math.Dec.{leb}
use borrow.Author.Tests.{le-leb, lt-leb}
use Rattle.laws.specs.Written.{written}
use Rattle.laws.specs.Written.Properties.{written_again}
use Rattle.answer.specs.declared.Answer.{Answer}
use Rattle.answer.specs.declared.Answer.TheVariants.{Good, No}
use Rattle.answer.specs.declared.Refusal.{Refusal}
use Rattle.answer.specs.Answer.{bare, ◌and_then◌}
use Rattle.answer.specs.Answer.Properties.{opened_no, opened_on}
use Rattle.plan.specs.declared.Project.{Project}
use Rattle.plan.specs.declared.Kind.{Kind}
use Rattle.plan.specs.declared.Plan.{Plan}
use Rattle.plan.specs.Record.{no_project, no_kind, no_plan}
use Rattle.plan.specs.Order.{checked}
use Rattle.one_kind.specs.declared.Built.{Built}
use Rattle.one_kind.specs.Wanted.{kinds_in, separation_in, length_in}
use Rattle.one_kind.specs.Wanted.Properties.{kinds_whole, kind_listed}
use Rattle.one_kind.specs.Steps.{Listed, refused}
use Rattle.one_kind.specs.Divisor.{divisor_to}
use Rattle.one_kind.specs.Built.{rounded_up, counts, frame_for, frame_fits, kind_for, kinds_timed, project_for, plan_for, finished_answer}
use Rattle.one_kind.specs.Built.{answer_for, built_with, InLimits, built_of}
use Rattle.one_kind.specs.Built.Properties.{rounded_most, limits_says, plan_checked, counts_say, offer_says}

-- ---- room in a machine word

pub product_most : (F T C : ℕ) → T ≤ 4095 → C ≤ T → F ≤ 64 → F * C ≤ 262080
product_most F T C t c f = let l : C ≤ 4095 = omega arith in mul-le-mul f l

pub rounded_is : (F T C : ℕ) → (F * C + (T - 1)) / T ≡ rounded_up F T C
unfolding rounded_up
rounded_is F T C = refl

pub rounded_room : (F T C : ℕ) → 0 < T → C ≤ T → F ≤ 64 → (F * C + (T - 1)) / T < 65536
rounded_room F T C t c f = omega (arith, rounded_is F T C, rounded_most F T C t c)

-- no byte of a list is left over
pub listed_whole : (m : ℕ) (list : List ℕ) (n : ℕ) → Listed m list n → 4 * n ≡ length list
listed_whole m list n o =
    let most = o.0.some_kind in omega (arith, o.1, kinds_whole list (omega (arith, o.1, most)))

pub framed_whole : (m : ℕ) (list : List ℕ) (n : ℕ) → Listed m list n → 4 * kinds_in list ≡ length list
framed_whole m list n o = omega (arith, o.1, listed_whole m list n o)

-- the divisor of all that it lists
pub framed : (m : ℕ) (list : List ℕ) (n F : ℕ) → Listed m list n → F ≡ divisor_to (kinds_in list) (separation_in list) →
    F ≡ frame_for n (separation_in list)
framed m list n F o e = e ∙ ap (λ (k : ℕ). divisor_to k (separation_in list)) (sym o.1)

-- each of its kinds has a place
pub place_room : (m : ℕ) (list : List ℕ) (kinds : ℕ) → Listed m list kinds → (rest kind next : List ℕ) (n i : ℕ) →
    rest ≡ drop (4 * n) list →
    4 * n ≤ length list → rest ≡ kind ++ next → length kind ≡ 4 → i ≡ n → i < 8
place_room m list kinds o rest kind next n i e l s k f =
    let most = o.0.kinds_most in omega (arith, f, most, kind_listed list rest n e l kind next s k kinds (listed_whole m list kinds o))

-- ---- the loop over the kinds

module _ (m n : ℕ) (T C : ℕ → ℕ) where
  module _ (o : InLimits m n T C) (i s l : ℕ) (q : i < n) (e : s ≡ T i) where
    pub asked_some : 0 < s
    asked_some = omega (arith, (o.kind_at_law i q).some_length, (o.kind_at_law i q).length_most)

    pub asked_most : s ≤ 4095
    asked_most = omega (arith, (o.kind_at_law i q).separation_most)

    pub asked_length : l ≡ C i → l ≤ s
    asked_length f = omega (arith, (o.kind_at_law i q).length_most)

  module _ (i F s l b : ℕ) (p : s ≡ T i) (q : l ≡ C i) where
    project_again : (before after : List Project) → before ≡ written i (project_for n T C) after → F ≡ frame_for n T →
        b ≡ rounded_up F s l → set before i (record { ceiling = 1; budget = b }) ≡ written (i + 1) (project_for n T C) after
    project_again before after e f r =
        written_again i (project_for n T C) after before (record { ceiling = 1; budget = b }) e
        (ap (λ (x : ℕ). record { ceiling = 1; budget = x }) (r ∙ rw (f, p, q)))

    kind_again : (before after : List Kind) → before ≡ written i (kind_for T C) after →
        set before i (record { project = i; separation = s; deadline = s; length = l }) ≡ written (i + 1) (kind_for T C) after
    kind_again before after e =
        written_again i (kind_for T C) after before (record { project = i; separation = s; deadline = s; length = l }) e (rw (p, q))

  -- the plan with the first i kinds in it
  abbrev pub filled : ℕ → ℕ → Plan
  filled F i =
      record {
        cards = m;
        projects = n;
        kinds = n;
        frame = F;
        project = written i (project_for n T C) (replicate 8 no_project);
        kind = written i (kind_for T C) (replicate 16 no_kind);
      }

  pub filled_none : (F : ℕ) →
      record { cards = m; projects = n; kinds = n; frame = F; project = no_plan.project; kind = no_plan.kind } ≡ filled F 0
  unfolding written
  filled_none F = refl

  pub filled_again : (i F s l b : ℕ) → s ≡ T i → l ≡ C i → F ≡ frame_for n T → b ≡ rounded_up F s l → (before : Plan) →
      before ≡ filled F i → record {
        cards = before.cards;
        projects = before.projects;
        kinds = before.kinds;
        frame = before.frame;
        project = set before.project i (record { ceiling = 1; budget = b });
        kind = set before.kind i (record { project = i; separation = s; deadline = s; length = l });
      } ≡ filled F (i + 1)
  filled_again i F s l b p q f r before e =
      let u = project_again i F s l b p q before.project (replicate 8 no_project) (ap (λ (x : Plan). x.project) e) f r in
      let v = kind_again i F s l b p q before.kind (replicate 16 no_kind) (ap (λ (x : Plan). x.kind) e) in
      λ k. record {
        cards = (e k).cards;
        projects = (e k).projects;
        kinds = (e k).kinds;
        frame = (e k).frame;
        project = u k;
        kind = v k;
      }

  pub plan_is : (F i : ℕ) (plan : Plan) → F ≡ frame_for n T → plan ≡ filled F i → i ≡ n → plan ≡ plan_for m n T C
  plan_is F i plan e p z = p ∙ ap (filled F) z ∙ ap (λ (x : ℕ). filled x n) e

  -- ---- the stages

  answered_no : (a x : Answer) (w : Refusal) (v : Built) → a ≡ No w → a ≡ x → v ≡ refused a → v ≡ built_with m n T C x
  answered_no a x w v e q f = f ∙ rw (← q, e)

  answered_good : (a x : Answer) (z : Plan) →
      a ≡ Good →
      a ≡ x →
      z ≡ plan_for m n T C →
      record { answer = a; plan = z } ≡ built_with m n T C x
  answered_good a x z e q f = rw (← q, e, f)

  -- 19
  pub nineteen : (F : ℕ) (a : Answer) (v : Built) → F ≡ frame_for n T → 64 < F → a ≡ bare 19 → v ≡ refused a →
      v ≡ built_with m n T C (finished_answer m n T C)
  unfolding frame_fits
  nineteen F a v e l q f =
      let t : leb (frame_for n T) 64 ≡ _ = lt-leb (frame_for n T) 64 (omega arith) in
      f ∙ rw (t, q)

  module _ (o : InLimits m n T C) (F : ℕ) (e : F ≡ frame_for n T) (l : F ≤ 64) (p : Plan) (q : p ≡ plan_for m n T C) (a : Answer)
      (c : a ≡ checked p) where
    summed : a ≡ finished_answer m n T C
    unfolding frame_fits
    summed =
        let t : leb (frame_for n T) 64 ≡ _ = le-leb (frame_for n T) 64 (omega arith) in
        rw t (c ∙ ap checked q ∙ plan_checked m n T C o (omega arith))

    -- 7
    pub seven : (w : Refusal) (v : Built) → a ≡ No w → v ≡ refused a → v ≡ built_with m n T C (finished_answer m n T C)
    seven w v h f = answered_no a _ w v h summed f

    pub finished_good : a ≡ Good → record { answer = a; plan = p } ≡ built_with m n T C (finished_answer m n T C)
    finished_good h = answered_good a _ p h summed q

module _ (m : ℕ) (list : List ℕ) (n : ℕ) (e : n ≡ kinds_in list) (a : Answer) (q : a ≡ counts m n) where
  -- all kinds are there
  pub listed : a ≡ Good → 4 * kinds_in list ≡ length list
  listed h =
      let some = (offer_says m n (counts_say m n (sym q ∙ h)).0).some_kind in kinds_whole list (omega (arith, e, some))

  pub listed_most : a ≡ Good → kinds_in list ≤ 8
  listed_most h = omega (arith, e, (counts_say m n (sym q ∙ h)).1)

  -- and all are asked
  pub timed_all : (b : Answer) → b ≡ kinds_timed (separation_in list) (length_in list) (kinds_in list) →
      b ≡ kinds_timed (separation_in list) (length_in list) n
  timed_all b f = f ∙ ap (kinds_timed (separation_in list) (length_in list)) (sym e)

  from_list : (v : Built) →
      v ≡ built_with m n (separation_in list) (length_in list) (answer_for m n (separation_in list) (length_in list)) → v ≡ built_of m list
  unfolding built_of
  from_list v f =
      f ∙ ap (λ (k : ℕ). built_with m k (separation_in list) (length_in list) (answer_for m k (separation_in list) (length_in list))) e

  -- 17, 18
  pub counts_refused : (w : Refusal) (v : Built) → a ≡ No w → v ≡ refused a → v ≡ built_of m list
  unfolding answer_for
  counts_refused w v h f =
      let T = separation_in list in
      let C = length_in list in
      from_list v
      (answered_no m n T C a _ w v h (opened_no a (counts m n) (kinds_timed T C n and_then finished_answer m n T C) w h q) f)

  module _ (h : a ≡ Good) (b : Answer) (r : b ≡ kinds_timed (separation_in list) (length_in list) n) where
    -- 6
    pub kinds_refused : (w : Refusal) (v : Built) → b ≡ No w → v ≡ refused b → v ≡ built_of m list
    unfolding answer_for
    kinds_refused w v g f =
        let T = separation_in list in
        let C = length_in list in
        let next = kinds_timed T C n and_then finished_answer m n T C in
        from_list v
        (answered_no m n T C b _ w v g
        (opened_on a (counts m n) next b h q (opened_no b (kinds_timed T C n) (finished_answer m n T C) w g r)) f)

    pub in_limits : b ≡ Good → InLimits m n (separation_in list) (length_in list)
    in_limits g = limits_says m n (separation_in list) (length_in list) (sym q ∙ h) (sym r ∙ g)

    -- 19, 7, or the plan
    pub built_on : (v : Built) → b ≡ Good →
        v ≡ built_with m n (separation_in list) (length_in list) (finished_answer m n (separation_in list) (length_in list)) →
        v ≡ built_of m list
    unfolding answer_for
    built_on v g f =
        let T = separation_in list in
        let C = length_in list in
        let last = finished_answer m n T C in
        from_list v
        (f ∙ ap (built_with m n T C) (opened_on a (counts m n) (kinds_timed T C n and_then last) last h q
        (opened_on b (kinds_timed T C n) last last g r refl)))
