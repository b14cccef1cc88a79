-- Laws of a fresh start: an accepted one gives the plan's fresh state, in form, and a refused one the all-zero state.
-- Assumes nothing.
use Rattle.std.specs.Prelude.{◌≡◌, refl, ℕ}
use Rattle.std.proofs.Common.{sym, ap, ◌∙◌, arith}
use Rattle.std.proofs.lemmas.List.{length-replicate, get_or-replicate}
use Rattle.plan.specs.declared.Plan.{Plan}
use Rattle.plan.specs.declared.Kind.{Kind}
use Rattle.answer.specs.declared.Answer.TheVariants.{Good, No}
use Rattle.answer.specs.declared.Refusal.{Refusal}
use Rattle.plan.specs.Order.{InOrder}
use Rattle.verdict.specs.declared.Verdict.{Verdict}
use Rattle.verdict.specs.Verdict.{judged}
use Rattle.rack.specs.declared.State.{State}
use Rattle.rack.specs.declared.Next.{Next}
use Rattle.unit.specs.declared.Unit.{Unit}
use Rattle.unit.specs.Unit.{no_unit}
use Rattle.rack.specs.State.{kind_at, fresh_of, no_state, Places}
use Rattle.rack.specs.State.Properties.{next_kept, next_moved, refused_keeps, good_moves}
use Rattle.unit.specs.Form.{UnitInForm}
use Rattle.rack.specs.Sums.Properties.{none_left}
use Rattle.rack.specs.Form.{Ready}
use Rattle.rack.specs.Start.{start_answer, start_of}

-- the verdict's answer is the start's
pub start_judged : (p : Plan) (v : Verdict) → v ≡ judged p → v.answer ≡ start_answer p
unfolding judged start_answer
start_judged p v e = ap (λ (w : Verdict). w.answer) e

-- ---- its exits: v is the verdict, and x the state handed back

pub start_kept : (p : Plan) (v : Verdict) (w : Refusal) (x : State) → v ≡ judged p → v.answer ≡ No w → x ≡ no_state →
    ◌≡◌ {A = Next} (record { answer = v.answer; state = x }) (start_of p)
unfolding start_of
start_kept p v w x e q z = rw z (next_kept v.answer (start_answer p) w (fresh_of p) no_state q (start_judged p v e))

pub start_moved : (p : Plan) (v : Verdict) (x : State) → v ≡ judged p → v.answer ≡ Good → x ≡ fresh_of p →
    ◌≡◌ {A = Next} (record { answer = v.answer; state = x }) (start_of p)
unfolding start_of
start_moved p v x e q z = next_moved v.answer (start_answer p) x (fresh_of p) no_state q (start_judged p v e) z

-- ---- what it hands back

pub start_good : (p : Plan) → (start_of p).answer ≡ Good → (start_of p).state ≡ fresh_of p
unfolding start_of
start_good p e = good_moves (start_answer p) (fresh_of p) no_state e

pub start_refused : (p : Plan) (w : Refusal) → (start_of p).answer ≡ No w → (start_of p).state ≡ no_state
unfolding start_of
start_refused p w e = refused_keeps (start_answer p) w (fresh_of p) no_state e

-- the fresh state of a plan in order is in form
pub fresh_form : (p : Plan) → InOrder p → Ready (fresh_of p)
fresh_form p o = record {
  order = o;
  form = record {
    slice_below = o.counts.some_slice;
    unit_at = λ i l m. rw (get_or-replicate 16 i no_unit no_unit l) (never (kind_at (fresh_of p) i));
    unused = λ i l m. get_or-replicate 16 i no_unit no_unit l;
    sums_unused = λ j l m. get_or-replicate 8 j 0 0 l;
  };
  sums = λ j l.
      get_or-replicate 8 j 0 0 (omega (arith, o.counts.projects_most))
      ∙ sym (none_left (fresh_of p) (λ i m.
      ap (λ (v : Unit). v.left) (get_or-replicate 16 i no_unit no_unit (omega (arith, o.counts.kinds_most)))) j);
}
  where
    never : (k : Kind) → UnitInForm k no_unit
    never k = record { gone_most = omega arith; left_most = omega arith; in_time = λ l. absurd (omega arith); never = λ e. (refl, refl) }

pub fresh_places : (p : Plan) → Places (fresh_of p)
fresh_places p = record { sixteen = length-replicate 16 no_unit; eight = length-replicate {A = ℕ} 8 0 }
