-- What a host reads of a kind's figures in the bytes that the call left: W, and for each k of 1..q S(k,D) with its bad slice, each at its
-- place.
-- Assumes nothing.
use Rattle.std.specs.Prelude.{◌≡◌, List, [], ◌∷◌, ◌++◌, ℕ, ◌-◌, ◌*◌, ◌≤◌, ◌<◌, drop}
use Rattle.std.proofs.Math.Path.{refl, ap}
use Rattle.std.proofs.Common.{sym, ◌∙◌, mul-le-mul, arith}
use Rattle.std.proofs.Math.ListN.{get_or}
use Rattle.answer.specs.declared.Answer.{Answer}
use Rattle.answer.specs.declared.Answer.TheVariants.{Good}
use Rattle.answer.specs.Answer.{◌and_then◌, if_good}
use Rattle.answer.specs.Answer.Properties.{and_then_left, and_then_right}
use Rattle.answer.specs.Word.{number_in}
use Rattle.plan.specs.declared.Plan.{Plan}
use Rattle.plan.specs.Order.{kind_of, InOrder}
use Rattle.codec.specs.Place.{fields_of}
use Rattle.codec.specs.Rows.Properties.{row_fields}
use Rattle.supply.proofs.Laws.Supply.{supply_most}
use Rattle.workload.specs.Workload.{workload}
use Rattle.workload.specs.Workload.Properties.{workload_most}
use Rattle.verdict.specs.Verdict.{ceiling_on, held_on}
use Rattle.verdict.specs.Admission.{given, BadSlice}
use Rattle.verdict.specs.Figures.{figures_of}
use Rattle.verdict.specs.Figures.Properties.{figures_say, ceiling_room, workload_is, supply_is, slice_is}
use Rattle.images.specs.Image.{plan_size, plan_from}
use Rattle.images.specs.Lent.{room}
use Rattle.images.specs.FiguresImage.{number_widths, slice_widths, figures_rows, figures_size, supply_place, slice_place, figures_values}
use Rattle.images.specs.FiguresImage.{figures_image}
use Rattle.verdict_calls.specs.Exports.{kind_figures_answer, WritesFigures}
use Rattle.hosts.specs.Words.{figures_listed, figures_decodes}

-- a call that gave back the number 0
module _ (plan : List ℕ) (kind : ℕ) (out : List ℕ) (r : ℕ) (after : List ℕ) (call : WritesFigures plan kind out r after)
    (accepted : number_in r ≡ 0) where
  abbrev its_plan : Plan
  its_plan = plan_from plan

  answer_good : kind_figures_answer plan kind out ≡ Good
  answer_good =
      (figures_listed plan kind out).good.0 (sym (figures_decodes plan kind out r after call).its_number ∙ accepted)

  figures_good : (figures_of its_plan kind).answer ≡ Good
  unfolding kind_figures_answer
  figures_good =
      and_then_left (figures_of its_plan kind).answer (room out figures_size)
      (and_then_right (room plan plan_size) ((figures_of its_plan kind).answer and_then room out figures_size) answer_good)

  stored : after ≡ figures_image (figures_of its_plan kind) ++ drop figures_size out
  stored =
      call.buffer
      ∙ ap (λ (a : Answer). if_good a (figures_image (figures_of its_plan kind) ++ drop figures_size out) out) answer_good

  in_order : InOrder its_plan
  in_order = (figures_say its_plan kind figures_good).0

  there : kind < its_plan.kinds
  there = (figures_say its_plan kind figures_good).1

  -- ---- what the places hold is not cut off

  supply_fits : (k : ℕ) → 0 < k → k ≤ ceiling_on its_plan kind → given its_plan kind k ≤ 32760
  supply_fits k some most =
      let at = in_order.kind_at_law kind there in
      let due : (kind_of its_plan kind).deadline ≤ 4095 = omega (arith, at.deadline_most, at.separation_most) in
      let few : k ≤ 8 = omega (arith, ceiling_room its_plan in_order kind there) in
      let all : k * (kind_of its_plan kind).deadline ≤ 8 * 4095 = mul-le-mul few due in
      omega (
        arith,
        supply_most its_plan.frame (held_on its_plan kind) in_order.counts.some_slice k (kind_of its_plan kind).deadline,
        all,
      )

  -- ---- what is read

  pub workload_read : fields_of number_widths after ≡ workload its_plan kind ∷ []
  unfolding figures_image
  workload_read =
      let same = workload_is its_plan kind figures_good in
      let most = workload_most its_plan in_order.counts.kinds_most in_order.kind_at_law kind there in
      row_fields figures_rows (figures_values (figures_of its_plan kind)) 0 0 after (drop figures_size out) refl (omega arith) (omega arith)
      stored refl (omega (arith, same, most), tt)
      ∙ ap (λ (w : ℕ). w ∷ []) same

  pub supply_read : (k : ℕ) → 0 < k → k ≤ ceiling_on its_plan kind →
      fields_of number_widths (drop (supply_place (k - 1)) after) ≡ given its_plan kind k ∷ []
  unfolding figures_image
  supply_read k some most =
      let same = supply_is its_plan kind figures_good k some most in
      row_fields figures_rows (figures_values (figures_of its_plan kind)) 1 (k - 1) after (drop figures_size out) refl (omega arith)
      (omega (arith, ceiling_room its_plan in_order kind there)) stored refl (omega (arith, same, supply_fits k some most), tt)
      ∙ ap (λ (w : ℕ). w ∷ []) same

  pub slice_read : (k : ℕ) → 0 < k → k ≤ ceiling_on its_plan kind →
      (a : ℕ) × (fields_of slice_widths (drop (slice_place (k - 1)) after) ≡ a ∷ []) × (BadSlice its_plan kind k a)
  unfolding figures_image
  slice_read k some most =
      let bad = slice_is its_plan kind figures_good k some most in (
        get_or (figures_of its_plan kind).slice (k - 1) 0,
        row_fields figures_rows (figures_values (figures_of its_plan kind)) 2 (k - 1) after (drop figures_size out) refl (omega arith)
            (omega (arith, ceiling_room its_plan in_order kind there)) stored refl
            (omega (arith, bad.in_frame, in_order.counts.frame_most), tt),
        bad,
      )
