-- What a rescue leaves in the lent image is the plan that it gives: the next call finds it there, and the record order has nothing but 7 to
-- say of it.
-- Assumes nothing.
use Rattle.std.specs.Prelude.{◌≡◌, List, ℕ, drop}
use Rattle.std.proofs.Common.{ap, ◌∙◌}
use Rattle.answer.specs.declared.Answer.TheVariants.{Good}
use Rattle.answer.specs.Answer.Properties.{and_then_left}
use Rattle.plan.specs.Order.{budgets_fit, checked}
use Rattle.plan_bytes.specs.Parts.{decoded}
use Rattle.plan_bytes.specs.RoundTrip.Reads.{Passes}
use Rattle.rescue.specs.Rescue.{rescued_plan, rescue_answer}
use Rattle.rescue.specs.Rescue.Properties.{counts_says}
use Rattle.rescue.specs.Passing.{Damaged, passes_checked, decoded_damaged, made_passes, made_shaped}
use Rattle.rescue.specs.When.{good_when}
use Rattle.images.specs.Image.{plan_size, plan_from}
use Rattle.images.specs.Lent.{room}
use Rattle.images.specs.Typed.{PlanTyped}
use Rattle.images.specs.Typed.Properties.{passes_typed}
use Rattle.images.specs.RoundTrip.{plan_round_trip}
use Rattle.new_plan_calls.specs.Exports.{rescues_answer, RescuesPlan}

module _ (bytes plan list : List ℕ) (r : ℕ) (after later : List ℕ) (done : RescuesPlan bytes plan list r after later)
    (good : rescues_answer bytes plan list ≡ Good) where
  rescued : rescue_answer bytes list ≡ Good
  unfolding rescues_answer
  rescued = and_then_left (rescue_answer bytes list) (room plan plan_size) good

  damaged : Damaged (decoded bytes)
  damaged = decoded_damaged bytes (counts_says bytes ((good_when bytes list).0 rescued).0).0

  passes : Passes (rescued_plan bytes)
  passes = made_passes (decoded bytes) damaged ((good_when bytes list).0 rescued).1

  -- of the language's type, as what is stored in an image has to be
  pub rescued_typed : PlanTyped (rescued_plan bytes)
  rescued_typed = passes_typed (rescued_plan bytes) (made_shaped (decoded bytes) damaged) passes

  pub rescued_found : plan_from after ≡ rescued_plan bytes
  rescued_found = ap plan_from (done.buffer ∙ rw good) ∙ plan_round_trip (rescued_plan bytes) rescued_typed (drop plan_size plan)

  pub rescued_checked : checked (plan_from after) ≡ budgets_fit (rescued_plan bytes)
  rescued_checked = ap checked rescued_found ∙ passes_checked (rescued_plan bytes) passes
