-- Each exported function's contract admits one outcome: the number it answers, and what each lent buffer holds then.
-- Assumes nothing.
use Rattle.std.specs.Prelude.{List, ℕ}
use Rattle.answer.specs.Outcome.{One, Lent, LentTwo}
use Rattle.answer.specs.Outcome.Properties.{leaves_one, leaves_two_one}
use Rattle.new_plan_calls.specs.Exports.{Builds}
use Rattle.new_plan_calls.specs.Exports.{RescuesPlan}

-- `parchbeetle_build`
pub parchbeetle_build_one_outcome : (cards : ℕ) (list plan : List ℕ) →
    One (λ (o : Lent ℕ). Builds cards list plan o.result o.buffer)
parchbeetle_build_one_outcome cards list plan = leaves_one _ _

-- `parchbeetle_rescue`
pub parchbeetle_rescue_one_outcome : (bytes plan list : List ℕ) →
    One (λ (o : LentTwo ℕ). RescuesPlan bytes plan list o.result o.buffer o.second)
parchbeetle_rescue_one_outcome bytes plan list = leaves_two_one _ _ _
