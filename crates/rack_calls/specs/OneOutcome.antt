-- Each exported function's contract admits one outcome: the number it answers, and what each lent buffer holds then.
-- Assumes nothing.
use Rattle.std.specs.Prelude.{List, ℕ}
use Rattle.answer.specs.Outcome.{One, Lent}
use Rattle.answer.specs.Outcome.Properties.{leaves_one}
use Rattle.rack_calls.specs.Exports.{Starts, Releases}
use Rattle.rack_calls.specs.Exports.{ShowsRow, Advances}

-- `parchbeetle_fresh`
pub parchbeetle_fresh_one_outcome : (plan state : List ℕ) → One (λ (o : Lent ℕ). Starts plan state o.result o.buffer)
parchbeetle_fresh_one_outcome plan state = leaves_one _ _

-- `parchbeetle_release`
pub parchbeetle_release_one_outcome : (state : List ℕ) (kind e : ℕ) → One (λ (o : Lent ℕ). Releases state kind e o.result o.buffer)
parchbeetle_release_one_outcome state kind e = leaves_one _ _

-- `parchbeetle_show`
pub parchbeetle_show_one_outcome : (state row : List ℕ) → One (λ (o : Lent ℕ). ShowsRow state row o.result o.buffer)
parchbeetle_show_one_outcome state row = leaves_one _ _

-- `parchbeetle_advance`
pub parchbeetle_advance_one_outcome : (state : List ℕ) → One (λ (o : Lent ℕ). Advances state o.result o.buffer)
parchbeetle_advance_one_outcome state = leaves_one _ _
