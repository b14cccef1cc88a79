-- Each public operation's contract admits one outcome.
-- Assumes nothing.
use Rattle.std.specs.Prelude.{◌≡◌, List, ℕ}
use Rattle.answer.specs.Outcome.{One, Lent}
use Rattle.answer.specs.Outcome.Properties.{is_one, leaves_one}
use Rattle.answer.specs.declared.Answer.{Answer}
use Rattle.plan.specs.declared.Plan.{Plan}
use Rattle.rack.specs.declared.State.{State}
use Rattle.rack.specs.State.{no_state}
use Rattle.rack.specs.Start.{start_of}
use Rattle.rack.specs.Release.{release_of}
use Rattle.rack.specs.Show.{Shows}
use Rattle.rack.specs.Advance.{advance_of}

-- `State::empty`
pub empty_one_outcome : One (λ r. r ≡ no_state)
empty_one_outcome = is_one _

-- `State::start`
pub start_one_outcome : (plan : Plan) → One (λ r. r ≡ start_of plan)
start_one_outcome plan = is_one _

-- `State::release`
pub release_one_outcome : (self : State) (kind length : ℕ) → One (λ r. r ≡ release_of self kind length)
release_one_outcome self kind length = is_one _

-- `State::show`
pub show_one_outcome : (self : State) (row : List ℕ) → One (λ (o : Lent Answer). Shows self row o.result o.buffer)
show_one_outcome self row = leaves_one _ _

-- `State::advance`
pub advance_one_outcome : (self : State) → One (λ r. r ≡ advance_of self)
advance_one_outcome self = is_one _
