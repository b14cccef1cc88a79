-- Each public operation's contract admits one outcome.
-- Assumes nothing.
use Rattle.std.specs.Prelude.{◌≡◌, List, ℕ}
use Rattle.answer.specs.Outcome.{One}
use Rattle.answer.specs.Outcome.Properties.{is_one}
use Rattle.output.specs.declared.Output.{Output}
use Rattle.output.specs.Output.{goes_on}

-- `Output::write_str`
pub write_str_one_outcome : (self : Output) (text : List ℕ) → One (λ r. r ≡ goes_on)
write_str_one_outcome self text = is_one _
