-- Each public operation's contract admits one outcome.
-- Assumes nothing.
use Rattle.std.specs.Prelude.{◌≡◌, refl, ℕ}
use Rattle.answer.specs.declared.Answer.{Answer}
use Rattle.answer.specs.declared.Answer.TheVariants.{No}
use Rattle.answer.specs.declared.Refusal.TheVariants.{Bare}
use Rattle.answer.specs.Answer.{bare, at_project, at_kind, not_admitted, number, place, excess, slice}
use Rattle.answer.specs.Word.{told}
use Rattle.answer.specs.Outcome.{One}
use Rattle.answer.specs.Outcome.Properties.{is_one}
use Rattle.answer.specs.Answer.Properties.{no_is}

-- `Refusal::bare`
pub refusal_bare_one_outcome : (number : ℕ) → One (λ r. No r ≡ bare number)
refusal_bare_one_outcome number = record { outcome = Bare number; meets = refl; only = λ w e. no_is w (Bare number) e }

-- `Answer::bare`
pub bare_one_outcome : (number : ℕ) → One (λ r. r ≡ bare number)
bare_one_outcome number = is_one _

-- `Answer::at_project`
pub at_project_one_outcome : (number project : ℕ) → One (λ r. r ≡ at_project number project)
at_project_one_outcome number project = is_one _

-- `Answer::at_kind`
pub at_kind_one_outcome : (number kind : ℕ) → One (λ r. r ≡ at_kind number kind)
at_kind_one_outcome number kind = is_one _

-- `Answer::not_admitted`
pub not_admitted_one_outcome : (kind excess slice : ℕ) → One (λ r. r ≡ not_admitted kind excess slice)
not_admitted_one_outcome kind excess slice = is_one _

-- `Answer::number`
pub number_one_outcome : (self : Answer) → One (λ r. r ≡ number self)
number_one_outcome self = is_one _

-- `Answer::place`
pub place_one_outcome : (self : Answer) → One (λ r. r ≡ place self)
place_one_outcome self = is_one _

-- `Answer::excess`
pub excess_one_outcome : (self : Answer) → One (λ r. r ≡ excess self)
excess_one_outcome self = is_one _

-- `Answer::slice`
pub slice_one_outcome : (self : Answer) → One (λ r. r ≡ slice self)
slice_one_outcome self = is_one _

-- `Answer::told`
pub told_one_outcome : (self : Answer) (count : ℕ) → One (λ r. r ≡ told self count)
told_one_outcome self count = is_one _
