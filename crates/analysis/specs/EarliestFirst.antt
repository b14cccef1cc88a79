-- Earliest deadline first: who goes before whom, and the workload W that the test counts against a kind.
-- Assumes nothing.
use Rattle.std.specs.Prelude.{◌&&◌, ℕ, leb}
use Rattle.laws.specs.Where.{sum_where}
use Rattle.supply.specs.Workload.{workload_part}
use Rattle.analysis.specs.Setup.{Setup, other}
use Rattle.analysis.specs.Step.{Priority}
pub mod Coming

-- another kind of the project, due no later
unfoldable pub no_later : Setup → Priority
no_later S m j i = other S i j && leb (m.until j) (m.until i)

-- "let W be the sum over every other kind j of the same project" of its part by document 000's equation 3, with t the judged kind's reach
unfoldable pub workload : Setup → ℕ → ℕ
workload S i = sum_where S.kinds (other S i) (λ j. workload_part (S.separation j) (S.deadline j) (S.length j) (S.reach i))
