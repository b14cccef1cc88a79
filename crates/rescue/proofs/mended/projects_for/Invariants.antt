-- `rescue::mended::projects_for` meets its contract.
-- Assumes nothing.
use Rattle.std.specs.Prelude.{◌≡◌, replicate}
use Rattle.laws.specs.Written.{written}
use Rattle.plan.specs.Record.{no_project}
use Rattle.rescue.specs.Mended.{project_for_at}
use Rattle.rescue.proofs.mended.projects_for.Given as goal

abbrev pub invariant-loop-j : goal.invariant-loop-j
invariant-loop-j l = l.project ≡ written l.j (project_for_at l.fn.plan) (replicate 8 no_project)
