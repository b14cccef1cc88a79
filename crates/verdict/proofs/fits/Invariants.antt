-- `verdict::fits` meets its contract.
-- Assumes nothing.
use Rattle.std.proofs.Math.Path.{◌≡◌}
use Rattle.std.specs.Prelude.{replicate}
use Rattle.laws.specs.Written.{written}
use Rattle.answer.specs.declared.Answer.TheVariants.{Good}
use Rattle.answer.specs.Answer.{each_to}
use Rattle.verdict.specs.Verdict.{width_of, bad_slice_of, fitted}
use Rattle.verdict.proofs.fits.Given as goal

abbrev pub invariant-loop-i : goal.invariant-loop-i
invariant-loop-i l =
    (Good ≡ each_to l.i (fitted l.fn.ordered.plan)) × (l.width ≡ written l.i (width_of l.fn.ordered.plan) (replicate 16 0))
    × (l.slice ≡ written l.i (bad_slice_of l.fn.ordered.plan) (replicate 16 0))
