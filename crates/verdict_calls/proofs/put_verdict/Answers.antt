-- `verdict_calls::put_verdict` meets its contract.
-- Assumes nothing.
use Rattle.verdict_calls.specs.Exports.Properties.{both_put}
use Rattle.verdict_calls.proofs.put_verdict.Goals as goal

pub returns : goal.returns
returns c =
    rw (c.copy_from_slice.ensures.after, c.copy_from_slice-2.ensures.after) (both_put _ _ _ c.told-width c.told-slice c.requires)
