-- `supply::two_frames` meets its contract.
-- Assumes nothing.
use Rattle.std.proofs.Common.{rules}
use Rattle.supply.proofs.Laws.Fit.{two_frames_of}
use Rattle.supply.proofs.two_frames.Goals as goal

pub returns : goal.returns
returns c = two_frames_of _ _ _ _ c.requires.0 c.requires.1 (search rules) c.copy_from_slice.ensures.after c.copy_from_slice-2.ensures.after
