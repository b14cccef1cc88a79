-- `lines::text::Text::word` meets its contract.
-- Assumes nothing.
use Rattle.std.proofs.Common.{refl}
use Rattle.lines.specs.Text.Properties.{puts_lent, puts_length}
use Rattle.lines.proofs.text.Text.word.Goals as goal

pub returns : goal.returns
returns c =
    let p = puts_lent _ _ _ _ c.requires c.copy_from_slice.ensures.after in
    record { lent = refl; size = puts_length _ _ _ _ _ p; puts = p }
