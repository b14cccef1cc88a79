-- `rescue::entries::Notes::put` meets its contract.
-- Assumes nothing.
use Rattle.std.specs.Prelude.{◌≡◌, ◌/◌, ◌%◌}
use Rattle.std.proofs.Common.{◌∙◌, arith}
use Rattle.rescue.specs.Entry.{entry_bytes}
use Rattle.rescue.specs.Entry.Properties.{noted_one, put_lent}
use Rattle.rescue.proofs.entries.Notes.put.Goals as goal

pub returns : goal.returns
unfolding entry_bytes
returns c =
    let a : c.args.old / 256 % 256 ≡ c.args.old / 256 = omega arith in
    let b : c.args.new / 256 % 256 ≡ c.args.new / 256 = omega arith in
    noted_one _ _ _ _ (put_lent _ _ _ _ (omega arith) (c.copy_from_slice.ensures.after
    ∙ rw (c.to_be_bytes.ensures, c.to_be_bytes-2.ensures, a, b)))
