-- Laws of the word: it decodes to the parts that it is put together from.
-- Assumes nothing.
use Rattle.std.specs.Prelude.{ℕ, ◌<◌}
use Rattle.std.proofs.Common.{arith}
use Rattle.answer.specs.declared.Answer.{Answer}
use Rattle.answer.specs.Word.{told, Holds, Decodes}

-- whatever is told is read again
pub told_decodes : (a : Answer) (count : ℕ) → Holds a → count < 65536 → Decodes a count (told a count)
unfolding told
told_decodes a count h l =
    record {
      its_number = omega arith;
      its_place = omega arith;
      its_count = omega arith;
      its_excess = omega arith;
      its_slice = omega arith;
    }
