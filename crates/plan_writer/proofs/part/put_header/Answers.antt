-- `plan_writer::part::put_header` meets its contract.
-- Assumes nothing.
use Rattle.std.specs.Prelude.{◌≡◌, ◌+◌, ◌*◌, ℕ, [], ◌∷◌}
use Rattle.std.proofs.Common.{ap, ◌∙◌, arith}
use Rattle.std.proofs.lemmas.List.Edits.{sets}
use Rattle.codec.specs.Bytes.{bytes_of}
use Rattle.codec.specs.Pack.{pack}
use Rattle.codec.specs.Places.Properties.{number_lent}
use Rattle.plan_bytes.specs.Parts.{header_widths, header_bytes}
use Rattle.plan_writer.proofs.part.put_header.Goals as goal

pub returns : goal.returns
unfolding header_bytes pack
returns c =
    let v = c.args.plan in
    let n : c.from.result * 1048576 + c.from-2.result * 65536 + c.from-3.result * 2048
    + c.from-4.result * 16 ≡ pack header_widths (v.cards ∷ v.projects ∷ v.kinds ∷ v.frame ∷ 0 ∷ []) = omega arith in
    number_lent 3 0 _ _ _ c.requires c.put_number.ensures.buffer ∙ ap (λ (x : ℕ). sets c.args.out.now 0 (bytes_of 3 x)) n
