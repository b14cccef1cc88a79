-- `image_writer::UnitPlaced::put` meets its contract.
-- Assumes nothing.
use Rattle.std.specs.Prelude.{◌≡◌, refl, Bool, true, false, cond}
use Rattle.std.proofs.Common.{◌∙◌}
use Rattle.images.specs.Image.Properties.{put_unit}
use mir.Val.{bool_byte}
use Rattle.image_writer.proofs.UnitPlaced.put.Goals as goal

flag : (told : Bool) → bool_byte told ≡ cond told 1 0
flag true = refl
flag false = refl

pub returns : goal.returns
returns c = put_unit _ _ _ _ _ _ _ (c.from.ensures ∙ flag _) c.from-2.ensures c.from-3.ensures c.put_fields.ensures
