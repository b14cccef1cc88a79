-- `image_reader::released_told` meets its contract.
-- Assumes nothing.
use Rattle.std.specs.Prelude.{refl}
use Rattle.std.proofs.Common.{◌∙◌, rules, tests}
use Rattle.std.proofs.lemmas.Iterator.{YieldsList-from_range}
use Rattle.std.proofs.lemmas.Iterator.Search.{all_from_yields_List}
use Rattle.images.specs.Image.{released_at, released_told}
use Rattle.image_reader.proofs.Arrays.{all_below}
use Rattle.image_reader.proofs.released_told.Goals as goal

pub returns : goal.returns
unfolding released_told
returns c =
    let told = released_at c.args.s.now in
    all_from_yields_List told _ _ _ c.all.ensures.ran (YieldsList-from_range 0 16 16 refl refl) (λ x b q e. search (rules, tests))
    ∙ all_below 16 told
