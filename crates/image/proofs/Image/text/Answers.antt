-- `Image::text` meets its contract. Assumes nothing.
use mathlib.Core.Path.{sym}
use Rattle.model.specs.Tree.{text_part, tree_of}
use Rattle.laws.proofs.StringLaws.{part-between}
use Rattle.image.proofs.Image.text.Goals as goal

pub returns : goal.returns
unfolding text_part tree_of
returns c = let text_at = c.text_at-start in
    part-between _ _ _ _ _ text_at.ensures.0 (sym text_at.ensures.1)
