-- `Image::body` meets its contract. Assumes nothing.
use native.Mathlib.Omega.{arith}
use Rattle.model.specs.Tree.{text_part, tree_of}
use Rattle.laws.proofs.PartLaws.{part-inside}
use Rattle.image.proofs.Image.body.Goals as goal

pub returns : goal.returns
unfolding tree_of text_part
returns c = let text = c.text_at.ensures.0 in
    part-inside _ _ _ _ _ text c.node_first.ensures.0 c.node_count.ensures.0 (omega arith)
