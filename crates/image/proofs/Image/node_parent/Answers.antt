-- `Image::node_parent` meets its contract. Assumes nothing.
use native.Mathlib.Omega.{arith}
use Rattle.model.specs.Tree.{nodes_part, tree_of}
use Rattle.laws.proofs.PartLaws.{read-column}
use Rattle.image.proofs.Image.node_parent.Goals as goal

pub returns : goal.returns
unfolding tree_of nodes_part
returns c = read-column 2 _ _ _ _ _ c.u16_at.ensures (omega arith) (omega arith)
