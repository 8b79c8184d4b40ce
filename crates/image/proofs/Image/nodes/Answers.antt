-- `Image::nodes` meets its contract. Assumes nothing.
use Prim.Native.Nat.{◌+◌, ◌*◌}
use native.Mathlib.Omega.{arith}
use Rattle.model.specs.Tree.{nodes_part, tree_of}
use Rattle.laws.proofs.StringLaws.{part-between}
use Rattle.image.proofs.Image.nodes.Goals as goal

pub returns : goal.returns
unfolding nodes_part tree_of
returns c = part-between _ _ _ 20 (20 + 12 * c.args.self.counts.nodes) (omega arith) (omega arith)
