-- `Image::mounts` meets its contract. Assumes nothing.
use Prim.Native.Nat.{◌+◌, ◌*◌}
use native.Mathlib.Omega.{arith}
use Rattle.model.specs.Tree.{mounts_part, tree_of}
use Rattle.laws.proofs.StringLaws.{part-between}
use Rattle.image.proofs.Image.mounts.Goals as goal

pub returns : goal.returns
unfolding mounts_part tree_of
returns c = let n = c.args.self.counts in
    let start = 20 + 12 * n.nodes in
    part-between _ _ _ start (start + 8 * n.mounts) (omega arith) (omega arith)
