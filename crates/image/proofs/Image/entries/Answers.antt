-- `Image::entries` meets its contract. Assumes nothing.
use Prim.Native.Nat.{◌+◌, ◌*◌}
use native.Mathlib.Omega.{arith}
use Rattle.model.specs.Tree.{entries_part, tree_of}
use Rattle.laws.proofs.StringLaws.{part-between}
use Rattle.image.proofs.Image.entries.Goals as goal

pub returns : goal.returns
unfolding entries_part tree_of
returns c = let n = c.args.self.counts in
    let start = 20 + 12 * n.nodes + 8 * n.mounts in
    part-between _ _ _ start (start + 8 * n.entries) (omega arith) (omega arith)
