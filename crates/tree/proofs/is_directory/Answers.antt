-- `tree::is_directory` meets its contract. Assumes nothing.
use Prim.Native.Nat.{ℕ}
use mathlib.Core.Path.{ap, ◌∙◌}
use native.Mathlib.Omega.{arith}
use borrow.Author.Tests.{lt-ltb, le-ltb}
use lib.Dec.{eqb}
use Rattle.model.specs.Tree.{tree_of, is_directory}
use Rattle.tree.proofs.is_directory.Goals as goal

pub returns-then-n-image : goal.returns-then-n-image
unfolding is_directory
returns-then-n-image c = let args = c.args in
    ap (λ (k : ℕ). eqb k 1) c.node_kind.ensures.0 ∙ rw (lt-ltb args.n (tree_of args.image.bytes.now).nodes (omega arith))

pub returns-else-n-image : goal.returns-else-n-image
unfolding is_directory
returns-else-n-image c = let args = c.args in
    le-ltb args.n args.image.counts.nodes (omega arith) ∙ rw (le-ltb args.n (tree_of args.image.bytes.now).nodes (omega arith))
