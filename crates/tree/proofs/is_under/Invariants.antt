-- `tree::is_under` meets its contract. The loop's invariant: the node came to is a directory, and meets the root if the first one does.
-- Assumes nothing.
use mathlib.Core.Bool.{true}
use mathlib.Core.Path.{◌≡◌}
use Rattle.model.specs.Tree.{tree_of, is_directory, under}
use Rattle.tree.proofs.is_under.Given as goal

abbrev pub invariant-loop-k : goal.invariant-loop-k
invariant-loop-k l = (is_directory (tree_of l.image.bytes.now) l.k ≡ true) × (under (tree_of l.image.bytes.now) l.n l.root ≡ under (tree_of l.image.bytes.now) l.k l.root)

abbrev pub decreases-loop-k : goal.decreases-loop-k
decreases-loop-k l = l.k
