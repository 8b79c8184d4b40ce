-- `table_nodes::first_bad_node` meets its contract. The loop's invariant: the sum is that of the directories passed, and the lowest
-- failing node is the lowest from `n` on. Assumes nothing.
use Rattle.parts.specs.Parts.{nodes_tree}
use Rattle.table_nodes.proofs.NodeLaws.{NodesFrom}
use Rattle.table_nodes.proofs.first_bad_node.Given as goal

abbrev pub invariant-loop-n : goal.invariant-loop-n
invariant-loop-n l = NodesFrom (nodes_tree l.c l.nodes l.text) l.sum l.n
