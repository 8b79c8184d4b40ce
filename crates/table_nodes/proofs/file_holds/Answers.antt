-- `table_nodes::file_holds` meets its contract: each return is a field that is not 0, or the last one. Assumes nothing.
use borrow.Author.Rules.{rules}
use Rattle.table_nodes.proofs.NodeLaws.{file-parent, file-first, file-by}
use Rattle.table_nodes.proofs.file_holds.Goals as goal
use Rattle.table_nodes.proofs.file_holds.Goals.{then-node_parent-ne0-via-then-node_parent-ne0, then-node_parent-ne0-via-else-node_parent-ne0+then-node_first-ne0}

pub returns-then-node_parent-ne0 : goal.returns-then-node_parent-ne0
returns-then-node_parent-ne0 c = elim c.then-node_parent-ne0.branch [
  | then-node_parent-ne0-via-then-node_parent-ne0 w ↦ search (rules, file-parent)
  | then-node_parent-ne0-via-else-node_parent-ne0+then-node_first-ne0 w ↦ search (rules, file-first)
]

pub returns : goal.returns
returns c = search (rules, file-by)
