-- `table_nodes::directory_holds` meets its contract: a parent that is numbered no higher than the node is a node too. Assumes nothing.
use borrow.Author.Rules.{rules}
use Rattle.table_nodes.proofs.NodeLaws.{directory-late, directory-other, directory-by}
use Rattle.table_nodes.proofs.directory_holds.Goals as goal
use Rattle.table_nodes.proofs.directory_holds.Goals.{then-n-parent-via-then-n-parent, then-n-parent-via-else-n-parent+then-node_kind-ne1}

pub returns-then-n-parent : goal.returns-then-n-parent
returns-then-n-parent c = elim c.then-n-parent.branch [
  | then-n-parent-via-then-n-parent w ↦ search (rules, directory-late)
  | then-n-parent-via-else-n-parent+then-node_kind-ne1 w ↦ search (rules, directory-other)
]

pub returns : goal.returns
returns c = search (rules, directory-by)
