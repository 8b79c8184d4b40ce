-- `table_nodes::symlink_holds` meets its contract: each return is a part of the sentence that fails, or the last one. Assumes nothing.
use borrow.Author.Rules.{rules}
use mathlib.Core.Path.{ap, ◌∙◌}
use native.Mathlib.Omega.{arith}
use borrow.Author.Tests.{lt-ltb}
use Rattle.model.specs.Bytes.{contains}
use Rattle.table_texts.proofs.SureLaws.{sure-body}
use Rattle.table_nodes.proofs.NodeLaws.{link-parent, link-outside, link-empty, link-long, link-by, link-clean}
use Rattle.table_nodes.proofs.symlink_holds.Goals as goal
use Rattle.table_nodes.proofs.symlink_holds.Goals.{then-node_parent-ne0-via-then-node_parent-ne0}
use Rattle.table_nodes.proofs.symlink_holds.Goals.{then-node_parent-ne0-via-else-node_parent-ne0+then-text-node_first}
use Rattle.table_nodes.proofs.symlink_holds.Goals.{then-node_parent-ne0-via-else-node_parent-ne0+else-text-node_first+then-count-eq0}
use Rattle.table_nodes.proofs.symlink_holds.Goals.{then-node_parent-ne0-via-else-node_parent-ne0+else-text-node_first+else-count-eq0+then-count-gt-MOST_TEXT}

pub returns-then-node_parent-ne0 : goal.returns-then-node_parent-ne0
returns-then-node_parent-ne0 c = elim c.then-node_parent-ne0.branch [
  | then-node_parent-ne0-via-then-node_parent-ne0 w ↦ search (rules, link-parent)
  | then-node_parent-ne0-via-else-node_parent-ne0+then-text-node_first w ↦ search (rules, link-outside)
  | then-node_parent-ne0-via-else-node_parent-ne0+else-text-node_first+then-count-eq0 w ↦ search (rules, link-empty)
  | then-node_parent-ne0-via-else-node_parent-ne0+else-text-node_first+else-count-eq0+then-count-gt-MOST_TEXT w ↦ search (rules, link-long)
]

pub returns-then-n-sure : goal.returns-then-n-sure
returns-then-n-sure c = let a = c.args in
    rw (lt-ltb a.n a.sure c.if-n-sure.true)
    (search (rules, link-clean, sure-body a.nodes.now a.text.now a.c.nodes a.n (omega (arith, c.requires.3)) c.requires.2 (omega arith)))

pub returns-else-n-sure : goal.returns-else-n-sure
returns-else-n-sure c = search (rules, link-by, c.holds_byte.ensures ∙ ap (contains 0) c.body.ensures)
