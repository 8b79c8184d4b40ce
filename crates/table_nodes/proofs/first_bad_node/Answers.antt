-- `table_nodes::first_bad_node` meets its contract. The loop's invariant: the sum is that of the directories passed, and the lowest
-- failing node is the lowest from `n` on. Assumes nothing.
use borrow.Author.Rules.{rules}
use Rattle.model.specs.TableCheck.{directory_count}
use Rattle.table_nodes.proofs.NodeLaws.{nodes-start, node-bad, nodes-on, sum-bad, none-bad}
use Rattle.table_nodes.proofs.first_bad_node.Goals as goal

pub loop-n-init : goal.loop-n-init
unfolding directory_count
loop-n-init c = search (rules, nodes-start)

pub returns-then-not-node_holds : goal.returns-then-not-node_holds
unfolding directory_count
returns-then-not-node_holds c = search (rules, node-bad)

pub loop-n-preserved : goal.loop-n-preserved
unfolding directory_count
loop-n-preserved c = search (rules, nodes-on)

pub returns-then-sum-c : goal.returns-then-sum-c
unfolding directory_count
returns-then-sum-c c = search (rules, sum-bad)

pub returns : goal.returns
unfolding directory_count
returns c = search (rules, none-bad)
