-- `image_writer::put_nodes` meets its contract. Assumes nothing.
use borrow.Author.Rules.{rules}
use Rattle.image_writer.proofs.JoinLaws.{nodes-none, nodes-on}
use Rattle.image_writer.proofs.put_nodes.Goals as goal

pub loop-n-init : goal.loop-n-init
loop-n-init c = search (rules, nodes-none)

pub loop-n-preserved : goal.loop-n-preserved
loop-n-preserved c = let a = c.args in
    nodes-on a.c a.nodes.now a.names c.requires.1 c.loop-n.invariant
    c.loop-n-test.true c.first_at.ensures c.put_node.ensures
    c.body_length-body.ensures
