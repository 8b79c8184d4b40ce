-- `image_writer::body_length` meets its contract. Assumes nothing.
use Rattle.image_writer.proofs.LinkLaws.{link-length, other_length}
use Rattle.image_writer.proofs.body_length.Goals as goal

pub returns-then-node_kind-eq-SYMLINK : goal.returns-then-node_kind-eq-SYMLINK
returns-then-node_kind-eq-SYMLINK c = let a = c.args in link-length a.nodes.now a.n c.node_kind.ensures.0 c.node_count.ensures c.if-node_kind-eq-SYMLINK.true

pub returns : goal.returns
returns c = let a = c.args in other_length a.nodes.now a.n c.node_kind.ensures.0 c.if-node_kind-eq-SYMLINK.false
