-- `image_writer::body_of` meets its contract. Assumes nothing.
use borrow.Author.Rules.{rules}
use Rattle.image_writer.proofs.LinkLaws.{link-body, other-body}
use Rattle.image_writer.proofs.body_of.Goals as goal

pub returns-then-node_kind-eq-SYMLINK : goal.returns-then-node_kind-eq-SYMLINK
returns-then-node_kind-eq-SYMLINK c = search (rules, link-body)

pub returns : goal.returns
returns c = search (rules, other-body)
