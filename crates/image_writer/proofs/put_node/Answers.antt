-- `image_writer::put_node` meets its contract. Assumes nothing.
use borrow.Author.Rules.{rules}
use Rattle.image_writer.proofs.FieldLaws.{node-laid}
use Rattle.image_writer.proofs.put_node.Goals as goal

pub returns : goal.returns
returns c = search (rules, node-laid)
