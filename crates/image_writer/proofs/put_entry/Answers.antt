-- `image_writer::put_entry` meets its contract. Assumes nothing.
use borrow.Author.Rules.{rules}
use Rattle.image_writer.proofs.FieldLaws.{entry-laid}
use Rattle.image_writer.proofs.put_entry.Goals as goal

pub returns : goal.returns
returns c = search (rules, entry-laid)
