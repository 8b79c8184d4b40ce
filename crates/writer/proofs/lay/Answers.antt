-- `writer::lay` meets its contract. Assumes nothing.
use borrow.Author.Rules.{rules}
use Rattle.writer.proofs.PutLaws.{last_word}
use Rattle.writer.proofs.lay.Goals as goal

pub returns : goal.returns
returns c = search (rules, last_word)
